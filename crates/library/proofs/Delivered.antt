-- Demand 3 over the calls of the library: any list of lk_compile and lk_reclaim as they were made and answered, at any block numbers and for any loaders, then lk_run, lk_parse and lk_preview as they were answered. Each call comes in by its own promise. Assumes nothing.
use Rattle.std.specs.Prelude.{◌≡◌, refl, Bool, true, false, List, map, ℕ, ◌<◌, ℤ, length}
use Rattle.std.proofs.Common.{sym, ap, ◌∙◌, subst, arith}
use Rattle.std.proofs.Math.Option.{Option, none, some}
use Rattle.std.proofs.lemmas.List.{length-map}
use Rattle.model.specs.Limits.{slot_count}
use Rattle.model.specs.Save.{Save}
use Rattle.model.specs.Sheet.{Sheet, save_refusal}
use Rattle.model.specs.Shop.{Slot, with_slots}
use Rattle.model.specs.Flags.{shop_inside}
use Rattle.model.specs.Meaning.{Means}
use Rattle.model.specs.Memory.{block_in}
use Rattle.model.specs.RecordCalls.{Born, born_at, run_in, parse_in}
use Rattle.model.specs.Lists.{Along, after_all, last_at, now_at}
use Rattle.model.proofs.Laws.Lists.{Follows, Followed, follows_all, follows_along}
use Rattle.shop.specs.Shapes.{slots_of, slot_of}
use Rattle.shop_arrays.specs.Arrays.{Arrays, shop_from}
use Rattle.shop_arrays.specs.Slots.{slots_long}
use Rattle.compile.specs.Answer.{call_of, CompiledAs}
use Rattle.parse.specs.Answer.{ParsedAs}
use Rattle.preview.specs.Accepted.{with_all}
use Rattle.reclaim_model.specs.Changes.{given_to}
use Rattle.reclaim_model.proofs.Laws.Others.{AsWas}
use Rattle.reclaim_record.proofs.Stands.{LongBorn}
use Rattle.capi.specs.declared.Ran.{Ran}
use Rattle.capi.specs.Answers.{loader_by, ran_as, previewed_as}
use Rattle.engine.specs.Delivered as engine
use Rattle.engine.proofs.Delivered as engine_laws
use Rattle.library.specs.Delivered.{AsPromised, Asked, Delivered, Made, as_call, compile, given_by, left_by, made, reclaim, shop_of}

-- ---- as the calls that they make

abbrev pub call_by : Made → engine.Made
call_by x = record { asked = as_call x.asked; refusal = x.answer.refusal; after = left_by x; told = x.told }

-- arrays stand for twenty slots
pub shop_long : (a : Arrays) → length (shop_of a) ≡ slot_count
unfolding slots_of
shop_long a = length-map (shop_from a).slots slot_of ∙ slots_long a

with_shop : (a : Arrays) → with_slots (shop_of a) ≡ shop_of a
with_shop a = with_all (shop_of a) (shop_long a)

given_is : (a : Asked) → given_by a ≡ given_to (engine.as_change (as_call a))
given_is (compile o b a) = sym (with_shop a)
given_is (reclaim rs mv) = refl

follows : (P : Born → Made → Type 0) → Follows made engine.made call_by P (λ k t. k ≡ t)
follows P = record {
  refusal = λ k t x e p. refl;
  next = λ k t x e p. refl;
  now = λ k t x b e p. refl;
  names = λ x b. refl;
  given = λ x. given_is x.asked;
  count = λ k t e. ap (λ (j : Born). j.memory.count) e;
}

promised_is : (h : Sheet) (k : Born) (x : Made) (a : Asked) → x.asked ≡ a → AsPromised h k x → engine.AsPromised h k (call_by x)
promised_is h k x (compile o b a) e p = rw e (rw e at p)
promised_is h k x (reclaim rs mv) e p = rw e (rw e at p)

-- ---- demand 3

-- the first gets the script k, each later one the script as the one before left it. long: the lengths of the five arrays, which the types of the calls say; nothing is asked of what they hold, marks and count are taken as they stand
module _ (h : Sheet) (k : Born) (xs : List Made) (long : LongBorn k) (promised : Along made (AsPromised h) k xs) where
  abbrev calls : List engine.Made
  calls = map call_by xs

  along : (Q : Born → Made → Type 0) (Q' : Born → engine.Made → Type 0) → ((t : Born) (x : Made) → Q t x → Q' t (call_by x)) → Along made Q k xs → Along engine.made Q' k (map call_by xs)
  along Q Q' f q =
      follows_along made engine.made call_by (AsPromised h) (λ k t. k ≡ t) (follows (AsPromised h)) Q Q' (λ k t x e p. subst (λ (j : Born). Q' j (call_by x)) e (f k x p)) k k refl xs promised q

  pub followed : Followed made engine.made (λ k t. k ≡ t) k k xs (map call_by xs)
  followed = follows_all made engine.made call_by (AsPromised h) (λ k t. k ≡ t) (follows (AsPromised h)) k k refl xs promised

  pub promises : Along engine.made (engine.AsPromised h) k (map call_by xs)
  promises = along (AsPromised h) (engine.AsPromised h) (λ t x p. promised_is h t x x.asked refl p) promised

  demand : engine.Delivered h k (map call_by xs)
  demand = engine_laws.delivered h k calls long promises

  now_is : (b : ℕ) → now_at engine.made k (map call_by xs) b ≡ now_at made k xs b
  now_is b = sym (followed.now b)

  last_is : (b : ℕ) → last_at engine.made k (map call_by xs) b ≡ last_at made k xs b
  last_is b = sym (followed.last none b)

  -- a run on the script after the list, as the engine names it
  run_at : (b : ℕ) (s : Save) (n : ℕ) → run_in h (after_all made k xs).memory b s n ≡ run_in h (after_all engine.made k (map call_by xs)).memory b s n
  run_at b s n = ap (λ (t : Born). run_in h t.memory b s n) followed.after

  pub delivered : Delivered h k xs
  delivered = record {
    runs = λ b b' ys n e i s f budget r v p. demand.runs b b' ys (now_is b ∙ n) (last_is b ∙ e) i s f budget (ran_as r v) (p ∙ run_at b' s budget);
    ends = λ b b' ys n e s f budget r v p. demand.ends b b' ys (now_is b ∙ n) (last_is b ∙ e) s f budget (ran_as r v) (p ∙ run_at b' s budget);
    same = λ b b' ys n e s f budget other r q v w p u o i.
        demand.same b b' ys (now_is b ∙ n) (last_is b ∙ e) s f budget other (ran_as r v) (ran_as q w) (p ∙ run_at b' s budget) (u ∙ run_at b' s other) o i;
    parses = λ b b' ys n e m t p.
        demand.parses b b' ys (now_is b ∙ n) (last_is b ∙ e) (record { refusal = m; shop = shop_from t })
        (subst (λ (g : Born). ParsedAs (parse_in h g.memory b') (record { refusal = m; shop = shop_from t })) followed.after p.stands);
    previews = λ b b' ys n e s f budget l r v q p u. demand.previews b b' ys (now_is b ∙ n) (last_is b ∙ e) s f budget l (ran_as r v) (previewed_as q) (p ∙ run_at b' s budget) u;
    others = λ b b' l n e.
        subst (λ (f : ℕ → Option ℕ). AsWas f (block_in k.memory b) (block_in (after_all made k xs).memory b')) (λ i j. now_is j i)
        (subst (λ (t : Born). AsWas (now_at engine.made k calls) (block_in k.memory b) (block_in t.memory b')) (sym followed.after) (demand.others b b' l (now_is b ∙ n) (last_is b ∙ e)));
    births = λ b b' l n. ap (λ (t : Born). born_at t b') followed.after ∙ demand.births b b' l (now_is b ∙ n);
    later = λ loader setup shop n after p l u.
        let t = followed.after in
        let a = demand.later (loader_by loader) setup (shop_from shop) n after (subst (λ (j : Born). CompiledAs h j (call_of (loader_by loader) setup (shop_from shop)) n after) t p) (subst (λ (j : Born). setup < j.memory.count) t l) (λ b q z. u b q (followed.now b ∙ z)) in
        (a.0, a.1 ∙ sym t);
  }

  -- a run that is not refused is one of a shop whose flags lie in the save (A.10), and leaves what that shop means
  pub means_of : (b b' : ℕ) (ys : List Slot) → now_at made k xs b ≡ some b' → last_at made k xs b ≡ some ys → (s : Save) → save_refusal h s ≡ 0 → (budget : ℕ) (r : Ran) (v : List ℤ)
      → ran_as r v ≡ run_in h (after_all made k xs).memory b' s budget → r.refusal ≡ 0 → Means h s ys s.variables v
  means_of b b' ys n e s f budget r v p z = by (shop_inside ys) refl
    where
      by : (t : Bool) → shop_inside ys ≡ t → Means h s ys s.variables v
      by true i = (delivered.runs b b' ys n e i s f budget r v p).means z
      by false i =
          let w = (delivered.ends b b' ys n e s f budget r v p).else_spent (λ q. let y : 0 ≡ 23 = sym z ∙ q ∙ rw i in omega arith) in
          absurd (let y : 0 ≡ 15 = sym z ∙ w in omega arith)

  -- where no call moves a block, as lk_compile and a refused lk_reclaim do not, every block of the start where none was accepted is as it was
  pub unmoved : Along made (λ t x. (j : ℕ) → made.now t x j ≡ some j) k xs → (b : ℕ) → b < k.memory.count → last_at made k xs b ≡ none
      → block_in (after_all made k xs).memory b ≡ block_in k.memory b
  unmoved a b l e =
      ap (λ (t : Born). block_in t.memory b) followed.after
      ∙ engine_laws.unmoved h k calls long promises (along (λ t x. (j : ℕ) → made.now t x j ≡ some j) (λ t x. (j : ℕ) → (engine.made).now t x j ≡ some j) (λ t x p. p) a) b l (last_is b ∙ e)
