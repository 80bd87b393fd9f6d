-- Demand 3 over the exported calls: any list of compiles and reclaims as they were made and answered, at any block numbers, then a run and a parse as they were answered. Each call comes in by its own promise. Assumes nothing.
use Rattle.std.specs.Prelude.{◌≡◌, Bool, get_or, Result, Ok, Err, IfOk}
use Rattle.std.proofs.Math.Path.{refl, sym, ap, subst}
use Rattle.std.proofs.Common.{◌∙◌, eqb-true}
use Rattle.std.proofs.Math.Bool.{true, false, cond}
use Rattle.std.proofs.Math.Option.{Option, none, some}
use mathlib.Core.List.{List, [], ◌∷◌, map}
use Prim.Native.Nat.{ℕ, ◌<◌}
use Rattle.std.proofs.Math.Dec.{eqb}
use Rattle.model.specs.Refusal.{accepted}
use Rattle.model.specs.Refusals.{refusal_in}
use Rattle.model.specs.declared.Refusal.{Refusal}
use Rattle.model.specs.Refusals.{refuses}
use Rattle.model.specs.Save.{Save}
use Rattle.model.specs.Sheet.{Sheet, save_refusal}
use Rattle.model.specs.Shop.{Slot}
use Rattle.model.specs.Flags.{flag_answer, until_outside}
use Rattle.model.specs.Normal.{normal_shop}
use Rattle.model.specs.Run.{Ran}
use Rattle.model.specs.Parse.{Parsed}
use Rattle.model.specs.Memory.{block_in}
use Rattle.model.specs.Lists.{Along, after_all, last_at, now_at}
use Rattle.model.proofs.Demand.{RunsAs, runs_inside}
use Rattle.model.specs.RecordCalls.{Born, born_at, compile_refusal_in, compiled_in, parse_in, run_in}
use Rattle.model.proofs.Laws.Lists.{Follows, Followed, follows_all}
use Rattle.compile.specs.Answer.{call_of}
use Rattle.shop.specs.declared.Shop.{Shop}
use Rattle.shop.specs.Shapes.{slots_of}
use Rattle.parse.specs.Answer.{HandedOut, ParsedShop, answer_of}
use Rattle.model.specs.Preview.{preview_call}
use Rattle.preview.specs.Shown as shown
use Rattle.preview.specs.Agree.{AgreesCall, call_agrees, preview_agrees}
use Rattle.reclaim_model.specs.Rename.{Every, links_of}
use Rattle.reclaim_model.specs.Reclaim.{moved_word, word_tells}
use Rattle.reclaim_model.specs.Changes as change
use Rattle.reclaim_model.proofs.Laws.Renames.{rename_agree, rename_same}
use Rattle.reclaim_record.specs.Calls.{change_refusal_in, changed_in, changes_in, moved_in, number_after_in, reclaim_refusal_in}
use Rattle.reclaim_record.proofs.Moved.{moved_tells}
use Rattle.reclaim_record.proofs.Stands.{LongBorn}
use Rattle.reclaim_record.specs.Demand.{Demand3MixedIn}
use Rattle.reclaim_record.proofs.Demand.{demand_3_mixed_in}
use Rattle.reclaim.specs.Answer.{ReclaimedAs}
use Rattle.engine.specs.Delivered.{AsPromised, Asked, Delivered, Made, RanWell, as_change, compile, made, reclaim, tells_of}

-- ---- from the promises to the definitions

some_same : {i j : ℕ} → ◌≡◌ {A = Option ℕ} (some i) (some j) → i ≡ j
some_same e = cc

stays_along : (k : Born) (xs : List Made) → Along made (λ t x. (j : ℕ) → made.now t x j ≡ some j) k xs → (b : ℕ) → now_at made k xs b ≡ some b
unfolding Along now_at
stays_along k [] a b = refl
stays_along k (x ∷ xs) a b = rw (a.0 b) (stays_along x.after xs a.1 b)

tells_told : (o : Option ℕ) → word_tells (moved_word o) ≡ o
tells_told none = refl
tells_told (some k) = refl

module _ (h : Sheet) where
  asked_refusal : (a : Asked) (k : Born) (x : Made) → x.asked ≡ a → AsPromised h k x → x.refusal ≡ change_refusal_in h k (as_change a)
  unfolding change_refusal_in
  asked_refusal (compile o b sh) k x e p = (rw e at p).answer
  asked_refusal (reclaim rs mv) k x e p = (rw e at p).answer

  asked_next : (a : Asked) (k : Born) (x : Made) → x.asked ≡ a → AsPromised h k x → x.after ≡ changed_in h k (as_change a)
  unfolding changed_in
  asked_next (compile o b sh) k x e p = (rw e at p).is
  asked_next (reclaim rs mv) k x e p = (rw e at p).is

  asked_now : (a : Asked) (k : Born) (x : Made) (j : ℕ) → x.asked ≡ a → AsPromised h k x → tells_of a x.refusal x.told j ≡ number_after_in k (as_change a) j
  unfolding number_after_in
  asked_now (compile o b sh) k x j e p = refl
  asked_now (reclaim rs mv) k x j e p =
      let q : ReclaimedAs k rs mv x.refusal x.after x.told = rw e at p in
      rw (q.answer, q.tells) (by (eqb (reclaim_refusal_in k rs) 0) refl)
    where
      by : (t : Bool) → eqb (reclaim_refusal_in k rs) 0 ≡ t → cond t (word_tells (get_or (moved_in k rs mv) j 0)) (some j) ≡ number_after_in k (change.reclaim rs) j
      by true z = ap word_tells (moved_tells k rs mv (eqb-true _ _ z) j) ∙ tells_told (number_after_in k (change.reclaim rs) j)
      by false z = rw z

  abbrev pub call : Made → change.Change
  call x = as_change x.asked

  follows : Follows made (changes_in h) call (AsPromised h) (λ k t. k ≡ t)
  follows = record {
    refusal = λ k t x e p. asked_refusal x.asked k x refl p ∙ ap (λ (j : Born). change_refusal_in h j (call x)) e;
    next = λ k t x e p. asked_next x.asked k x refl p ∙ ap (λ (j : Born). changed_in h j (call x)) e;
    now = λ k t x b e p. asked_now x.asked k x b refl p ∙ ap (λ (j : Born). number_after_in j (call x) b) e;
    names = λ x b. refl;
    given = λ x. refl;
    count = λ k t e. ap (λ (j : Born). j.memory.count) e;
  }

  -- ---- demand 3

  -- the first gets the record k, each later one the record as the one before returned or left it. long: the lengths of the lent arrays; nothing is asked of what they hold, marks and count are taken as they stand
  module _ (k : Born) (xs : List Made) (long : LongBorn k) (promised : Along made (AsPromised h) k xs) where
    abbrev calls : List change.Change
    calls = map call xs

    -- the list is one of compiles and reclaims on the record
    pub followed : Followed made (changes_in h) (λ k t. k ≡ t) k k xs (map (λ x. as_change x.asked) xs)
    followed = follows_all made (changes_in h) call (AsPromised h) (λ k t. k ≡ t) follows k k refl xs promised

    demand : Demand3MixedIn h k calls
    demand = demand_3_mixed_in h k long calls

    now_is : (b : ℕ) → now_at (changes_in h) k calls b ≡ now_at made k xs b
    now_is b = sym (followed.now b)

    last_is : (b : ℕ) → last_at (changes_in h) k calls b ≡ last_at made k xs b
    last_is b = sym (followed.last none b)

    runs_at : (b b' : ℕ) (ys : List Slot) → now_at made k xs b ≡ some b' → last_at made k xs b ≡ some ys → (s : Save) → save_refusal h s ≡ 0
        → RunsAs h s (flag_answer ys) (until_outside ys) (λ budget. run_in h (after_all made k xs).memory b' s budget)
    runs_at b b' ys n e s f =
        subst (λ (t : Born). RunsAs h s (flag_answer ys) (until_outside ys) (λ budget. run_in h t.memory b' s budget)) (sym followed.after) (demand.ends b b' ys (now_is b ∙ n) (last_is b ∙ e) s f)

    ran : (b : ℕ) (s : Save) (a : ℕ) (ys : List Slot) → RunsAs h s a ys (λ budget. run_in h (after_all made k xs).memory b s budget)
        → (budget : ℕ) (r : Ran) → r ≡ run_in h (after_all made k xs).memory b s budget → RanWell h s a ys budget r
    ran b s a ys w budget r p =
        rw p (record { answered = w.answered budget; else_spent = w.else_spent budget; few = w.few budget; means = w.means budget })

    -- a parse that hands out a shop, in numbers
    handed : (ys : List Slot) (p : Parsed) → p ≡ record { answer = 0; slots = normal_shop h ys } → (r : Result Shop Refusal) → HandedOut p r → (refusal_in r ≡ 0) × IfOk r (λ t. slots_of t ≡ normal_shop h ys)
    handed ys p e (Ok t) q = (refl, q.shop.slots refl ∙ ap (λ (a : Parsed). a.slots) e)
    handed ys p e (Err n) q = absurd (refuses n (q.refusal ∙ ap (λ (a : Parsed). a.answer) e))

    parsed_at : (b b' : ℕ) (ys : List Slot) → now_at made k xs b ≡ some b' → last_at made k xs b ≡ some ys → parse_in h (after_all made k xs).memory b' ≡ record { answer = 0; slots = normal_shop h ys }
    parsed_at b b' ys n e = ap (λ (t : Born). parse_in h t.memory b') followed.after ∙ demand.parses b b' ys (now_is b ∙ n) (last_is b ∙ e)

    pub delivered : Delivered h k xs
    unfolding answer_of
    delivered = record {
      runs = λ b b' ys n e i s f budget r p. ran b' s accepted ys (runs_inside h s ys _ i (runs_at b b' ys n e s f)) budget r p;
      ends = λ b b' ys n e s f budget r p. ran b' s (flag_answer ys) (until_outside ys) (runs_at b b' ys n e s f) budget r p;
      same = λ b b' ys n e s f budget other r q p u o i.
          let a = runs_at b b' ys n e s f in
          p ∙ a.same budget (sym (ap (λ (x : Ran). x.answer) p) ∙ o) ∙ sym (u ∙ a.same other (sym (ap (λ (x : Ran). x.answer) u) ∙ i));
      parses = λ b b' ys n e r p.
          let q = parsed_at b b' ys n e in
          let z : r.refusal ≡ 0 = ap (λ (a : ParsedShop). a.refusal) (p.is ∙ ap answer_of q) in
          (z, p.slots z ∙ ap (λ (a : Parsed). a.slots) q);
      hands_out = λ b b' ys n e r p. handed ys (parse_in h (after_all made k xs).memory b') (parsed_at b b' ys n e) r p;
      previews = λ b b' ys n e s f budget l r q p u.
          let a = ran b' s (flag_answer ys) (until_outside ys) (runs_at b b' ys n e s f) budget r p in
          let g = demand.given b b' ys (now_is b ∙ n) (last_is b ∙ e) in
          let z = a.answered l in
          subst (λ (x : ℕ). AgreesCall q x r.variables) (sym z)
          (subst (λ (x : shown.Answer). AgreesCall x (flag_answer ys) r.variables) (sym u) (call_agrees (preview_call h ys s) (flag_answer ys) r.variables (preview_agrees h ys g.sheet g.twenty g.ok s f r.variables (a.means z))));
      others = λ b b' l n e.
          let w = demand.others b b' l (now_is b ∙ n) (last_is b ∙ e) in
          record {
            follow = w.follow;
            same = ap (λ (t : Born). block_in t.memory b') followed.after ∙ w.same;
            links = every_same (links_of (block_in k.memory b)) w.follow w.links;
          };
      births = λ b b' l n. ap (λ (t : Born). born_at t b') followed.after ∙ demand.births b b' l (now_is b ∙ n);
      later = λ loader setup shop n after p l u.
          let c = call_of loader setup shop in
          let t = followed.after in
          let a = demand.later c (subst (λ (j : Born). setup < j.memory.count) t l) (λ b q z. u b q (followed.now b ∙ z)) in
          let m = demand.marked c a.0 in
          (p.answer ∙ ap (λ (j : Born). compile_refusal_in h j c) t ∙ a.1, p.is ∙ ap (λ (j : Born). compiled_in h j c) t ∙ m.1 ∙ sym t);
    }
      where
        every_same : (js : List ℕ) (f : ℕ → ℕ) → Every (λ j. now_at (changes_in h) k calls j ≡ some (f j)) js → Every (λ j. now_at made k xs j ≡ some (f j)) js
        every_same [] f a = tt
        every_same (j ∷ js) f a = (followed.now j ∙ a.0, every_same js f a.1)

    -- where no call moves a block, as compiles and refused reclaims do not, every block of the start where none was accepted is as it was
    pub unmoved : Along made (λ t x. (j : ℕ) → made.now t x j ≡ some j) k xs → (b : ℕ) → b < k.memory.count → last_at made k xs b ≡ none
        → block_in (after_all made k xs).memory b ≡ block_in k.memory b
    unmoved a b l e =
        let w = delivered.others b b l (stays_along k xs a b) e in
        w.same ∙ rename_agree w.follow (λ j. j) (block_in k.memory b) (own (links_of (block_in k.memory b)) w.follow w.links) ∙ rename_same (block_in k.memory b)
      where
        own : (js : List ℕ) (f : ℕ → ℕ) → Every (λ j. now_at made k xs j ≡ some (f j)) js → Every (λ j. f j ≡ j) js
        own [] f q = tt
        own (j ∷ js) f q = (some_same (sym q.0 ∙ stays_along k xs a j), own js f q.1)
