-- The walk over the calls of the library: any list of lk_compile and lk_reclaim as they were made and answered, then a walk at a surviving block where an lk_compile was accepted. Each call comes in by its own promise. Assumes nothing.
use Rattle.std.specs.Prelude.{◌≡◌, true, ◌≢◌, List, [], ◌∷◌, map, get_or, length, drop, ℤ}
use Rattle.std.proofs.Math.Path.{refl, ap, subst}
use Rattle.std.proofs.Common.{sym, ◌∙◌, arith}
use Rattle.std.proofs.Math.Option.{none, some}
use Prim.Native.Nat.{ℕ, zero, suc, ◌+◌, ◌≤◌, ◌<◌}
use Rattle.std.proofs.lemmas.List.{length-map}
use Rattle.std.proofs.Math.ListN.{get_or-append}
use Rattle.std.proofs.lemmas.List.Edits.{sets, sets-eq}
use Rattle.model.specs.Limits.{lane_budget, most_saves, walk_blocks}
use Rattle.model.specs.Refusal.{budget_spent}
use Rattle.model.specs.Save.{Save}
use Rattle.model.specs.Sheet.{Sheet, item_count}
use Rattle.model.specs.Shop.{Slot}
use Rattle.model.specs.Memory.{Memory}
use Rattle.model.specs.RecordCalls.{Born, run_in}
use Rattle.model.specs.Run.{Ran}
use Rattle.model.specs.Lists.{Along, after_all, last_at, now_at}
use Rattle.model.proofs.Laws.Lists.{Followed}
use Rattle.reclaim_model.specs.Rename.{Every}
use Rattle.reclaim_model.specs.Changes.{Change}
use Rattle.reclaim_record.specs.Calls.{changes_in}
use Rattle.reclaim_record.proofs.Stands.{LongBorn}
use Rattle.engine.specs.Delivered as engine
use Rattle.engine.proofs.Delivered as engine_laws
use Rattle.library.specs.Delivered.{AsPromised, Made, made}
use Rattle.library.proofs.Delivered.{call_by, followed, promises}
use Rattle.lanes_model.specs.Flat.{Left, left_by, saves_in, saves_ok, walk_in, walk_refusal_in}
use Rattle.lanes_model.proofs.Laws.Ends.{walk_ends_in}
use Rattle.lanes_model.proofs.Laws.Walks.{saves_many, walk_passed_in}
use Rattle.lanes_calls.specs.Record.{Served, walk_served}

-- a walk of n saves that lie in f, as it was answered: w is what it answered and left, rs, es and vs what the arrays held before
abbrev pub WalkedAs : Sheet → Memory → ℕ → ℕ → Save → List ℕ → List ℕ → List ℤ → Left → Type 0
WalkedAs h m b n f rs es vs w = w ≡ left_by (walk_in h m b n f) rs es vs

-- ---- no save's refusal is 15

-- what is written from the start of an array on
written : (xs ys : List ℕ) (j : ℕ) → length ys ≤ length xs → j < length ys → get_or (sets xs 0 ys) j 0 ≡ get_or ys j 0
written xs ys j l i = ap (λ (zs : List ℕ). get_or zs j 0) (sets-eq ys xs 0 (omega arith)) ∙ get_or-append ys (drop (0 + length ys) xs) 0 j i

answer_at : (rs : List Ran) (j : ℕ) → Every (λ (r : Ran). r.answer ≢ budget_spent) rs → get_or (map (λ (r : Ran). r.answer) rs) j 0 ≢ budget_spent
answer_at [] j a = λ e. omega arith
answer_at (r ∷ rs) zero a = a.0
answer_at (r ∷ rs) (suc j) a = answer_at rs j a.1

module _ (h : Sheet) (m : Memory) (b n : ℕ) (f : Save) where
  -- a walk that is not refused has a run for each of at most 64 saves
  accepted_runs : (walk_in h m b n f).answer ≡ 0 → (length (walk_in h m b n f).runs ≡ n) × (n ≤ most_saves)
  unfolding walk_in
  accepted_runs e = by (walk_refusal_in h m b n f) refl
    where
      by : (r : ℕ) → walk_refusal_in h m b n f ≡ r → (length (walk_in h m b n f).runs ≡ n) × (n ≤ most_saves)
      by zero q = rw q (length-map (saves_in h n f) (λ s. run_in h m b s lane_budget) ∙ saves_many (item_count h) h.atc_count f 0 n, (walk_passed_in h m b n f q).few_saves)
      by (suc r) q = absurd (omega (arith, rw q at e))

  -- whatever the record: no save's own run is refused for want of budget
  pub never_spent : (rs es : List ℕ) (vs : List ℤ) (w : Left) → length rs ≡ most_saves → WalkedAs h m b n f rs es vs w → w.answer ≡ 0 → (j : ℕ) → j < n → get_or w.refusals j 0 ≢ budget_spent
  never_spent rs es vs w l p e j i =
      let runs : List Ran = (walk_in h m b n f).runs in
      let a = accepted_runs (sym (ap (λ (x : Left). x.answer) p) ∙ e) in
      let long = length-map runs (λ (r : Ran). r.answer) in
      let here : get_or w.refusals j 0 ≡ get_or (map (λ (r : Ran). r.answer) runs) j 0
      = ap (λ (x : Left). get_or x.refusals j 0) p ∙ written rs (map (λ (r : Ran). r.answer) runs) j (omega (arith, a.0, a.1)) (omega (arith, a.0)) in
      λ q. answer_at runs j (walk_ends_in h m b n f) (sym here ∙ q)

-- ---- a setup block compiled at

-- b is a block of the start, b' its number after the list
pub record WalksWell (h : Sheet) (k : Born) (xs : List Made) : Type 0 where
  -- 1 to 64 saves that fit the sheet are never answered 22, nor any other refusal
  pub serves : (b b' : ℕ) (ys : List Slot) → now_at made k xs b ≡ some b' → last_at made k xs b ≡ some ys → (n : ℕ) (f : Save) → saves_ok h n f ≡ true → 1 ≤ n → n ≤ most_saves
      → (rs es : List ℕ) (vs : List ℤ) (w : Left) → WalkedAs h (after_all made k xs).memory b' n f rs es vs w → w.answer ≡ 0
  -- at most 142 blocks are read
  pub few : (b b' : ℕ) (ys : List Slot) → now_at made k xs b ≡ some b' → last_at made k xs b ≡ some ys → (n : ℕ) (f : Save)
      → (rs es : List ℕ) (vs : List ℤ) (w : Left) → WalkedAs h (after_all made k xs).memory b' n f rs es vs w → w.read ≤ walk_blocks

-- the first call gets the script k, each later one the script as the one before left it. long: the lengths of the five arrays, which the types of the calls say; nothing is asked of what they hold
module _ (h : Sheet) (k : Born) (xs : List Made) (long : LongBorn k) (promised : Along made (AsPromised h) k xs) where
  abbrev list : List Change
  list = map (λ x. engine.as_change x.asked) (map call_by xs)

  first : Followed made engine.made (λ k t. k ≡ t) k k xs (map call_by xs)
  first = followed h k xs long promised

  second : Followed engine.made (changes_in h) (λ k t. k ≡ t) k k (map call_by xs) (map (λ x. engine.as_change x.asked) (map call_by xs))
  second = engine_laws.followed h k (map call_by xs) long (promises h k xs long promised)

  served : (b b' : ℕ) (ys : List Slot) → now_at made k xs b ≡ some b' → last_at made k xs b ≡ some ys → Served h (after_all made k xs).memory b'
  served b b' ys n e =
      subst (λ (t : Born). Served h t.memory b') (sym (first.after ∙ second.after))
      (walk_served h k long list b b' ys (sym (first.now b ∙ second.now b) ∙ n) (sym (first.last none b ∙ second.last none b) ∙ e))

  pub walks_well : WalksWell h k xs
  unfolding walk_in
  walks_well = record {
    serves = λ b b' ys n e m f a l u rs es vs w p. ap (λ (x : Left). x.answer) p ∙ rw ((served b b' ys n e).not_refused m f a l u);
    few = λ b b' ys n e m f rs es vs w p. subst (λ (x : Left). x.read ≤ walk_blocks) (sym p) ((served b b' ys n e).few m f);
  }
