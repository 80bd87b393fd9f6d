-- The checks of a reclaim on a record: 18 before any other, what an accepted one passed, and that a refused one changes nothing (02, A.4). Assumes nothing.
use Rattle.std.specs.Prelude.{◌≡◌, Bool, cond, ◌&&◌, ℕ, ◌≤◌, ◌<◌, eqb, leb, ltb, length}
use Rattle.std.proofs.Math.Path.{refl}
use Rattle.std.proofs.Math.Bool.{true, false}
use Rattle.std.proofs.Math.Option.{some}
use mathlib.Core.List.{List, [], ◌∷◌, Memᴰ}
use Rattle.std.proofs.Common.{arith}
use borrow.Author.Tests.{le-ltb, lt-leb, ne_eqb}
use Rattle.model.specs.Limits.{root_limit}
use Rattle.model.specs.Refusal.{bad_roots, check}
use Rattle.model.specs.Sheet.{all}
use Rattle.model.specs.Record.{judged_record}
use Rattle.model.specs.RecordCalls.{Born, record_refusal}
use Rattle.model.proofs.Laws.Checks.{first_passed}
use Rattle.model.proofs.Laws.Refused.{Accepts, accepts}
use Rattle.memory.specs.RecordLaws.{proper_record}
use Rattle.reclaim_model.specs.Reclaim.{roots_ok}
use Rattle.reclaim_model.specs.Changes.{reclaim}
use Rattle.reclaim_record.specs.Calls.{reclaim_refusal_in, lives_in, kept_only_in, reclaimed_in, moved_in, number_after_in}

module _ (k : Born) (rs : List ℕ) where
  -- whatever the record is
  pub roots_first : roots_ok k.memory.count rs ≡ false → reclaim_refusal_in k rs ≡ bad_roots
  unfolding reclaim_refusal_in
  roots_first e = rw e

  -- "a reclaim whose list is too long"
  pub too_long : root_limit < length rs → reclaim_refusal_in k rs ≡ bad_roots
  too_long l = roots_first (rw (lt-leb (length rs) root_limit l))

  -- "or with a root that is not a block, is answered 18 before any other check"
  pub not_block_lem : (r : ℕ) → Memᴰ r rs → k.memory.count ≤ r → reclaim_refusal_in k rs ≡ bad_roots
  not_block_lem r i l = roots_first (by (leb (length rs) root_limit) (outside rs i))
    where
      by : (a : Bool) {b : Bool} → b ≡ false → a && b ≡ false
      by true e = e
      by false e = refl

      outside : (xs : List ℕ) → Memᴰ r xs → all (λ x. ltb x k.memory.count) xs ≡ false
      outside [] i = elim i [ ]
      outside (x ∷ xs) (Memᴰ.head e) = rw (le-ltb x k.memory.count (omega arith))
      outside (x ∷ xs) (Memᴰ.tail i) = by (ltb x k.memory.count) (outside xs i)

  -- an accepted reclaim was of a record that is judged
  pub was_judged : reclaim_refusal_in k rs ≡ 0 → Accepts (judged_record k.memory)
  unfolding reclaim_refusal_in
  was_judged e =
      let p = first_passed (check (roots_ok k.memory.count rs) bad_roots) (record_refusal k.memory ∷ []) e in
      accepts (judged_record k.memory) (proper_record k.memory) (first_passed (record_refusal k.memory) [] p.1).0

  -- "a refused reclaim changes nothing"
  pub record Nothing : Type 0 where
    pub record_is : reclaimed_in k rs ≡ k
    pub moved : (ns : List ℕ) → moved_in k rs ns ≡ ns
    pub number : (b : ℕ) → number_after_in k (reclaim rs) b ≡ some b

  pub refused_stays : (reclaim_refusal_in k rs ≡ 0 → ⊥) → Nothing
  unfolding reclaimed_in moved_in number_after_in
  refused_stays d = let e = ne_eqb (reclaim_refusal_in k rs) 0 d in record { record_is = rw e; moved = λ ns. rw e; number = λ b. rw e }

  -- "the script its count of accepted compiles", accepted or refused
  pub compiles_kept : (reclaimed_in k rs).compiles ≡ k.compiles
  unfolding reclaimed_in kept_only_in
  compiles_kept = by (eqb (reclaim_refusal_in k rs) 0)
    where
      by : (a : Bool) → (cond a (kept_only_in (lives_in k rs) k) k).compiles ≡ k.compiles
      by true = refl
      by false = refl
