-- The count of accepted compiles after a list that mixes compiles and reclaims: each accepted compile adds 1 up to the largest, a reclaim none. Assumes nothing.
use Rattle.std.specs.Prelude.{◌≡◌, refl, Bool, true, false, cond, ◌&&◌, List, [], ◌∷◌, ℕ, suc, ◌+◌, ◌≤◌, min, ltb, eqb}
use Rattle.std.proofs.Common.{arith, ltb-true, ltb-false}
use Rattle.model.specs.Limits.{most_compiles}
use Rattle.model.specs.Sheet.{Sheet}
use Rattle.model.specs.Lists.{after_all}
use Rattle.model.specs.RecordCalls.{one_compile}
use Rattle.reclaim_model.specs.Changes.{BornScript, compile_refusal_born, appended_born, compiled_born, reclaim_refusal, lives, kept_only, reclaimed, Change, compile, reclaim, change_refusal, changed, changes}

abbrev is_compile : Change → Bool
is_compile (compile c) = true
is_compile (reclaim rs) = false

abbrev counts : Sheet → BornScript → Change → Bool
counts h k x = eqb (change_refusal h k x) 0 && is_compile x

-- how many of the list's compiles are accepted
unfoldable pub accepted_in : Sheet → BornScript → List Change → ℕ
accepted_in h k [] = 0
accepted_in h k (x ∷ xs) = cond (counts h k x) 1 0 + accepted_in h (changed h k x) xs

-- "at 4,294,967,295 it stays"
one_is : (n : ℕ) → n ≤ most_compiles → one_compile n ≡ min (n + 1) most_compiles
one_is n l = by (ltb n most_compiles) refl
  where
    by : (t : Bool) → ltb n most_compiles ≡ t → cond t (suc n) most_compiles ≡ min (n + 1) most_compiles
    by true e = let q = ltb-true n most_compiles e in omega arith
    by false e = let q = ltb-false n most_compiles e in omega arith

count_once : (h : Sheet) (k : BornScript) (x : Change) → k.compiles ≤ most_compiles → (changed h k x).compiles ≡ min (k.compiles + cond (counts h k x) 1 0) most_compiles
unfolding changed change_refusal compiled_born appended_born reclaimed kept_only
count_once h k (compile c) l = by (eqb (compile_refusal_born h k c) 0)
  where
    by : (t : Bool) → (cond t (appended_born h k c) k).compiles ≡ min (k.compiles + cond (t && true) 1 0) most_compiles
    by true = one_is k.compiles l
    by false = omega arith
count_once h k (reclaim rs) l = by (eqb (reclaim_refusal k rs) 0)
  where
    by : (t : Bool) → (cond t (kept_only (lives k rs) k) k).compiles ≡ min (k.compiles + cond (t && false) 1 0) most_compiles
    by true = omega arith
    by false = omega arith

-- "the script its count of accepted compiles"
pub count_all : (h : Sheet) (xs : List Change) (k : BornScript) → k.compiles ≤ most_compiles → (after_all (changes h) k xs).compiles ≡ min (k.compiles + accepted_in h k xs) most_compiles
unfolding after_all accepted_in
count_all h [] k l = omega arith
count_all h (x ∷ xs) k l =
    let one = count_once h k x l in
    omega (arith, count_all h xs (changed h k x) (omega arith))
