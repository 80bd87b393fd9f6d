-- The largest of some numbers is 0 or 1 where each of them is. Assumes nothing.
use Rattle.std.specs.Prelude.{◌≡◌, ◌&&◌, List, [], ◌∷◌, ℕ, max, fold}
use Rattle.std.proofs.Common.{sym, ◌∙◌, arith}
use mathlib.Core.Bool.{and-true, and_assoc}
use Rattle.model.specs.Sheet.{all, is_bit}

max_bit : (m x : ℕ) → is_bit (max m x) ≡ is_bit m && is_bit x
max_bit m x = grind arith

pub fold_bits : (m : ℕ) (xs : List ℕ) → is_bit (fold max m xs) ≡ is_bit m && all is_bit xs
fold_bits m [] = sym (and-true (is_bit m))
fold_bits m (x ∷ xs) = fold_bits (max m x) xs ∙ rw (max_bit m x) (and_assoc (is_bit m) (is_bit x) (all is_bit xs))
