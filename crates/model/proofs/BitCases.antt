-- A.5's cases as one table, computed from the definitions, -1 as a mask, and a negation that is no opposite. Assumes nothing.
use Rattle.std.specs.Prelude.{◌≡◌, refl, List, [], ◌∷◌, ◌<◌, ◌^◌, ℤ, pos, negsuc}
use Rattle.std.specs.Int.Signed.{mag}
use Rattle.std.specs.Int.{w32}
use Rattle.model.specs.Signed.{bits_of}
use Rattle.model.specs.Save.{Save}
use Rattle.model.specs.Expr.{apply2, eval, imm16, negate, ok, two}
use Rattle.model.specs.declared.Op2.TheVariants.{BitAnd, BitOr}
use Rattle.model.proofs.Laws.Signed.{mask_all}

-- 6 AND 3 is 2, 4 AND 3 is 0, -1 AND 600 is 600, -2 AND -4 is -4; 6 OR 3 is 7, -8 OR 3 is -5, 1 OR -2 is -1; the top bit is the sign in both
pub bit_cases : apply2 BitAnd (pos 6) (pos 3) ∷ apply2 BitAnd (pos 4) (pos 3) ∷ apply2 BitAnd (negsuc 0) (pos 600) ∷ apply2 BitAnd (negsuc 1) (negsuc 3) ∷ apply2 BitAnd (negsuc 2147483647) (negsuc 0)
    ∷ apply2 BitOr (pos 6) (pos 3) ∷ apply2 BitOr (negsuc 7) (pos 3) ∷ apply2 BitOr (pos 1) (negsuc 1) ∷ apply2 BitOr (negsuc 2147483647) (pos 1) ∷ []
    ≡ pos 2 ∷ pos 0 ∷ pos 600 ∷ negsuc 3 ∷ negsuc 2147483647 ∷ pos 7 ∷ negsuc 4 ∷ negsuc 0 ∷ negsuc 2147483646 ∷ []
unfolding bits_of
bit_cases = refl

-- -1 AND x is x, for every x of 32 bits
pub minus_one_and : (x : ℤ) → mag x < 2 ^ 31 → apply2 BitAnd (negsuc 0) x ≡ x
minus_one_and x h = mask_all w32 x h

-- where operands are others than 1 and 0, negation is not the opposite: 9 AND 4 is 0, and so is its negation
pub both_zero : (s : Save) (v : List ℤ) → eval s v (two BitAnd (imm16 (pos 9)) (imm16 (pos 4))) ∷ eval s v (negate (two BitAnd (imm16 (pos 9)) (imm16 (pos 4)))) ∷ [] ≡ ok (pos 0) ∷ ok (pos 0) ∷ []
unfolding bits_of
both_zero s v = refl
