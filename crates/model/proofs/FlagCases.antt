-- Cases of A.10 as one table, computed from the definitions. Assumes nothing.
use Rattle.std.specs.Prelude.{◌≡◌, refl, [], ◌∷◌, map, ℤ, pos, negsuc, replicate}
use Rattle.model.specs.Limits.{flag_count}
use Rattle.model.specs.Save.{Save}
use Rattle.model.specs.Expr.{Expr, ok, stop, eval, two, one, imm16, other}
use Rattle.model.specs.declared.Op2.TheVariants.{Add, BitAnd}
use Rattle.model.specs.declared.Op1.TheVariants.{Flag, Not, Variable}

-- every flag is set
abbrev save : Save
save = record { items = []; atcs = []; flags = replicate flag_count 1; times = []; variables = [] }

abbrev flag : ℤ → Expr
flag z = one Flag (imm16 z)

-- 0 and 2,047 are read, 2,048 and -1 are not, nor under a Not; an AND with 0 is no way past it; an Other in the index is 13; of two the left one answers; a variable outside still reads 0
pub flag_cases : map (λ e. eval save [] e) (flag (pos 0) ∷ flag (pos 2047) ∷ flag (pos 2048) ∷ flag (negsuc 0) ∷ one Not (flag (pos 2048)) ∷ two BitAnd (imm16 (pos 0)) (flag (pos 2048)) ∷ one Flag other
    ∷ two Add (flag (pos 2048)) other ∷ two Add other (flag (pos 2048)) ∷ one Flag (flag (negsuc 0)) ∷ one Variable (imm16 (pos 5000)) ∷ [])
    ≡ ok (pos 1) ∷ ok (pos 1) ∷ stop 23 ∷ stop 23 ∷ stop 23 ∷ stop 23 ∷ stop 13 ∷ stop 23 ∷ stop 13 ∷ stop 23 ∷ ok (pos 0) ∷ []
flag_cases = refl
