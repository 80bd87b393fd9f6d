-- Expressions as trees: evaluation, negation, imm (01, Expressions and Runner). Assumes nothing: these are definitions.
use Rattle.std.specs.Prelude.{Bool, true, not, cond, ◌&&◌, ◌||◌, List, ℕ, suc, ◌+◌, ℤ, ◌+ℤ◌, ◌-ℤ◌}
use Rattle.std.specs.Int.Signed.{lt_z, le_z}
use Rattle.std.specs.Int.{w16}
use Rattle.model.specs.Refusal.{met_other, no_flag}
use Rattle.model.specs.Signed.{wrap32, and32, or32, in_range, eq_z, is_zero, b2z}
use Rattle.model.specs.Save.{Save, nat_at, int_at, flag_inside}
use Rattle.model.specs.declared.Op2.{Op2}
use Rattle.model.specs.declared.Op2.TheVariants.{Equal, NotEqual, Less, LessEqual, Greater, GreaterEqual, Add, Subtract, BitAnd, BitOr}
use Rattle.model.specs.declared.Op1.{Op1}
use Rattle.model.specs.declared.Op1.TheVariants.{Not, Flag, Variable, Item, Atc, Time}

-- the kinds by their operands; Other, for all else, is a leaf
pub data Expr : Type 0 where
  two : Op2 → Expr → Expr → Expr
  one : Op1 → Expr → Expr
  imm16 : ℤ → Expr
  imm32 : ℤ → Expr
  other : Expr

-- each Expr is one node
unfoldable pub size : Expr → ℕ
size (two o a b) = suc (size a + size b)
size (one o a) = suc (size a)
size (imm16 z) = 1
size (imm32 z) = 1
size other = 1

-- ---- evaluation

-- a value, or the refusal's number
pub data Value : Type 0 where
  ok : ℤ → Value
  stop : ℕ → Value

abbrev pub and_then : Value → (ℤ → Value) → Value
and_then (ok x) f = f x
and_then (stop n) f = stop n

-- what BitAnd and BitOr make of two values
pub record Joins : Type 0 where
  pub and : ℤ → ℤ → ℤ
  pub or : ℤ → ℤ → ℤ

-- A.5: bitwise over 32 bits, two's complement
abbrev pub bitwise : Joins
bitwise = record { and = and32; or = or32 }

-- before A.5: 1 or 0, as negation assumes
abbrev pub logical : Joins
logical = record { and = λ a b. b2z (not (is_zero a) && not (is_zero b)); or = λ a b. b2z (not (is_zero a) || not (is_zero b)) }

abbrev pub apply_by : Joins → Op2 → ℤ → ℤ → ℤ
apply_by j Equal a b = b2z (eq_z a b)
apply_by j NotEqual a b = b2z (not (eq_z a b))
apply_by j Less a b = b2z (lt_z a b)
apply_by j LessEqual a b = b2z (le_z a b)
apply_by j Greater a b = b2z (lt_z b a)
apply_by j GreaterEqual a b = b2z (le_z b a)
apply_by j Add a b = wrap32 (a +ℤ b)
apply_by j Subtract a b = wrap32 (a -ℤ b)
apply_by j BitAnd a b = j.and a b
apply_by j BitOr a b = j.or a b

abbrev pub apply2 : Op2 → ℤ → ℤ → ℤ
apply2 o a b = apply_by bitwise o a b

-- the variables are those of the moment; the rest is the save's
abbrev pub apply1 : Save → List ℤ → Op1 → ℤ → ℤ
apply1 s v Not z = b2z (is_zero z)
apply1 s v Flag z = nat_at s.flags z
apply1 s v Variable z = int_at v z
apply1 s v Item z = int_at s.items z
apply1 s v Atc z = nat_at s.atcs z
apply1 s v Time z = int_at s.times z

-- A.10: a flag outside the save is not read; every other read outside it gives 0
abbrev pub readable : Op1 → ℤ → Bool
readable Not z = true
readable Flag z = flag_inside z
readable Variable z = true
readable Item z = true
readable Atc z = true
readable Time z = true

-- an operator of one operand on its value, or 23
abbrev pub read1 : Save → List ℤ → Op1 → ℤ → Value
read1 s v o z = cond (readable o z) (ok (apply1 s v o z)) (stop no_flag)

-- both operands are evaluated, left first, an index before the flag that it names; an Other expression is 13, a flag outside the save 23, and the first met answers
abbrev pub eval_by : Joins → Save → List ℤ → Expr → Value
eval_by j s v (two o a b) = and_then (eval_by j s v a) (λ x. and_then (eval_by j s v b) (λ y. ok (apply_by j o x y)))
eval_by j s v (one o a) = and_then (eval_by j s v a) (λ x. read1 s v o x)
eval_by j s v (imm16 z) = ok z
eval_by j s v (imm32 z) = ok z
eval_by j s v other = stop met_other

abbrev pub eval : Save → List ℤ → Expr → Value
eval s v e = eval_by bitwise s v e

-- ---- negation

-- comparisons flip, BitAnd and BitOr swap with both sides negated, Not drops, the rest gains Not
abbrev pub negate : Expr → Expr
negate (two Equal a b) = two NotEqual a b
negate (two NotEqual a b) = two Equal a b
negate (two Less a b) = two GreaterEqual a b
negate (two LessEqual a b) = two Greater a b
negate (two Greater a b) = two LessEqual a b
negate (two GreaterEqual a b) = two Less a b
negate (two Add a b) = one Not (two Add a b)
negate (two Subtract a b) = one Not (two Subtract a b)
negate (two BitAnd a b) = two BitOr (negate a) (negate b)
negate (two BitOr a b) = two BitAnd (negate a) (negate b)
negate (one Not a) = a
negate (one Flag a) = one Not (one Flag a)
negate (one Variable a) = one Not (one Variable a)
negate (one Item a) = one Not (one Item a)
negate (one Atc a) = one Not (one Atc a)
negate (one Time a) = one Not (one Time a)
negate (imm16 z) = one Not (imm16 z)
negate (imm32 z) = one Not (imm32 z)
negate other = one Not other

-- ---- numbers

-- Imm16 where it fits
unfoldable pub imm : ℤ → Expr
imm z = cond (in_range w16 z) (imm16 z) (imm32 z)
