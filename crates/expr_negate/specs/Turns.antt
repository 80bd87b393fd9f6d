-- What is negated where it stands, or by a Not over it, and that this is its negation. Assumes nothing.
use Rattle.std.specs.Prelude.{◌≡◌, refl, Bool, true, false, not, cond, ℕ, ◌-◌, ◌≤◌, ◌<◌, ltb, eqb}
use Rattle.std.proofs.Common.{arith}
use Rattle.model.specs.Expr.{Expr, two, one, imm16, imm32, other, size, negate}
use Rattle.model.specs.Image.{code2}
use Rattle.model.specs.Parse.{is_join, is_not}
use Rattle.model.specs.declared.Op2.{Op2}
use Rattle.model.specs.declared.Op2.TheVariants.{Equal, NotEqual, Less, LessEqual, Greater, GreaterEqual, Add, Subtract, BitAnd, BitOr}
use Rattle.model.specs.declared.Op1.TheVariants.{Not, Flag, Variable, Item, Atc, Time}
use Rattle.model.specs.declared.Kind.{Kind}
use Rattle.model.specs.declared.Kind.TheVariants.{Two, One, Imm16, Imm32, Other}

-- the operator of the negation
abbrev pub flip : Op2 → Op2
flip Equal = NotEqual
flip NotEqual = Equal
flip Less = GreaterEqual
flip LessEqual = Greater
flip Greater = LessEqual
flip GreaterEqual = Less
flip Add = Add
flip Subtract = Subtract
flip BitAnd = BitOr
flip BitOr = BitAnd

-- the same by its code
abbrev pub flip_code : ℕ → ℕ
flip_code n = cond (ltb n 2) (1 - n) (cond (ltb n 6) (7 - n) (cond (eqb n 9) 10 9))

abbrev pub is_sum : Op2 → Bool
is_sum Equal = false
is_sum NotEqual = false
is_sum Less = false
is_sum LessEqual = false
is_sum Greater = false
is_sum GreaterEqual = false
is_sum Add = true
is_sum Subtract = true
is_sum BitAnd = false
is_sum BitOr = false

abbrev pub operator_of : Kind → Op2
operator_of (Two o) = o
operator_of (One o) = Add
operator_of Imm16 = Add
operator_of Imm32 = Add
operator_of Other = Add

-- the kind of the root
abbrev pub root_kind : Expr → Kind
root_kind (two o a b) = Two o
root_kind (one o a) = One o
root_kind (imm16 z) = Imm16
root_kind (imm32 z) = Imm32
root_kind other = Other

-- a comparison, or And or Or over such: its negation has the same nodes under other operators
pub data Flips : Expr → Type 0 where
  compared : {o : Op2} {a b : Expr} → is_sum o ≡ false → is_join o ≡ false → Flips (two o a b)
  joined : {o : Op2} {a b : Expr} → is_join o ≡ true → Flips a → Flips b → Flips (two o a b)

-- what is no comparison, no And, Or or Not
abbrev pub gains_not : Expr → Bool
gains_not (two o a b) = is_sum o
gains_not (one o a) = not (is_not o)
gains_not (imm16 z) = true
gains_not (imm32 z) = true
gains_not other = true

-- what is negated with no node taken away or put in between: all that the compiler negates
pub data Turns (e : Expr) : Type 0 where
  flips : Flips e → Turns e
  gains : gains_not e ≡ true → Turns e

-- ---- the negation

pub negate_compared : (o : Op2) (a b : Expr) → is_sum o ≡ false → is_join o ≡ false → negate (two o a b) ≡ two (flip o) a b
negate_compared Equal a b s j = refl
negate_compared NotEqual a b s j = refl
negate_compared Less a b s j = refl
negate_compared LessEqual a b s j = refl
negate_compared Greater a b s j = refl
negate_compared GreaterEqual a b s j = refl
negate_compared Add a b s j = let z : ◌≡◌ {A = ℕ} 0 1 = cc in absurd (omega arith)
negate_compared Subtract a b s j = let z : ◌≡◌ {A = ℕ} 0 1 = cc in absurd (omega arith)
negate_compared BitAnd a b s j = let z : ◌≡◌ {A = ℕ} 0 1 = cc in absurd (omega arith)
negate_compared BitOr a b s j = let z : ◌≡◌ {A = ℕ} 0 1 = cc in absurd (omega arith)

pub negate_joined : (o : Op2) (a b : Expr) → is_join o ≡ true → negate (two o a b) ≡ two (flip o) (negate a) (negate b)
negate_joined Equal a b j = let z : ◌≡◌ {A = ℕ} 0 1 = cc in absurd (omega arith)
negate_joined NotEqual a b j = let z : ◌≡◌ {A = ℕ} 0 1 = cc in absurd (omega arith)
negate_joined Less a b j = let z : ◌≡◌ {A = ℕ} 0 1 = cc in absurd (omega arith)
negate_joined LessEqual a b j = let z : ◌≡◌ {A = ℕ} 0 1 = cc in absurd (omega arith)
negate_joined Greater a b j = let z : ◌≡◌ {A = ℕ} 0 1 = cc in absurd (omega arith)
negate_joined GreaterEqual a b j = let z : ◌≡◌ {A = ℕ} 0 1 = cc in absurd (omega arith)
negate_joined Add a b j = let z : ◌≡◌ {A = ℕ} 0 1 = cc in absurd (omega arith)
negate_joined Subtract a b j = let z : ◌≡◌ {A = ℕ} 0 1 = cc in absurd (omega arith)
negate_joined BitAnd a b j = refl
negate_joined BitOr a b j = refl

pub negate_gains : (e : Expr) → gains_not e ≡ true → negate e ≡ one Not e
negate_gains (two Equal a b) g = let z : ◌≡◌ {A = ℕ} 0 1 = cc in absurd (omega arith)
negate_gains (two NotEqual a b) g = let z : ◌≡◌ {A = ℕ} 0 1 = cc in absurd (omega arith)
negate_gains (two Less a b) g = let z : ◌≡◌ {A = ℕ} 0 1 = cc in absurd (omega arith)
negate_gains (two LessEqual a b) g = let z : ◌≡◌ {A = ℕ} 0 1 = cc in absurd (omega arith)
negate_gains (two Greater a b) g = let z : ◌≡◌ {A = ℕ} 0 1 = cc in absurd (omega arith)
negate_gains (two GreaterEqual a b) g = let z : ◌≡◌ {A = ℕ} 0 1 = cc in absurd (omega arith)
negate_gains (two Add a b) g = refl
negate_gains (two Subtract a b) g = refl
negate_gains (two BitAnd a b) g = let z : ◌≡◌ {A = ℕ} 0 1 = cc in absurd (omega arith)
negate_gains (two BitOr a b) g = let z : ◌≡◌ {A = ℕ} 0 1 = cc in absurd (omega arith)
negate_gains (one Not a) g = let z : ◌≡◌ {A = ℕ} 0 1 = cc in absurd (omega arith)
negate_gains (one Flag a) g = refl
negate_gains (one Variable a) g = refl
negate_gains (one Item a) g = refl
negate_gains (one Atc a) g = refl
negate_gains (one Time a) g = refl
negate_gains (imm16 z) g = refl
negate_gains (imm32 z) g = refl
negate_gains other g = refl

-- And and Or are no sums
pub join_no_sum : (o : Op2) → is_join o ≡ true → is_sum o ≡ false
join_no_sum Equal j = refl
join_no_sum NotEqual j = refl
join_no_sum Less j = refl
join_no_sum LessEqual j = refl
join_no_sum Greater j = refl
join_no_sum GreaterEqual j = refl
join_no_sum Add j = let z : ◌≡◌ {A = ℕ} 0 1 = cc in absurd (omega arith)
join_no_sum Subtract j = let z : ◌≡◌ {A = ℕ} 0 1 = cc in absurd (omega arith)
join_no_sum BitAnd j = refl
join_no_sum BitOr j = refl

-- ---- by the code of an operator

pub flip_code_lem : (o : Op2) → is_sum o ≡ false → flip_code (code2 o) ≡ code2 (flip o)
flip_code_lem Equal s = refl
flip_code_lem NotEqual s = refl
flip_code_lem Less s = refl
flip_code_lem LessEqual s = refl
flip_code_lem Greater s = refl
flip_code_lem GreaterEqual s = refl
flip_code_lem Add s = let z : ◌≡◌ {A = ℕ} 0 1 = cc in absurd (omega arith)
flip_code_lem Subtract s = let z : ◌≡◌ {A = ℕ} 0 1 = cc in absurd (omega arith)
flip_code_lem BitAnd s = refl
flip_code_lem BitOr s = refl

pub compare_code : (o : Op2) → is_sum o ≡ false → is_join o ≡ false → code2 o < 6
compare_code Equal s j = omega arith
compare_code NotEqual s j = omega arith
compare_code Less s j = omega arith
compare_code LessEqual s j = omega arith
compare_code Greater s j = omega arith
compare_code GreaterEqual s j = omega arith
compare_code Add s j = let z : ◌≡◌ {A = ℕ} 0 1 = cc in absurd (omega arith)
compare_code Subtract s j = let z : ◌≡◌ {A = ℕ} 0 1 = cc in absurd (omega arith)
compare_code BitAnd s j = let z : ◌≡◌ {A = ℕ} 0 1 = cc in absurd (omega arith)
compare_code BitOr s j = let z : ◌≡◌ {A = ℕ} 0 1 = cc in absurd (omega arith)

pub join_code : (o : Op2) → is_join o ≡ true → 6 ≤ code2 o
join_code Equal j = let z : ◌≡◌ {A = ℕ} 0 1 = cc in absurd (omega arith)
join_code NotEqual j = let z : ◌≡◌ {A = ℕ} 0 1 = cc in absurd (omega arith)
join_code Less j = let z : ◌≡◌ {A = ℕ} 0 1 = cc in absurd (omega arith)
join_code LessEqual j = let z : ◌≡◌ {A = ℕ} 0 1 = cc in absurd (omega arith)
join_code Greater j = let z : ◌≡◌ {A = ℕ} 0 1 = cc in absurd (omega arith)
join_code GreaterEqual j = let z : ◌≡◌ {A = ℕ} 0 1 = cc in absurd (omega arith)
join_code Add j = omega arith
join_code Subtract j = omega arith
join_code BitAnd j = omega arith
join_code BitOr j = omega arith

-- the code tells the one from the other by the operator of the root
pub flips_root : {e : Expr} → Flips e → is_sum (operator_of (root_kind e)) ≡ false
flips_root (compared s j) = s
flips_root (joined {o} j f g) = join_no_sum o j

pub gains_root : (e : Expr) → gains_not e ≡ true → is_sum (operator_of (root_kind e)) ≡ true
gains_root (two o a b) g = g
gains_root (one o a) g = refl
gains_root (imm16 z) g = refl
gains_root (imm32 z) g = refl
gains_root other g = refl

-- ---- how many nodes

pub flips_size : {e : Expr} → Flips e → size (negate e) ≡ size e
unfolding size
flips_size (compared {o} {a} {b} s j) = rw (negate_compared o a b s j)
flips_size (joined {o} {a} {b} j f g) = rw (negate_joined o a b j) (omega (arith, flips_size f, flips_size g))

pub turns_size : {e : Expr} → Turns e → size e ≤ size (negate e)
unfolding size
turns_size {e} (flips f) = omega (arith, flips_size f)
turns_size {e} (gains g) = rw (negate_gains e g) (omega arith)
