-- The code of what a node tests, from its operator and its operand's number (01, Parser: comparisons with 0 as parse_requirement). Assumes nothing: these are definitions.
use Rattle.std.specs.Prelude as Code
use Rattle.std.specs.Prelude.{Some, None, ◌≡◌, Bool, true, false, cond, ℕ, ◌+◌, ◌-◌, ◌*◌, ◌/◌, ◌<◌, ltb, eqb, ℤ}
use Rattle.std.proofs.Math.Option.{Option, none, some}
use Rattle.model.specs.Limits.{wide, half32}
use Rattle.model.specs.Signed.{is_zero}
use Rattle.model.specs.Requirement.{Requirement}
use Rattle.model.specs.Sheet.{Sheet}
use Rattle.model.specs.Parse.{read_req, signed}
use Rattle.model.specs.declared.Op2.{Op2}
use Rattle.model.specs.declared.Op2.TheVariants.{Equal, NotEqual, Less, LessEqual, Greater, GreaterEqual, Add, Subtract, BitAnd, BitOr}
use Rattle.model.specs.declared.Op1.{Op1}
use Rattle.shop_codes.specs.Codes.{InRange, shift, requirement_of}
use Rattle.expr.specs.Requirement.{Has}
use Rattle.parse_keys.specs.Entries.{odd, Subject}

-- the number of an Imm, moved up by 2 ^ 31; 2 ^ 32 where there is none
abbrev pub Numbered : ℕ → Option ℤ → Type 0
Numbered s none = s ≡ wide
Numbered s (some z) = (s ≡ shift z) × InRange z

-- the code of an id below n, base being that of the kind
abbrev pub id_code : ℕ → ℕ → ℕ → ℕ
id_code base n s = cond (ltb s half32) 0 (cond (ltb (s - half32) n) (base + s) 0)

abbrev pub flag_code : ℕ → ℕ
flag_code s = cond (ltb s wide) (4 * wide + s) 0

-- the sign that a comparison with 0 gives to what it compares: 0 the same, 1 the other one, 2 where it tells nothing
abbrev pub sign_of : Op2 → ℕ
sign_of Equal = 1
sign_of NotEqual = 0
sign_of Less = 2
sign_of LessEqual = 1
sign_of Greater = 0
sign_of GreaterEqual = 2
sign_of Add = 2
sign_of Subtract = 2
sign_of BitAnd = 2
sign_of BitOr = 2

-- .. as the code has it
abbrev pub turn_of : Code.Option Bool → ℕ
turn_of None = 2
turn_of (Some false) = 0
turn_of (Some true) = 1

-- .. and what it gives with the right side's number
abbrev pub zero_sign : Op2 → Option ℤ → ℕ
zero_sign o none = 2
zero_sign o (some z) = cond (is_zero z) (sign_of o) 2

abbrev pub bit_of : Bool → ℕ
bit_of true = 1
bit_of false = 0

-- twice the code of a subject, and one more for Missing; 0 for no code
abbrev pub signed_code : ℕ → Bool → ℕ
signed_code c neg = cond (eqb c 0) 0 (2 * c + bit_of neg)

pub record Codes (c : ℕ) (r : Requirement) : Type 0 where
  pub some : 0 < c
  pub subject : Subject c
  pub is : requirement_of c ≡ r

-- the code of a subject, or 0 for none
abbrev pub Coded : ℕ → Option Requirement → Type 0
Coded c none = c ≡ 0
Coded c (some r) = Codes c r

-- c is the code of what an operator reads by any sheet of n items and a atcs; it leaves room for a sign
pub record ReadCode (n a : ℕ) (o : Op1) (s c : ℕ) : Type 0 where
  pub is : (h : Sheet) (z : Option ℤ) → Has h n a → Numbered s z → Coded c (read_req h o z)
  pub most : c < 8 * wide

pub record Reads (x : ℕ) (r : Requirement) : Type 0 where
  pub some : 0 < x / 2
  pub subject : Subject (x / 2)
  pub is : signed (odd x) (requirement_of (x / 2)) ≡ r

-- a code with its sign, or 0 for nothing
abbrev pub Reading : ℕ → Option Requirement → Type 0
Reading x none = x ≡ 0
Reading x (some r) = Reads x r
