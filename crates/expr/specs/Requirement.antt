-- The sheet and the number of an Imm as the code has them, and that reading a negated condition is reading with the other sign. Assumes nothing.
use Rattle.std.specs.Prelude as code
use Rattle.std.specs.Prelude.{◌≡◌, refl, Bool, true, false, not, cond, List, ℕ, ℤ, None, Some}
use Rattle.std.proofs.Common.{sym, ap, ◌∙◌}
use Rattle.std.proofs.Math.Bool.{not-not}
use Rattle.std.proofs.Math.Option.{Option, none, some}
use Rattle.model.specs.Signed.{is_zero}
use Rattle.model.specs.Expr.{Expr, two, one, imm16, imm32, other, negate}
use Rattle.model.specs.Sheet.{Sheet, item_count}
use Rattle.model.specs.Requirement.{Requirement, negate_req, insert}
use Rattle.model.specs.Parse.{value, map_req, if_zero, parse_requirement, add_req, gather}
use Rattle.model.specs.declared.Op2.TheVariants.{Equal, NotEqual, Less, LessEqual, Greater, GreaterEqual, Add, Subtract, BitAnd, BitOr}
use Rattle.model.specs.declared.Op1.TheVariants.{Not, Flag, Variable, Item, Atc, Time}
use Rattle.model.proofs.Laws.Normal.{neg_neg}

-- the sheet enters the code as its two counts
pub record Has (h : Sheet) (n m : ℕ) : Type 0 where
  pub items : item_count h ≡ n
  pub atcs : h.atc_count ≡ m

-- the number that the code found, if any
abbrev pub number_of : code.Option ℤ → Option ℤ
number_of None = none
number_of (Some z) = some z

-- ---- a negated condition: the parser needs no memory for it

-- the negation with the one sign is the requirement with the other
add_negated : (n : Bool) (v : Option ℤ) (o : Option Requirement) (rs : List Requirement) → add_req n (if_zero v (map_req negate_req o)) rs ≡ add_req (not n) (if_zero v o) rs
add_negated n none o rs = refl
add_negated n (some z) o rs = go (is_zero z) n o
  where
    go : (b n : Bool) (o : Option Requirement) → add_req n (cond b (map_req negate_req o) none) rs ≡ add_req (not n) (cond b o none) rs
    go false n o = refl
    go true n none = refl
    go true true (some q) = ap (λ (x : Requirement). insert x rs) (neg_neg q)
    go true false (some q) = refl

add_plain : (n : Bool) (v : Option ℤ) (o : Option Requirement) (rs : List Requirement) → add_req n (if_zero v o) rs ≡ add_req (not n) (if_zero v (map_req negate_req o)) rs
add_plain n v o rs = ap (λ (b : Bool). add_req b (if_zero v o) rs) (sym (not-not n)) ∙ sym (add_negated (not n) v o rs)

pub gather_negate : (h : Sheet) (e : Expr) (n : Bool) (rs : List Requirement) → gather h (negate e) n rs ≡ gather h e (not n) rs
unfolding gather
gather_negate h (two Equal a b) n rs = add_plain n (value b) (parse_requirement h a) rs
gather_negate h (two NotEqual a b) n rs = add_negated n (value b) (parse_requirement h a) rs
gather_negate h (two Less a b) n rs = refl
gather_negate h (two LessEqual a b) n rs = add_plain n (value b) (parse_requirement h a) rs
gather_negate h (two Greater a b) n rs = add_negated n (value b) (parse_requirement h a) rs
gather_negate h (two GreaterEqual a b) n rs = refl
gather_negate h (two Add a b) n rs = refl
gather_negate h (two Subtract a b) n rs = refl
gather_negate h (two BitAnd a b) n rs = gather_negate h b n (gather h (negate a) n rs) ∙ ap (gather h b (not n)) (gather_negate h a n rs)
gather_negate h (two BitOr a b) n rs = gather_negate h b n (gather h (negate a) n rs) ∙ ap (gather h b (not n)) (gather_negate h a n rs)
gather_negate h (one Not a) n rs = ap (λ (b : Bool). gather h a b rs) (sym (not-not n))
gather_negate h (one Flag a) n rs = refl
gather_negate h (one Variable a) n rs = refl
gather_negate h (one Item a) n rs = refl
gather_negate h (one Atc a) n rs = refl
gather_negate h (one Time a) n rs = refl
gather_negate h (imm16 z) n rs = refl
gather_negate h (imm32 z) n rs = refl
gather_negate h other n rs = refl
