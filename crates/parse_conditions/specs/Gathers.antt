-- What is gathered is what gather inserts; it takes three nodes an entry, but for one; a negated condition gathers the negations. Assumes nothing.
use Rattle.std.specs.Prelude.{◌≡◌, refl, Bool, true, false, not, cond, List, [], ◌∷◌, ◌++◌, map, suc, ◌+◌, ◌*◌, ◌≤◌, length, ℤ}
use Rattle.std.proofs.Common.{sym, ap, ◌∙◌, arith, length-append}
use Rattle.std.proofs.Math.Bool.{not-not}
use Rattle.std.proofs.Math.Option.{Option, none, some}
use Rattle.std.proofs.lemmas.List.{map-append}
use Rattle.model.specs.Signed.{is_zero}
use Rattle.model.specs.Expr.{Expr, two, one, imm16, imm32, other, size, negate}
use Rattle.model.specs.Requirement.{Requirement, insert, negate_req}
use Rattle.model.specs.Sheet.{Sheet}
use Rattle.model.specs.Parse.{value, is_join, is_not, map_req, if_zero, signed, add_req, parse_requirement, gather}
use Rattle.model.specs.declared.Op2.TheVariants.{Equal, NotEqual, Less, LessEqual, Greater, GreaterEqual, Add, Subtract, BitAnd, BitOr}
use Rattle.model.specs.declared.Op1.TheVariants.{Not, Flag, Variable, Item, Atc, Time}
use Rattle.model.proofs.Laws.Normal.{neg_neg}
use Rattle.parse_keys.specs.Turns.{signs_meet}
use Rattle.parse_conditions.specs.Gathered.{single, alone, gathered, inserted}
use Rattle.memory.specs.PutNodes.{size_pos}

inserted_append : (xs ys rs : List Requirement) → inserted (xs ++ ys) rs ≡ inserted ys (inserted xs rs)
inserted_append [] ys rs = refl
inserted_append (x ∷ xs) ys rs = inserted_append xs ys (insert x rs)

inserted_one : (n : Bool) (o : Option Requirement) (rs : List Requirement) → add_req n o rs ≡ inserted (single (map_req (signed n) o)) rs
inserted_one n none rs = refl
inserted_one n (some r) rs = refl

pub gather_inserts : (h : Sheet) (e : Expr) (n : Bool) (rs : List Requirement) → gather h e n rs ≡ inserted (gathered h e n) rs
unfolding gather gathered
gather_inserts h (two o a b) n rs = by (is_join o) (gather_inserts h a n rs) (gather_inserts h b n (gather h a n rs))
  where
    by : (t : Bool) → gather h a n rs ≡ inserted (gathered h a n) rs → gather h b n (gather h a n rs) ≡ inserted (gathered h b n) (gather h a n rs)
        → cond t (gather h b n (gather h a n rs)) (add_req n (parse_requirement h (two o a b)) rs) ≡ inserted (cond t (gathered h a n ++ gathered h b n) (alone h (two o a b) n)) rs
    by true x y = y ∙ ap (inserted (gathered h b n)) x ∙ sym (inserted_append (gathered h a n) (gathered h b n) rs)
    by false x y = inserted_one n (parse_requirement h (two o a b)) rs
gather_inserts h (one o a) n rs = by (is_not o) (gather_inserts h a (not n) rs)
  where
    by : (t : Bool) → gather h a (not n) rs ≡ inserted (gathered h a (not n)) rs
        → cond t (gather h a (not n) rs) (add_req n (parse_requirement h (one o a)) rs) ≡ inserted (cond t (gathered h a (not n)) (alone h (one o a) n)) rs
    by true x = x
    by false x = inserted_one n (parse_requirement h (one o a)) rs
gather_inserts h (imm16 z) n rs = refl
gather_inserts h (imm32 z) n rs = refl
gather_inserts h other n rs = refl

single_most : (o : Option Requirement) → length (single o) ≤ 1
single_most none = omega arith
single_most (some r) = omega arith

-- two nodes for each entry, and one for each that joins two
pub gathered_size : (h : Sheet) (e : Expr) (n : Bool) → 3 * length (gathered h e n) ≤ size e + 1
unfolding gathered size
gathered_size h (two o a b) n = by (is_join o) (gathered_size h a n) (gathered_size h b n)
  where
    by : (t : Bool) → 3 * length (gathered h a n) ≤ size a + 1 → 3 * length (gathered h b n) ≤ size b + 1 → 3 * length (cond t (gathered h a n ++ gathered h b n) (alone h (two o a b) n)) ≤ suc (size a + size b) + 1
    by true x y = rw (length-append (gathered h a n) (gathered h b n)) (omega arith)
    by false x y = omega (arith, single_most (map_req (signed n) (parse_requirement h (two o a b))), size_pos a, size_pos b)
gathered_size h (one o a) n = by (is_not o) (gathered_size h a (not n))
  where
    by : (t : Bool) → 3 * length (gathered h a (not n)) ≤ size a + 1 → 3 * length (cond t (gathered h a (not n)) (alone h (one o a) n)) ≤ suc (size a) + 1
    by true x = omega arith
    by false x = omega (arith, single_most (map_req (signed n) (parse_requirement h (one o a))), size_pos a)
gathered_size h (imm16 z) n = omega arith
gathered_size h (imm32 z) n = omega arith
gathered_size h other n = omega arith

-- ---- negation is the other sign

if_neg : (n : Bool) (z : Option ℤ) (o : Option Requirement) → map_req (signed n) (if_zero z (map_req negate_req o)) ≡ map_req (signed (not n)) (if_zero z o)
if_neg n none o = refl
if_neg n (some z) o = by (is_zero z)
  where
    by : (t : Bool) → map_req (signed n) (cond t (map_req negate_req o) none) ≡ map_req (signed (not n)) (cond t o none)
    by true = signs_meet n o
    by false = refl

single_neg : (n : Bool) (z : Option ℤ) (o : Option Requirement) → single (map_req (signed n) (if_zero z (map_req negate_req o))) ≡ single (map_req (signed (not n)) (if_zero z o))
single_neg n z o = ap single (if_neg n z o)

single_pos : (n : Bool) (z : Option ℤ) (o : Option Requirement) → single (map_req (signed n) (if_zero z o)) ≡ single (map_req (signed (not n)) (if_zero z (map_req negate_req o)))
single_pos n z o = ap single (sym (if_neg (not n) z o ∙ ap (λ m. map_req (signed m) (if_zero z o)) (not-not n)))

gathered_negate : (h : Sheet) (e : Expr) (n : Bool) → gathered h (negate e) n ≡ gathered h e (not n)
unfolding gathered
gathered_negate h (two Equal a b) n = single_pos n (value b) (parse_requirement h a)
gathered_negate h (two NotEqual a b) n = single_neg n (value b) (parse_requirement h a)
gathered_negate h (two Less a b) n = refl
gathered_negate h (two LessEqual a b) n = single_pos n (value b) (parse_requirement h a)
gathered_negate h (two Greater a b) n = single_neg n (value b) (parse_requirement h a)
gathered_negate h (two GreaterEqual a b) n = refl
gathered_negate h (two Add a b) n = refl
gathered_negate h (two Subtract a b) n = refl
gathered_negate h (two BitAnd a b) n = rw (gathered_negate h a n, gathered_negate h b n)
gathered_negate h (two BitOr a b) n = rw (gathered_negate h a n, gathered_negate h b n)
gathered_negate h (one Not a) n = ap (gathered h a) (sym (not-not n))
gathered_negate h (one Flag a) n = refl
gathered_negate h (one Variable a) n = refl
gathered_negate h (one Item a) n = refl
gathered_negate h (one Atc a) n = refl
gathered_negate h (one Time a) n = refl
gathered_negate h (imm16 z) n = refl
gathered_negate h (imm32 z) n = refl
gathered_negate h other n = refl

single_turned : (n : Bool) (o : Option Requirement) → single (map_req (signed (not n)) o) ≡ map negate_req (single (map_req (signed n) o))
single_turned n none = refl
single_turned true (some r) = ap (λ x. x ∷ []) (sym (neg_neg r))
single_turned false (some r) = refl

gathered_turned : (h : Sheet) (e : Expr) (n : Bool) → gathered h e (not n) ≡ map negate_req (gathered h e n)
unfolding gathered
gathered_turned h (two o a b) n = by (is_join o) (gathered_turned h a n) (gathered_turned h b n)
  where
    by : (t : Bool) → gathered h a (not n) ≡ map negate_req (gathered h a n) → gathered h b (not n) ≡ map negate_req (gathered h b n)
        → cond t (gathered h a (not n) ++ gathered h b (not n)) (alone h (two o a b) (not n)) ≡ map negate_req (cond t (gathered h a n ++ gathered h b n) (alone h (two o a b) n))
    by true x y = rw (x, y) (sym (map-append negate_req (gathered h a n) (gathered h b n)))
    by false x y = single_turned n (parse_requirement h (two o a b))
gathered_turned h (one o a) n = by (is_not o) (gathered_turned h a (not n))
  where
    by : (t : Bool) → gathered h a (not (not n)) ≡ map negate_req (gathered h a (not n))
        → cond t (gathered h a (not (not n))) (alone h (one o a) (not n)) ≡ map negate_req (cond t (gathered h a (not n)) (alone h (one o a) n))
    by true x = x
    by false x = single_turned n (parse_requirement h (one o a))
gathered_turned h (imm16 z) n = refl
gathered_turned h (imm32 z) n = refl
gathered_turned h other n = refl

pub gathered_negated : (h : Sheet) (e : Expr) → gathered h (negate e) false ≡ map negate_req (gathered h e false)
gathered_negated h e = gathered_negate h e false ∙ gathered_turned h e false
