-- The tests of requirements have as many nodes as worked out. Assumes nothing.
use Rattle.std.specs.Prelude.{◌≡◌, refl, List, [], ◌∷◌, map, ℕ, ◌+◌, ◌*◌, ◌≤◌, ◌<◌, pos, length, take, get_or}
use Rattle.std.proofs.Common.{◌∙◌, add-one, arith, take-suc}
use Rattle.std.proofs.Math.Option.{Option, none, some}
use Rattle.std.proofs.lemmas.List.{map-append}
use Rattle.model.specs.Expr.{Expr, two, negate, size}
use Rattle.model.specs.declared.Op2.TheVariants.{Equal, NotEqual, BitAnd}
use Rattle.model.specs.declared.Op1.TheVariants.{Item, Atc}
use Rattle.model.specs.Requirement.{Requirement, haveItem, missingItem, haveAtc, missingAtc, haveFlag, missingFlag}
use Rattle.model.specs.Sheet.{Sheet, atc_for}
use Rattle.model.specs.Shop.{Timer, plain, five, ten, fifteen, timer_of}
use Rattle.model.specs.Compile.{test, item_test, atc_test, flag_test, join_tests, acquired_req, rate_of, or_rate, acquired_expr}
use Rattle.model.proofs.Laws.Sound.{sum_append}
use Rattle.shop_codes.specs.Codes.{requirement_of}
use Rattle.expr_build.specs.Laws.{size_imm}
use Rattle.expr_build.specs.Codes.{size_compare, size_flag, size_not_flag}
use Rattle.compile_sizes.specs.Sizes.{test_nodes, tests_nodes, acquired_nodes}

pub test_size : (r : Requirement) → size (test r) ≡ test_nodes r
unfolding test item_test atc_test flag_test
test_size (haveItem i) = size_compare NotEqual Item (pos i)
test_size (missingItem i) = size_compare Equal Item (pos i)
test_size (haveAtc a) = size_compare NotEqual Atc (pos a)
test_size (missingAtc a) = size_compare Equal Atc (pos a)
test_size (haveFlag f) = size_flag f
test_size (missingFlag f) = size_not_flag f

-- ---- tests joined

pub joined_size : (e : Expr) (rs : List Requirement) → size (join_tests e rs) ≡ size e + tests_nodes rs
unfolding join_tests tests_nodes size
joined_size e [] = omega arith
joined_size e (r ∷ rs) = omega (arith, joined_size (two BitAnd e (test r)) rs, test_size r)

-- the tests of the first i codes
pub record Counted (cs : List ℕ) (i nodes : ℕ) : Type 0 where
  pub is : nodes ≡ tests_nodes (map requirement_of (take i cs))
  pub few : nodes ≤ 5 * i

pub none_counted : (cs : List ℕ) → Counted cs 0 0
unfolding tests_nodes
none_counted cs = record { is = refl; few = omega arith }

pub one_counted : (cs : List ℕ) (i nodes t : ℕ) → Counted cs i nodes → i < length cs → t ≡ test_nodes (requirement_of (get_or cs i 0)) → t ≤ 4 → Counted cs (i + 1) (nodes + (t + 1))
unfolding tests_nodes
one_counted cs i nodes t p l e f = record {
  is = rw (add-one i, take-suc cs i 0 l, map-append, sum_append) (omega (arith, p.is, e));
  few = omega (arith, p.few);
}

-- ---- acquired: an item's or atc's test, and a timer's rate joined to it

acquired_four : (a : Option ℕ) (w : ℕ) → test_nodes (acquired_req a w) ≡ 4
acquired_four none w = refl
acquired_four (some a) w = refl

or_rate_size : (t : Timer) (r : Requirement) → test_nodes r ≡ 4 → size (or_rate (rate_of t) (test r)) ≡ acquired_nodes t
unfolding size
or_rate_size plain r e = test_size r ∙ e
or_rate_size five r e = omega (arith, test_size r, e)
or_rate_size ten r e = omega (arith, test_size r, e)
or_rate_size fifteen r e = omega (arith, test_size r, e)

-- the negation has as many: a comparison flips, BitOr becomes BitAnd
negated_size : (t : Timer) (a : Option ℕ) (w : ℕ) → size (negate (or_rate (rate_of t) (test (acquired_req a w)))) ≡ acquired_nodes t
unfolding size test item_test atc_test
negated_size plain none w = size_compare Equal Item (pos w)
negated_size plain (some a) w = size_compare Equal Atc (pos a)
negated_size five none w = omega (arith, size_imm (pos w))
negated_size five (some a) w = omega (arith, size_imm (pos a))
negated_size ten none w = omega (arith, size_imm (pos w))
negated_size ten (some a) w = omega (arith, size_imm (pos a))
negated_size fifteen none w = omega (arith, size_imm (pos w))
negated_size fifteen (some a) w = omega (arith, size_imm (pos a))

pub acquired_size : (h : Sheet) (w : ℕ) → size (acquired_expr h w) ≡ acquired_nodes (timer_of h w)
unfolding acquired_expr
acquired_size h w = or_rate_size (timer_of h w) (acquired_req (atc_for h w) w) (acquired_four (atc_for h w) w)

pub missing_size : (h : Sheet) (w : ℕ) → size (negate (acquired_expr h w)) ≡ acquired_nodes (timer_of h w)
unfolding acquired_expr
missing_size h w = negated_size (timer_of h w) (atc_for h w) w
