-- The parts of tests: an id compared, what a requirement is about, an array of codes joined, acquired. Assumes nothing: these are definitions.
use Rattle.std.specs.Prelude.{List, map, ℕ, zero, suc, ◌-◌, ℤ, pos, take, drop, get_or}
use Rattle.model.specs.Expr.{Expr, two, one, imm16, imm, negate}
use Rattle.model.specs.declared.Op2.{Op2}
use Rattle.model.specs.declared.Op1.{Op1}
use Rattle.model.specs.declared.Op2.TheVariants.{Equal, NotEqual, BitAnd, BitOr}
use Rattle.model.specs.declared.Op1.TheVariants.{Item, Time}
use Rattle.model.specs.Requirement.{Requirement}
use Rattle.model.specs.Compile.{test, join_tests}
use Rattle.shop_codes.specs.Codes.{requirement_of}
use Rattle.expr_build.specs.declared.Acquired.{Acquired}

-- o[z] compared with 0
abbrev pub with_zero : Op2 → Op1 → ℤ → Expr
with_zero b o z = two b (one o (imm z)) (imm16 (pos 0))

abbrev pub codes_rest : List ℕ → ℕ → List Requirement
codes_rest cs n = map requirement_of (take (n - 1) (drop 1 cs))

-- R of the first n codes, of which there is at least one
abbrev pub join_codes : List ℕ → ℕ → Expr
join_codes cs n = join_tests (test (requirement_of (get_or cs 0 0))) (codes_rest cs n)

-- ---- acquired: an item's or atc's test, or a timer's rate; 0 is no rate

-- time[2] == rate
abbrev pub rate_test : ℕ → Expr
rate_test r = two Equal (one Time (imm16 (pos 2))) (imm16 (pos r))

abbrev pub with_rate : Expr → ℕ → Expr
with_rate e zero = e
with_rate e (suc r) = two BitOr e (rate_test (suc r))

abbrev pub acquired_of : Acquired → Expr
acquired_of a = with_rate (with_zero NotEqual a.of (pos a.id)) a.rate

-- not acquired, and R of the first n codes where there are any
abbrev pub missing_and : Acquired → List ℕ → ℕ → Expr
missing_and a cs zero = negate (acquired_of a)
missing_and a cs (suc n) = two BitAnd (negate (acquired_of a)) (join_codes cs (suc n))

-- two items missing
abbrev pub both_missing : ℕ → ℕ → Expr
both_missing a b = two BitAnd (with_zero Equal Item (pos a)) (with_zero Equal Item (pos b))
