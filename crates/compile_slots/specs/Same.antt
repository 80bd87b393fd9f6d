-- The blocks of a context are those of the definition. Assumes nothing.
use Rattle.std.specs.Prelude.{◌≡◌, refl, Bool, true, false, cond, List, [], ◌∷◌, map, ℕ, zero, suc, ◌+◌, ◌-◌, leb, ℤ, length, take, get_or}
use Rattle.std.proofs.Common.{ap, ap₂, ◌∙◌, arith}
use Rattle.std.proofs.Math.Numerals.{add-one, add-two, add-three, add-four}
use Rattle.model.specs.Limits.{entry_limit}
use Rattle.model.specs.Expr.{Expr, two, negate}
use Rattle.model.specs.declared.Op2.TheVariants.{BitAnd}
use Rattle.model.specs.Script.{Block}
use Rattle.model.specs.Requirement.{Requirement}
use Rattle.model.specs.Sheet as Model
use Rattle.model.specs.Shop.{Timer, plain, five, ten, fifteen, timer_of, limit_of}
use Rattle.model.specs.Compile.{item_test, test, join_tests, acquired_expr, hide_block, enable_blocks, unique_blocks, limit_blocks, filled_blocks}
use Rattle.shop_codes.specs.Codes.{requirement_of}
use Rattle.expr_build.specs.Tests.{codes_rest, join_codes, acquired_of, missing_and}
use Rattle.expr_build.specs.AcquiredLaws.{missing_none}
use Rattle.compile_slots.specs.declared.ItemContext.{ItemContext}
use Rattle.compile_slots.specs.Parts.{is_five, enable_of, unique_by, unique_of, limit_by, limit_in, sold_of, filled_by, filled_of, Stands, Listed}

plus1_1 : (n : ℕ) → n + 1 + 1 ≡ suc (suc n)
plus1_1 n = omega arith

plus3_1 : (n : ℕ) → n + 3 + 1 ≡ suc (suc (suc (suc n)))
plus3_1 n = omega arith

-- the first of some requirements and the others
first_rest : (cs : List ℕ) (n : ℕ) → length cs ≡ entry_limit → map requirement_of (take (suc n) cs) ≡ requirement_of (get_or cs 0 0) ∷ codes_rest cs (suc n)
first_rest [] n h = absurd (omega arith)
first_rest (c ∷ cs) n h = let e : suc n - 1 ≡ n = omega arith in rw e

-- above N, whatever its number is
enable_same : (x : ItemContext) (cs : List ℕ) (h : Model.Sheet) (v : Expr) (t : Timer) (k n : ℕ) → x.five ≡ is_five t → x.ten.0 ≡ h.timer10 → x.fifteen.0 ≡ h.timer15
    → missing_and x.acquired cs x.len ≡ v → enable_of x cs k n ≡ enable_blocks h x.index x.end.0 x.item.0 t v k n
unfolding join_tests test item_test
enable_same x cs h v plain k n f a b e = rw (f, e)
enable_same x cs h v ten k n f a b e = rw (f, e)
enable_same x cs h v fifteen k n f a b e = rw (f, e)
enable_same x cs h v five k n f a b e = rw (f, e, a, b, add-one n, add-two n)

module _ (x : ItemContext) (cs : List ℕ) (h : Model.Sheet) (z : ℤ) (rs : List Requirement) (s : Stands x h z) (d : Listed cs x.len rs) where
  missing_is : negate (acquired_of x.acquired) ≡ negate (acquired_expr h x.item.0)
  missing_is = ap negate s.acquired

  -- no requirements
  module _ (none : x.len ≡ 0) where
    none_missing : missing_and x.acquired cs x.len ≡ negate (acquired_expr h x.item.0)
    none_missing = missing_none x.acquired cs x.len none ∙ missing_is

    unique_by_none : unique_by zero x cs ≡ unique_blocks h x.index x.end.0 x.item.0 []
    unfolding unique_blocks
    unique_by_none =
        rw (enable_same x cs h (negate (acquired_expr h x.item.0)) (timer_of h x.item.0) (x.end.0 + 1) (x.end.0 + 1 + 1) s.five s.ten s.fifteen none_missing, plus1_1 x.end.0, add-one x.end.0)

    limit_by_none : limit_by zero x cs ≡ limit_blocks x.index x.end.0 x.item.0 x.limit []
    unfolding limit_blocks
    limit_by_none = rw (add-one x.end.0)

    sold_none : sold_of x cs ≡ filled_blocks h x.index x.end.0 x.item.0 x.limit []
    sold_none =
        ap₂ (λ (u l : List Block). cond (leb x.limit 1) u l) (ap (λ (n : ℕ). unique_by n x cs) none ∙ unique_by_none) (ap (λ (n : ℕ). limit_by n x cs) none ∙ limit_by_none)

  -- some requirements
  module _ (n : ℕ) (some : x.len ≡ suc n) where
    r : Requirement
    r = requirement_of (get_or cs 0 0)

    rest : List Requirement
    rest = codes_rest cs (suc n)

    some_missing : missing_and x.acquired cs x.len ≡ two BitAnd (negate (acquired_expr h x.item.0)) (join_tests (test r) rest)
    unfolding r rest
    some_missing = rw some (ap (λ (m : Expr). two BitAnd m (join_codes cs (suc n))) missing_is)

    unique_by_some : hide_block x.end.0 x.index ∷ unique_by (suc n) x cs ≡ unique_blocks h x.index x.end.0 x.item.0 (r ∷ rest)
    unfolding unique_blocks
    unique_by_some =
        rw (
          enable_same x cs h (two BitAnd (negate (acquired_expr h x.item.0)) (join_tests (test r) rest)) (timer_of h x.item.0) (x.end.0 + 3) (x.end.0 + 3 + 1) s.five s.ten s.fifteen some_missing,
          s.acquired,
          plus3_1 x.end.0,
          add-one x.end.0,
          add-two x.end.0,
          add-three x.end.0,
        )

    limit_by_some : hide_block x.end.0 x.index ∷ limit_by (suc n) x cs ≡ limit_blocks x.index x.end.0 x.item.0 x.limit (r ∷ rest)
    unfolding limit_blocks r rest
    limit_by_some = rw (some, add-one x.end.0, add-two x.end.0, add-four x.end.0)

    sold_some : hide_block x.end.0 x.index ∷ sold_of x cs ≡ filled_blocks h x.index x.end.0 x.item.0 x.limit (r ∷ rest)
    sold_some = by (leb x.limit 1)
      where
        by : (b : Bool) → hide_block x.end.0 x.index ∷ cond b (unique_of x cs) (limit_in x cs)
            ≡ cond b (unique_blocks h x.index x.end.0 x.item.0 (r ∷ rest)) (limit_blocks x.index x.end.0 x.item.0 x.limit (r ∷ rest))
        by true = ap (λ (m : ℕ). hide_block x.end.0 x.index ∷ unique_by m x cs) some ∙ unique_by_some
        by false = ap (λ (m : ℕ). hide_block x.end.0 x.index ∷ limit_by m x cs) some ∙ limit_by_some

    some_are : map requirement_of (take (suc n) cs) ≡ r ∷ rest
    unfolding r rest
    some_are = first_rest cs n d.long

  by_number : (n : ℕ) → x.len ≡ n → filled_by n x cs ≡ filled_blocks h x.index x.end.0 x.item.0 x.limit (map requirement_of (take n cs))
  by_number zero e = sold_none e
  by_number (suc n) e = rw (some_are n e) (sold_some n e)

  pub filled_same : filled_of x cs ≡ filled_blocks h x.index x.end.0 x.item.0 (limit_of h x.item.0 z) rs
  filled_same = by_number x.len refl
      ∙ ap₂ (λ (l : ℕ) (qs : List Requirement). filled_blocks h x.index x.end.0 x.item.0 l qs) s.limit d.is
