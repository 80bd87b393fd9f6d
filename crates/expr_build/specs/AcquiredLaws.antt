-- Laws of acquired and its negation: with a rate and without, and how many nodes they take. Assumes nothing.
use Rattle.std.specs.Prelude.{ℕ, zero, suc, ◌+◌, ◌≤◌, ◌≡◌, refl, List, pos}
use Rattle.std.proofs.Common.{arith}
use Rattle.model.specs.Expr.{Expr, two, size, negate}
use Rattle.model.specs.declared.Op2.TheVariants.{Equal, NotEqual, BitAnd, BitOr}
use Rattle.model.specs.declared.Op1.TheVariants.{Item}
use Rattle.expr_negate.specs.Turns.{Flips, compared, joined, flips_size}
use Rattle.expr_build.specs.declared.Acquired.{Acquired}
use Rattle.expr_build.specs.Tests.{with_zero, rate_test, with_rate, acquired_of, missing_and, join_codes, both_missing}
use Rattle.expr_build.specs.Codes.{size_compare}

pub rate_none : (e : Expr) (r : ℕ) → r ≡ 0 → with_rate e r ≡ e
rate_none e r h = rw h

pub rate_some : (e : Expr) (r : ℕ) → (r ≡ 0 → ⊥) → with_rate e r ≡ two BitOr e (rate_test r)
rate_some e zero h = absurd (h refl)
rate_some e (suc r) h = refl

size_rate : (e : Expr) (r : ℕ) → (r ≡ 0 → ⊥) → size (with_rate e r) ≡ size e + 5
unfolding size
size_rate e zero h = absurd (h refl)
size_rate e (suc r) h = omega arith

pub size_timer : (a : Acquired) → (a.rate ≡ 0 → ⊥) → size (acquired_of a) ≡ 9
size_timer a h = omega (arith, size_rate (with_zero NotEqual a.of (pos a.id)) a.rate h, size_compare NotEqual a.of (pos a.id))

pub size_least : (a : Acquired) → 4 ≤ size (acquired_of a)
size_least a = by a.rate
  where
    by : (r : ℕ) → 4 ≤ size (with_rate (with_zero NotEqual a.of (pos a.id)) r)
    by zero = omega (arith, size_compare NotEqual a.of (pos a.id))
    by (suc r) = omega (arith, size_rate (with_zero NotEqual a.of (pos a.id)) (suc r) (λ e. omega arith), size_compare NotEqual a.of (pos a.id))

-- a comparison, or an Or of two
pub acquired_flips : (a : Acquired) → Flips (acquired_of a)
acquired_flips a = by a.rate
  where
    by : (r : ℕ) → Flips (with_rate (with_zero NotEqual a.of (pos a.id)) r)
    by zero = compared refl refl
    by (suc r) = joined refl (compared refl refl) (compared refl refl)

pub size_missing : (a : Acquired) → size (negate (acquired_of a)) ≡ size (acquired_of a)
size_missing a = flips_size (acquired_flips a)

pub missing_none : (a : Acquired) (cs : List ℕ) (n : ℕ) → n ≡ 0 → missing_and a cs n ≡ negate (acquired_of a)
missing_none a cs n h = rw h

pub missing_some : (a : Acquired) (cs : List ℕ) (n : ℕ) → (n ≡ 0 → ⊥) → missing_and a cs n ≡ two BitAnd (negate (acquired_of a)) (join_codes cs n)
missing_some a cs zero h = absurd (h refl)
missing_some a cs (suc n) h = refl

pub size_missing_some : (a : Acquired) (cs : List ℕ) (n : ℕ) → (n ≡ 0 → ⊥) → size (missing_and a cs n) ≡ size (negate (acquired_of a)) + size (join_codes cs n) + 1
unfolding size
size_missing_some a cs n h = rw (missing_some a cs n h) (omega arith)

pub size_missing_least : (a : Acquired) (cs : List ℕ) (n : ℕ) → size (negate (acquired_of a)) ≤ size (missing_and a cs n)
unfolding size
size_missing_least a cs zero = omega arith
size_missing_least a cs (suc n) = omega arith

pub size_both : (a b : ℕ) → size (both_missing a b) ≡ 9
unfolding size
size_both a b = omega (arith, size_compare Equal Item (pos a), size_compare Equal Item (pos b))
