-- Every expression that the compiler makes fits: its ids are on the sheet, it is at most entry_limit + 5 levels deep. Assumes nothing.
use Rattle.std.specs.Prelude.{◌≡◌, refl, Bool, true, false, cond, ltb, ℤ, pos, negsuc}
use Rattle.std.proofs.Math.Option.{Option, none, some}
use mathlib.Core.List.{List, [], ◌∷◌}
use Prim.Native.Nat.{ℕ, zero, suc, ◌+◌, ◌*◌, ◌^◌, ◌≤◌, ◌<◌}
use Rattle.std.proofs.Common.{arith, ltb-true, lt-ltb}
use Rattle.std.proofs.Math.ListN.{length}
use Rattle.std.specs.Int.{w16, w32}
use Rattle.model.specs.Limits.{depth_limit, entry_limit, wide, wide16}
use Rattle.model.specs.Signed.{in_range}
use Rattle.model.specs.Reading.{zig}
use Rattle.model.specs.Expr.{Expr, two, one, imm16, imm32, other, negate, imm}
use Rattle.model.specs.declared.Op2.{Op2}
use Rattle.model.specs.declared.Op2.TheVariants.{BitAnd}
use Rattle.model.specs.Sheet.{Sheet, item_count, atc_for, all}
use Rattle.model.specs.Requirement.{Requirement, haveItem, missingItem, haveAtc, missingAtc, haveFlag, missingFlag}
use Rattle.model.specs.Shop.{Timer, plain, five, ten, fifteen, timer_of, req_known}
use Rattle.model.specs.Compile.{item_test, atc_test, flag_test, test, join_tests, rate_of, acquired_req, or_rate, acquired_expr, no_timer_expr, item_expr, temp_var, remaining_expr}
use Rattle.model.proofs.Laws.ImageExpr.{FitsExpr}
use Rattle.model.proofs.Laws.Checks.{and_left, and_right}
use Rattle.model.proofs.Laws.Checked.{SheetLow}

-- the one place where the limits of entries and of depth meet
pub deep_enough : entry_limit + 5 ≤ depth_limit
deep_enough = omega arith

-- ---- depth

pub fits_deeper : (d k : ℕ) (e : Expr) → d ≤ k → FitsExpr d e → FitsExpr k e
unfolding FitsExpr
fits_deeper zero k e h f = absurd f
fits_deeper (suc d) zero e h f = absurd (omega arith)
fits_deeper (suc d) (suc k) (two o a b) h f = (fits_deeper d k a (omega arith) f.0, fits_deeper d k b (omega arith) f.1)
fits_deeper (suc d) (suc k) (one o a) h f = fits_deeper d k a (omega arith) f
fits_deeper (suc d) (suc k) (imm16 z) h f = f
fits_deeper (suc d) (suc k) (imm32 z) h f = f
fits_deeper (suc d) (suc k) other h f = tt

pub fits_two : (d : ℕ) (o : Op2) (a b : Expr) → FitsExpr d a → FitsExpr d b → FitsExpr (suc d) (two o a b)
unfolding FitsExpr
fits_two d o a b f g = (f, g)

-- ---- numbers

low_16 : (z : ℤ) → in_range w16 z ≡ true → zig z < wide16
unfolding zig
low_16 (pos n) p = let h = ltb-true n (2 ^ 15) p in omega arith
low_16 (negsuc n) p = let h = ltb-true n (2 ^ 15) p in omega arith

low_32 : (z : ℤ) → in_range w32 z ≡ true → zig z < wide
unfolding zig
low_32 (pos n) p = let h = ltb-true n (2 ^ 31) p in omega arith
low_32 (negsuc n) p = let h = ltb-true n (2 ^ 31) p in omega arith

pub fits_imm : (d : ℕ) (z : ℤ) → in_range w32 z ≡ true → FitsExpr (suc d) (imm z)
unfolding imm FitsExpr
fits_imm d z p = by (in_range w16 z) refl
  where
    by : (b : Bool) → in_range w16 z ≡ b → FitsExpr (suc d) (cond b (imm16 z) (imm32 z))
    by true e = low_16 z e
    by false e = low_32 z p

-- a number that Imm16 holds
pub fits_small : (d n : ℕ) → 2 * n < wide16 → FitsExpr (suc d) (imm16 (pos n))
unfolding FitsExpr zig
fits_small d n h = omega arith

-- the item of a hidden slot
pub fits_hidden : (d : ℕ) → FitsExpr (suc d) (imm16 (negsuc 0))
unfolding FitsExpr zig
fits_hidden d = omega arith

small_32 : (n : ℕ) → 2 * n < wide16 → in_range w32 (pos n) ≡ true
small_32 n h = lt-ltb n (2 ^ 31) (omega arith)

-- ---- tests

module _ (h : Sheet) (f : SheetLow h) where
  item_32 : (i : ℕ) → ltb i (item_count h) ≡ true → in_range w32 (pos i) ≡ true
  item_32 i p = small_32 i (omega (arith, ltb-true i (item_count h) p, f.items))

  atc_32 : (a : ℕ) → ltb a h.atc_count ≡ true → in_range w32 (pos a) ≡ true
  atc_32 a p = small_32 a (omega (arith, ltb-true a h.atc_count p, f.atcs))

  pub fits_item : (d i : ℕ) → ltb i (item_count h) ≡ true → FitsExpr (suc d) (item_expr i)
  fits_item d i p = fits_imm d (pos i) (item_32 i p)

  pub fits_test : (r : Requirement) → req_known h r ≡ true → FitsExpr 3 (test r)
  unfolding test item_test atc_test flag_test FitsExpr
  fits_test (haveItem i) p = (fits_imm 0 (pos i) (item_32 i p), fits_small 1 0 (omega arith))
  fits_test (missingItem i) p = (fits_imm 0 (pos i) (item_32 i p), fits_small 1 0 (omega arith))
  fits_test (haveAtc a) p = (fits_imm 0 (pos a) (atc_32 a p), fits_small 1 0 (omega arith))
  fits_test (missingAtc a) p = (fits_imm 0 (pos a) (atc_32 a p), fits_small 1 0 (omega arith))
  fits_test (haveFlag z) p = fits_imm 1 z p
  fits_test (missingFlag z) p = fits_imm 0 z p

  pub fits_negated : (r : Requirement) → req_known h r ≡ true → FitsExpr 3 (negate (test r))
  unfolding test item_test atc_test flag_test FitsExpr
  fits_negated (haveItem i) p = (fits_imm 0 (pos i) (item_32 i p), fits_small 1 0 (omega arith))
  fits_negated (missingItem i) p = (fits_imm 0 (pos i) (item_32 i p), fits_small 1 0 (omega arith))
  fits_negated (haveAtc a) p = (fits_imm 0 (pos a) (atc_32 a p), fits_small 1 0 (omega arith))
  fits_negated (missingAtc a) p = (fits_imm 0 (pos a) (atc_32 a p), fits_small 1 0 (omega arith))
  fits_negated (haveFlag z) p = fits_imm 0 z p
  fits_negated (missingFlag z) p = fits_imm 1 z p

  -- each test that is joined is a level more
  pub fits_joined : (d : ℕ) (e : Expr) (rs : List Requirement) → 3 ≤ d → FitsExpr d e → all (req_known h) rs ≡ true → FitsExpr (d + length rs) (join_tests e rs)
  unfolding join_tests FitsExpr
  fits_joined d e [] l k p = fits_deeper d (d + 0) e (omega arith) k
  fits_joined d e (r ∷ rs) l k p =
      let t = fits_deeper 3 d (test r) l (fits_test r (and_left (req_known h r) _ p)) in
      fits_deeper (suc d + length rs) (d + suc (length rs)) (join_tests (two BitAnd e (test r)) rs) (omega arith)
      (fits_joined (suc d) (two BitAnd e (test r)) rs (omega arith) (k, t) (and_right (req_known h r) _ p))

  -- R of a slot's entries
  pub fits_entries : (r : Requirement) (rs : List Requirement) → all (req_known h) (r ∷ rs) ≡ true → FitsExpr (length (r ∷ rs) + 2) (join_tests (test r) rs)
  fits_entries r rs p =
      fits_deeper (3 + length rs) (length (r ∷ rs) + 2) (join_tests (test r) rs) (omega arith)
      (fits_joined 3 (test r) rs (omega arith) (fits_test r (and_left (req_known h r) _ p)) (and_right (req_known h r) _ p))

  -- ---- acquired

  module _ (w : ℕ) (p : ltb w (item_count h) ≡ true) where
    acquired_known : req_known h (acquired_req (atc_for h w) w) ≡ true
    acquired_known = by (atc_for h w) refl
      where
        by : (o : Option ℕ) → atc_for h w ≡ o → req_known h (acquired_req o w) ≡ true
        by none e = p
        by (some a) e = f.known w a e

    pub fits_acquired : FitsExpr 4 (acquired_expr h w)
    unfolding acquired_expr FitsExpr
    fits_acquired = by (timer_of h w)
      where
        q : Requirement
        q = acquired_req (atc_for h w) w

        rated : (n : ℕ) → 2 * n < wide16 → FitsExpr 4 (or_rate (some n) (test q))
        rated n l = (fits_test q acquired_known, (fits_small 0 2 (omega arith), fits_small 1 n l))

        by : (t : Timer) → FitsExpr 4 (or_rate (rate_of t) (test q))
        by plain = fits_deeper 3 4 (test q) (omega arith) (fits_test q acquired_known)
        by five = rated 200 (omega arith)
        by ten = rated 100 (omega arith)
        by fifteen = rated 67 (omega arith)

    pub fits_missing : FitsExpr 4 (negate (acquired_expr h w))
    unfolding acquired_expr FitsExpr
    fits_missing = by (timer_of h w)
      where
        q : Requirement
        q = acquired_req (atc_for h w) w

        rated : (n : ℕ) → 2 * n < wide16 → FitsExpr 4 (negate (or_rate (some n) (test q)))
        rated n l = (fits_negated q acquired_known, (fits_small 0 2 (omega arith), fits_small 1 n l))

        by : (t : Timer) → FitsExpr 4 (negate (or_rate (rate_of t) (test q)))
        by plain = fits_deeper 3 4 (negate (test q)) (omega arith) (fits_negated q acquired_known)
        by five = rated 200 (omega arith)
        by ten = rated 100 (omega arith)
        by fifteen = rated 67 (omega arith)

  -- ---- timers, and what remains

  pub fits_no_timer : FitsExpr 4 (no_timer_expr h)
  fits_no_timer = fits_joined 3 (test (missingItem h.timer10)) (missingItem h.timer15 ∷ []) (omega arith) (fits_test (missingItem h.timer10) f.second) (rw f.third)

  pub fits_remaining : (l w : ℕ) → 2 * l < wide16 → ltb w (item_count h) ≡ true → FitsExpr 3 (remaining_expr l w)
  unfolding FitsExpr
  fits_remaining l w k p = (fits_small 1 l k, fits_item 0 w p)

pub fits_temp : FitsExpr 2 temp_var
unfolding FitsExpr
fits_temp = fits_small 0 0 (omega arith)
