-- A compiled test is 1 or 0 as its requirement holds, or 23 where that has a flag outside the save, whatever BitAnd and BitOr make of other values than 1 and 0. Assumes nothing.
use Rattle.std.specs.Prelude.{◌≡◌, refl, Bool, false, not, cond, ◌&&◌, ◌||◌, ℕ, zero, suc, ◌-◌, ◌≤◌, get_or, ℤ, pos, negsuc}
use Rattle.std.proofs.Math.Path.{ap}
use Rattle.std.proofs.Common.{◌∙◌, arith}
use Rattle.std.proofs.Math.Bool.{true, and-true, not-not, and_assoc}
use Rattle.std.proofs.Math.Option.{Option, none, some}
use mathlib.Core.List.{List, [], ◌∷◌}
use Rattle.std.specs.Int.{w16}
use Rattle.model.specs.Refusal.{no_flag}
use Rattle.model.specs.Signed.{b2z, bits_of, in_range, is_zero}
use Rattle.model.specs.Save.{Save, nat_at, flag_inside}
use Rattle.model.specs.Expr.{Expr, Joins, Value, and_then, bitwise, eval_by, imm, imm16, imm32, logical, negate, ok, stop, two}
use Rattle.model.specs.declared.Op2.TheVariants.{BitAnd}
use Rattle.model.specs.Sheet.{Sheet, all, atc_for}
use Rattle.model.specs.Requirement.{Requirement, haveAtc, haveFlag, haveItem, missingAtc, missingFlag, missingItem}
use Rattle.model.specs.Shop.{timer_of}
use Rattle.model.specs.Flags.{req_inside}
use Rattle.model.specs.Compile.{acquired_expr, acquired_req, atc_test, flag_test, item_test, join_tests, or_rate, rate_of, test}
use Rattle.model.specs.Meaning.{acquired, all_hold, at_rate, holds}

-- the flags are 0 or 1
abbrev pub Bits : List ℕ → Type 0
Bits l = (n : ℕ) → get_or l n 0 ≤ 1

-- of a value that is 0 or 1
bit : (n : ℕ) → n ≤ 1 → pos n ≡ b2z (not (is_zero (pos n)))
bit zero h = refl
bit (suc zero) h = refl
bit (suc (suc n)) h = absurd (omega arith)

-- of two values that are 1 or 0 they make their and and or
pub record OnBits (j : Joins) : Type 0 where
  pub and_law : (a b : Bool) → j.and (b2z a) (b2z b) ≡ b2z (a && b)
  pub or_law : (a b : Bool) → j.or (b2z a) (b2z b) ≡ b2z (a || b)

module _ (f : ℤ → ℤ → ℤ) (g : Bool → Bool → Bool) where
  -- the four pairs of bits
  pairs : f (pos 1) (pos 1) ≡ b2z (g true true) → f (pos 1) (pos 0) ≡ b2z (g true false) → f (pos 0) (pos 1) ≡ b2z (g false true) → f (pos 0) (pos 0) ≡ b2z (g false false)
      → (a b : Bool) → f (b2z a) (b2z b) ≡ b2z (g a b)
  pairs p q r t true true = p
  pairs p q r t true false = q
  pairs p q r t false true = r
  pairs p q r t false false = t

pub bitwise_bits : OnBits bitwise
unfolding bits_of
bitwise_bits = record { and_law = pairs bitwise.and ◌&&◌ refl refl refl refl; or_law = pairs bitwise.or ◌||◌ refl refl refl refl }

pub logical_bits : OnBits logical
logical_bits = record { and_law = pairs logical.and ◌&&◌ refl refl refl refl; or_law = pairs logical.or ◌||◌ refl refl refl refl }

nor_law : (a b : Bool) → not a && not b ≡ not (a || b)
nor_law true b = refl
nor_law false b = refl

-- expression e comes to x
abbrev pub ComesTo : Save → List ℤ → Expr → Value → Type 0
ComesTo s v e x = (j : Joins) → OnBits j → eval_by j s v e ≡ x

-- it is worth x
abbrev pub Worth : Save → List ℤ → Expr → ℤ → Type 0
Worth s v e x = ComesTo s v e (ok x)

-- what a test comes to: b where its flags are in the save, else 23
abbrev pub tested : Bool → Bool → Value
tested true b = ok (b2z b)
tested false b = stop no_flag

pub eval_imm : (j : Joins) (s : Save) (v : List ℤ) (z : ℤ) → eval_by j s v (imm z) ≡ ok z
unfolding imm
eval_imm j s v z = go (in_range w16 z)
  where
    go : (b : Bool) → eval_by j s v (cond b (imm16 z) (imm32 z)) ≡ ok z
    go true = refl
    go false = refl

pub worth_imm : (s : Save) (v : List ℤ) (z : ℤ) → Worth s v (imm z) z
worth_imm s v z j l = eval_imm j s v z

module _ (s : Save) (v : List ℤ) (bits : Bits s.flags) where
  flag_bit : (f : ℤ) → nat_at s.flags f ≡ b2z (not (is_zero (nat_at s.flags f)))
  flag_bit (pos n) = bit _ (bits n)
  flag_bit (negsuc n) = refl

  -- a flag, and its negation
  flag_read : (f : ℤ) (b : Bool) → cond b (ok (nat_at s.flags f)) (stop no_flag) ≡ tested b (not (is_zero (nat_at s.flags f)))
  flag_read f true = ap ok (flag_bit f)
  flag_read f false = refl

  flag_not : (f : ℤ) (b : Bool) → and_then (cond b (ok (nat_at s.flags f)) (stop no_flag)) (λ x. ok (b2z (is_zero x))) ≡ tested b (is_zero (nat_at s.flags f))
  flag_not f true = refl
  flag_not f false = refl

  pub eval_test : (r : Requirement) → ComesTo s v (test r) (tested (req_inside r) (holds s r))
  unfolding test item_test atc_test flag_test holds
  eval_test (haveItem i) j l = rw (eval_imm j s v)
  eval_test (missingItem i) j l = rw (eval_imm j s v)
  eval_test (haveAtc a) j l = rw (eval_imm j s v)
  eval_test (missingAtc a) j l = rw (eval_imm j s v)
  eval_test (haveFlag f) j l = rw (eval_imm j s v) (flag_read f (flag_inside f))
  eval_test (missingFlag f) j l = rw (eval_imm j s v) (flag_not f (flag_inside f))

  eval_negate_test : (r : Requirement) → ComesTo s v (negate (test r)) (tested (req_inside r) (not (holds s r)))
  unfolding test item_test atc_test flag_test holds
  eval_negate_test (haveItem i) j l = rw (eval_imm j s v, not-not)
  eval_negate_test (missingItem i) j l = rw (eval_imm j s v)
  eval_negate_test (haveAtc a) j l = rw (eval_imm j s v, not-not)
  eval_negate_test (missingAtc a) j l = rw (eval_imm j s v)
  eval_negate_test (haveFlag f) j l = rw (eval_imm j s v, not-not) (flag_not f (flag_inside f))
  eval_negate_test (missingFlag f) j l = rw (eval_imm j s v) (flag_read f (flag_inside f))

  -- both sides are evaluated, so that either one that reads outside stops it
  eval_and : (e f : Expr) (x y a b : Bool) → ComesTo s v e (tested x a) → ComesTo s v f (tested y b) → ComesTo s v (two BitAnd e f) (tested (x && y) (a && b))
  eval_and e f true true a b p q j l = rw (p j l, q j l) (ap ok (l.and_law a b))
  eval_and e f true false a b p q j l = rw (p j l, q j l)
  eval_and e f false y a b p q j l = rw (p j l)

  pub eval_join : (e : Expr) (x b : Bool) → ComesTo s v e (tested x b) → (rs : List Requirement) → ComesTo s v (join_tests e rs) (tested (x && all req_inside rs) (b && all_hold s rs))
  unfolding join_tests all_hold
  eval_join e x b p [] j l = rw (and-true x, and-true b) (p j l)
  eval_join e x b p (r ∷ rs) j l =
      rw (← and_assoc x (req_inside r) (all req_inside rs), ← and_assoc b (holds s r) (all_hold s rs))
      (eval_join (two BitAnd e (test r)) (x && req_inside r) (b && holds s r) (eval_and e (test r) x (req_inside r) b (holds s r) p (eval_test r)) rs j l)

  pub eval_reqs : (r : Requirement) (rs : List Requirement) → ComesTo s v (join_tests (test r) rs) (tested (all req_inside (r ∷ rs)) (all_hold s (r ∷ rs)))
  unfolding all_hold
  eval_reqs r rs = eval_join (test r) (req_inside r) (holds s r) (eval_test r) rs

  -- acquired asks no flag
  acquired_inside : (o : Option ℕ) (i : ℕ) → req_inside (acquired_req o i) ≡ true
  acquired_inside none i = refl
  acquired_inside (some a) i = refl

  pub eval_acquired : (h : Sheet) (i : ℕ) → Worth s v (acquired_expr h i) (b2z (acquired h s i))
  unfolding acquired_expr acquired
  eval_acquired h i = go (rate_of (timer_of h i)) (acquired_req (atc_for h i) i) (acquired_inside (atc_for h i) i)
    where
      go : (o : Option ℕ) (r : Requirement) → req_inside r ≡ true → Worth s v (or_rate o (test r)) (b2z (at_rate s o (holds s r)))
      go none r p j l = eval_test r j l ∙ rw p
      go (some n) r p j l = rw (eval_test r j l, p) (ap ok (l.or_law (holds s r) _))

  pub eval_missing : (h : Sheet) (i : ℕ) → Worth s v (negate (acquired_expr h i)) (b2z (not (acquired h s i)))
  unfolding acquired_expr acquired
  eval_missing h i = go (rate_of (timer_of h i)) (acquired_req (atc_for h i) i) (acquired_inside (atc_for h i) i)
    where
      go : (o : Option ℕ) (r : Requirement) → req_inside r ≡ true → Worth s v (negate (or_rate o (test r))) (b2z (not (at_rate s o (holds s r))))
      go none r p j l = eval_negate_test r j l ∙ rw p
      go (some n) r p j l = rw (eval_negate_test r j l, p) (ap ok (l.and_law (not (holds s r)) _ ∙ ap b2z (nor_law (holds s r) _)))

  pub eval_missing_and : (h : Sheet) (i : ℕ) (r : Requirement) (rs : List Requirement)
      → ComesTo s v (two BitAnd (negate (acquired_expr h i)) (join_tests (test r) rs)) (tested (all req_inside (r ∷ rs)) (not (acquired h s i) && all_hold s (r ∷ rs)))
  eval_missing_and h i r rs =
      eval_and (negate (acquired_expr h i)) (join_tests (test r) rs) true (all req_inside (r ∷ rs)) (not (acquired h s i)) (all_hold s (r ∷ rs)) (eval_missing h i) (eval_reqs r rs)
