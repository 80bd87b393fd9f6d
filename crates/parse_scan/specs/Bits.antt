-- A mask as a list of bits, the lowest first: a bit set, the lowest set bit, two masks merged. Assumes nothing.
use Rattle.std.specs.Prelude.{◌≡◌, refl, Bool, true, false, List, [], ◌∷◌, ℕ, zero, suc, ◌+◌, ◌/◌, ◌%◌, ◌^◌, ◌-◌, ◌≤◌, ◌<◌, max, length, get_or, set, eqb}
use Rattle.std.proofs.Common.{sym, ap, ◌∙◌, arith, pow-suc, div-one, eqb-true, pow-add}
use Rattle.std.proofs.Math.Nat.{max-zero, max-le, max-eq_right, div-div-eq-div-mul, pow-succ'}
use Rattle.std.proofs.lemmas.Bool.{eqb-false}
use Rattle.std.specs.Int.Bits.{bit_or, or_step, or_zero_r}
use Rattle.std.proofs.lemmas.Nat.{or_shr}
use Rattle.std.specs.Int.Count.{count_trailing_zeros, under}

unfoldable pub bits_of : ℕ → ℕ → List Bool
bits_of zero m = []
bits_of (suc k) m = eqb (m % 2) 1 ∷ bits_of k (m / 2)

digit : (a b : ℕ) → max (a % 2) (b % 2) < 2
digit a b = let h : max (a % 2) (b % 2) ≤ 1 = max-le (omega arith) (omega arith) in omega arith

-- the digits of a mask with bit i set
low_half : (a b : ℕ) → bit_or a b / 2 ≡ bit_or (a / 2) (b / 2)
low_half a b = omega (arith, or_step a b, digit a b)

low_digit : (a b : ℕ) → bit_or a b % 2 ≡ max (a % 2) (b % 2)
low_digit a b = omega (arith, or_step a b, digit a b)

pow_half : (i : ℕ) → 2 ^ suc i / 2 ≡ 2 ^ i
pow_half i = omega (arith, pow-suc 2 i)

pow_even : (i : ℕ) → 2 ^ suc i % 2 ≡ 0
pow_even i = omega (arith, pow-suc 2 i)

pub bits_set : (k i a : ℕ) → bits_of k (bit_or a (2 ^ i)) ≡ set (bits_of k a) i true
unfolding bits_of
bits_set zero i a = refl
bits_set (suc k) zero a = rw (low_digit a 1, low_half a 1, or_zero_r (a / 2), max-eq_right {n = a % 2} {m = 1} (omega arith))
bits_set (suc k) (suc i) a = rw (low_digit a (2 ^ suc i), low_half a (2 ^ suc i), pow_half i, pow_even i, max-zero (a % 2), bits_set k i (a / 2))

pub bits_length : (k m : ℕ) → length (bits_of k m) ≡ k
unfolding bits_of
bits_length zero m = refl
bits_length (suc k) m = ap suc (bits_length k (m / 2))

-- ---- the lowest set bit

-- bit i of a mask
abbrev pub bit_at : ℕ → ℕ → Bool
bit_at m i = eqb (m / 2 ^ i % 2) 1

half_more : (m i : ℕ) → m / 2 / 2 ^ i ≡ m / 2 ^ suc i
half_more m i = div-div-eq-div-mul m 2 (2 ^ i) ∙ ap (λ x. m / x) (sym (pow-succ' 2 i))

pub bit_at_lem : (k i m : ℕ) → i < k → get_or (bits_of k m) i false ≡ bit_at m i
unfolding bits_of
bit_at_lem zero i m h = absurd (omega arith)
bit_at_lem (suc k) zero m h = rw (div-one m)
bit_at_lem (suc k) (suc i) m h = bit_at_lem k i (m / 2) (omega arith) ∙ ap (λ x. eqb (x % 2) 1) (half_more m i)

-- below the trailing zeros no bit is set, and at their number one is
pub tz_below : (k n j : ℕ) → j < count_trailing_zeros k n → n / 2 ^ j % 2 ≡ 0
unfolding count_trailing_zeros
tz_below zero n j h = absurd (omega arith)
tz_below (suc k) n zero h = rw (div-one n) (by (n % 2) h)
  where
    by : (d : ℕ) → 0 < under d (count_trailing_zeros k (n / 2)) → d ≡ 0
    by zero l = refl
    by (suc d) l = absurd (omega arith)
tz_below (suc k) n (suc j) h = ap (λ x. x % 2) (sym (half_more n j)) ∙ tz_below k (n / 2) j (by (n % 2) h)
  where
    by : (d : ℕ) → suc j < under d (count_trailing_zeros k (n / 2)) → j < count_trailing_zeros k (n / 2)
    by zero l = omega arith
    by (suc d) l = absurd (omega arith)

pub tz_at : (k n : ℕ) → count_trailing_zeros k n < k → n / 2 ^ count_trailing_zeros k n % 2 ≡ 1
unfolding count_trailing_zeros
tz_at zero n h = absurd (omega arith)
tz_at (suc k) n h = by (n % 2) refl h (λ l. tz_at k (n / 2) l)
  where
    by : (d : ℕ) → n % 2 ≡ d → under d (count_trailing_zeros k (n / 2)) < suc k → (count_trailing_zeros k (n / 2) < k → n / 2 / 2 ^ count_trailing_zeros k (n / 2) % 2 ≡ 1)
        → n / 2 ^ under d (count_trailing_zeros k (n / 2)) % 2 ≡ 1
    by zero e l q = ap (λ x. x % 2) (sym (half_more n (count_trailing_zeros k (n / 2)))) ∙ q (omega arith)
    by (suc d) e l q = rw (div-one n) (omega arith)

-- the same of a mask that is shifted by at
module _ (m at : ℕ) where
  shifted : (j : ℕ) → m / 2 ^ at / 2 ^ j ≡ m / 2 ^ (at + j)
  shifted j = div-div-eq-div-mul m (2 ^ at) (2 ^ j) ∙ ap (λ x. m / x) (sym (pow-add 2 at j))

  pub none_between : (i : ℕ) → at ≤ i → i < at + count_trailing_zeros 32 (m / 2 ^ at) → bit_at m i ≡ false
  none_between i h l =
      let e : at + (i - at) ≡ i = omega arith in
      let z : m / 2 ^ i % 2 ≡ 0 = rw (← e) (rw (← shifted (i - at)) (tz_below 32 (m / 2 ^ at) (i - at) (omega arith))) in
      rw z

  pub one_there : count_trailing_zeros 32 (m / 2 ^ at) < 32 → bit_at m (at + count_trailing_zeros 32 (m / 2 ^ at)) ≡ true
  one_there h = rw (← shifted (count_trailing_zeros 32 (m / 2 ^ at)), tz_at 32 (m / 2 ^ at) h)

-- ---- two masks merged

-- a bit that is not in the merged mask is in neither
pub or_none : (a b j : ℕ) → bit_at (bit_or a b) j ≡ false → bit_at b j ≡ false
or_none a b j h = by (bit_at b j) refl
  where
    by : (t : Bool) → bit_at b j ≡ t → t ≡ false
    by false e = refl
    by true e =
        let x : ℕ = a / 2 ^ j % 2 in
        let y : b / 2 ^ j % 2 ≡ 1 = eqb-true (b / 2 ^ j % 2) 1 e in
        let m : max (a / 2 ^ j % 2) (b / 2 ^ j % 2) ≡ 1 = rw y (max-eq_right {n = a / 2 ^ j % 2} {m = 1} (omega arith)) in
        let z : bit_or a b / 2 ^ j % 2 ≡ 1 = ap (λ k. k % 2) (or_shr a b j) ∙ low_digit (a / 2 ^ j) (b / 2 ^ j) ∙ m in
        absurd (eqb-false (bit_or a b / 2 ^ j % 2) 1 h z)
