-- What bits a number has, at any width. Assumes nothing.
use Rattle.std.specs.Prelude.{◌≡◌, ℕ, suc, ◌+◌, ◌-◌, ◌*◌, ◌/◌, ◌%◌, ◌^◌, ◌≤◌, ◌<◌, T, leb, ℤ, pos, negsuc}
use Rattle.std.proofs.Common.{sym, ap, ◌∙◌, subst, mod-eq_of_lt, mod-lt, zero-lt-suc, add-mul, suc-mul, sub-add_cancel, arith, leb→le, pow_pos, pow-add, shr_lt}
use Rattle.std.proofs.Math.Pow.{pow-sub-lt, split, low, mod-mod-pow}
use Rattle.std.specs.Int.{Width}
use mir.Val.{Fits, SFits, to_z, of_z, bits}
use mir.ValLaws.{half_full}
use Rattle.model.specs.Signed.{bits_of, low_bits}
use Rattle.model.proofs.Laws.Signed.{low_bits_under}

-- the lowest bits of a number of that width are all its bits
pub low_bits_own : (w : Width) (z : ℤ) → SFits w z → low_bits w z ≡ of_z w z
low_bits_own w (pos n) f = mod-eq_of_lt (half_full w f.sfits)
low_bits_own w (negsuc n) f = ap (λ (k : ℕ). 2 ^ bits w - suc k) (mod-eq_of_lt (half_full w f.sfits))

-- they are as many as the width has
pub low_bits_fit : (w : Width) (z : ℤ) → Fits w (low_bits w z)
low_bits_fit w z = record { fits = low_bits_under w z }

-- so an operation on bits is taken on all bits of two numbers of that width
pub bits_own : (op : ℕ → ℕ → ℕ) (w : Width) (a b : ℤ) → SFits w a → SFits w b → to_z w (op (of_z w a) (of_z w b)) ≡ bits_of op w a b
unfolding bits_of
bits_own op w a b f g = rw (low_bits_own w a f, low_bits_own w b g)

-- counted down from the top, j + k bits have as their lowest k what k bits have
flipped : (j k n : ℕ) → n < 2 ^ (j + k) → (2 ^ (j + k) - suc n) % 2 ^ k ≡ 2 ^ k - suc (n % 2 ^ k)
flipped j k n h =
    let d = 2 ^ j - suc (n / 2 ^ k) in
    let q : n / 2 ^ k < 2 ^ j = shr_lt j k h in
    let p : 2 ^ j ≡ d + suc (n / 2 ^ k) = omega arith in
    let e = pow-add 2 j k ∙ ap (λ (x : ℕ). x * 2 ^ k) p ∙ add-mul d (suc (n / 2 ^ k)) (2 ^ k) ∙ ap (λ (x : ℕ). d * 2 ^ k + x) (suc-mul (n / 2 ^ k) (2 ^ k)) in
    let s : 2 ^ (j + k) - suc n ≡ d * 2 ^ k + (2 ^ k - suc (n % 2 ^ k)) = omega (arith, split n k, mod-lt n (pow_pos k)) in
    ap (λ (x : ℕ). x % 2 ^ k) s ∙ low d k (pow-sub-lt k (zero-lt-suc (n % 2 ^ k)))

-- the lowest bits at the width v are among those at a wider w
pub low_bits_lower : (v w : Width) (z : ℤ) → T (leb (bits v) (bits w)) → low_bits w z % 2 ^ bits v ≡ low_bits v z
low_bits_lower v w z t = by z
  where
    l : bits v ≤ bits w
    l = leb→le (bits v) (bits w) t

    e : bits w - bits v + bits v ≡ bits w
    e = sub-add_cancel l

    cut : (n : ℕ) → n % 2 ^ bits w % 2 ^ bits v ≡ n % 2 ^ bits v
    cut n = subst (λ (k : ℕ). n % 2 ^ k % 2 ^ bits v ≡ n % 2 ^ bits v) e (mod-mod-pow n (bits w - bits v) (bits v))

    flip : (n : ℕ) → n < 2 ^ bits w → (2 ^ bits w - suc n) % 2 ^ bits v ≡ 2 ^ bits v - suc (n % 2 ^ bits v)
    flip = subst (λ (k : ℕ). (n : ℕ) → n < 2 ^ k → (2 ^ k - suc n) % 2 ^ bits v ≡ 2 ^ bits v - suc (n % 2 ^ bits v)) e (flipped (bits w - bits v) (bits v))

    by : (z : ℤ) → low_bits w z % 2 ^ bits v ≡ low_bits v z
    by (pos n) = cut n
    by (negsuc n) = flip (n % 2 ^ bits w) (mod-lt n (pow_pos (bits w))) ∙ ap (λ (x : ℕ). 2 ^ bits v - suc x) (cut n)

-- .. so of a number of the width w they are taken from its bits
pub low_bits_of : (v w : Width) (z : ℤ) → T (leb (bits v) (bits w)) → SFits w z → low_bits v z ≡ of_z w z % 2 ^ bits v
low_bits_of v w z t f = sym (low_bits_lower v w z t) ∙ ap (λ (n : ℕ). n % 2 ^ bits v) (low_bits_own w z f)
