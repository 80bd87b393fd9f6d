-- A number that fits a width is not changed by cutting to it, nor by a mask of all its bits; numbers not below 0, and those below -1. Assumes nothing.
use Rattle.std.specs.Prelude.{◌≡◌, refl, false, ℕ, zero, suc, ◌-◌, ◌%◌, ◌^◌, ◌<◌, T, ℤ, pos, negsuc, ◌-ℤ◌}
use Rattle.std.proofs.Common.{ap, ◌∙◌, subst, arith, mod-eq_of_lt, mod-lt, zero-lt-suc, pow_pos}
use Rattle.std.specs.Int.Bits.{bit_and}
use Rattle.std.proofs.lemmas.Nat.{and_comm, and_mask}
use Rattle.std.proofs.Math.Pow.{pow-sub-lt}
use Rattle.std.specs.Int.Signed.{lt_z, mag, non_neg}
use Rattle.std.specs.Int.{Width}
use mir.Val.{to_z, bits, hbits}
use mir.ValLaws.{to_z_pos, to_z-neg, half_full}
use Rattle.model.specs.Signed.{bits_of, low_bits, wrap}

low : (w : Width) (n : ℕ) → n < 2 ^ hbits w → n % 2 ^ bits w ≡ n
low w n h = mod-eq_of_lt (half_full w h)

pub wrap_id : (w : Width) (z : ℤ) → mag z < 2 ^ hbits w → wrap w z ≡ z
unfolding wrap
wrap_id w (pos n) h = rw (low w n h) (to_z_pos w n h)
wrap_id w (negsuc n) h = rw (low w n h) (to_z-neg w n h)

pub low_bits_under : (w : Width) (z : ℤ) → low_bits w z < 2 ^ bits w
low_bits_under w (pos n) = mod-lt n (pow_pos (bits w))
low_bits_under w (negsuc n) = pow-sub-lt (bits w) (zero-lt-suc (n % 2 ^ bits w))

-- all bits are those of -1
pub mask_all : (w : Width) (z : ℤ) → mag z < 2 ^ hbits w → bits_of bit_and w (negsuc 0) z ≡ z
unfolding bits_of wrap
mask_all w z h =
    ap (λ n. to_z w (bit_and (2 ^ bits w - suc n) (low_bits w z))) (mod-eq_of_lt (pow_pos (bits w)))
    ∙ ap (to_z w) (and_comm (2 ^ bits w - 1) (low_bits w z) ∙ and_mask (low_bits w z) (bits w) ∙ mod-eq_of_lt (low_bits_under w z)) ∙ wrap_id w z h

pub not_negative : (z : ℤ) → lt_z z (pos 0) ≡ false → T (non_neg z)
not_negative (pos n) t = tt
not_negative (negsuc n) t = absurd (subst T t tt)

pub minus_one : (m : ℕ) → negsuc 0 -ℤ pos m ≡ negsuc m
minus_one zero = refl
minus_one (suc m) = ap negsuc (omega arith)
