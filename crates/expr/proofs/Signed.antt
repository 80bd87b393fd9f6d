-- Sums, differences and bits of signed numbers, as the machine has them and as the definitions say. Assumes nothing.
use Rattle.std.specs.Prelude.{bit_and, bit_or}
use Rattle.std.proofs.Common.{◌≡◌, refl, ◌+◌, ◌-◌, ◌%◌, ◌^◌, ap, ◌∙◌, ℤ, pos, negsuc, ◌+ℤ◌, ◌-ℤ◌, arith, to_z, of_z}
use Rattle.std.specs.Int.{Width, w32, int_wrap}
use Rattle.std.proofs.lemmas.Int.{wrapping_add_is, wrapping_sub_is}
use mir.Val.{SFits}
use Rattle.model.specs.Signed.{wrap, wrap32, and32, or32}
use Rattle.ints.specs.Bits.{bits_own}

wrapped : (w : Width) (z : ℤ) → int_wrap w z ≡ wrap w z
unfolding int_wrap wrap
wrapped w (pos n) = refl
wrapped w (negsuc n) = ap (to_z w) (omega arith)

module _ (x y : ℤ) (f : SFits w32 x) (g : SFits w32 y) where
  pub sum_wraps : to_z w32 ((of_z w32 x + of_z w32 y) % 2 ^ 32) ≡ wrap32 (x +ℤ y)
  sum_wraps = wrapping_add_is w32 x y f g ∙ wrapped w32 (x +ℤ y)

  pub difference_wraps : to_z w32 ((of_z w32 x + (2 ^ 32 - of_z w32 y)) % 2 ^ 32) ≡ wrap32 (x -ℤ y)
  difference_wraps = wrapping_sub_is w32 x y f g ∙ wrapped w32 (x -ℤ y)

  pub and_bits : to_z w32 (bit_and (of_z w32 x) (of_z w32 y)) ≡ and32 x y
  and_bits = bits_own bit_and w32 x y f g

  pub or_bits : to_z w32 (bit_or (of_z w32 x) (of_z w32 y)) ≡ or32 x y
  or_bits = bits_own bit_or w32 x y f g
