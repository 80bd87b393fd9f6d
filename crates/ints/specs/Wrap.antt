-- Laws of wrapping, at any width. Assumes nothing.
use Rattle.std.specs.Prelude.{◌≡◌, refl, ℤ, pos, negsuc}
use Rattle.std.proofs.Common.{ap, arith}
use Rattle.std.specs.Int.{Width, int_wrap}
use mir.Val.{SFits, to_z}
use mir.ValLaws.{to_z-Fits}
use Rattle.model.proofs.Laws.Signed as Laws
use Rattle.model.specs.Signed.{low_bits, wrap}
use Rattle.ints.specs.Bits.{low_bits_fit}

-- a number of that width stays
pub wrap_id : (w : Width) (z : ℤ) → SFits w z → wrap w z ≡ z
wrap_id w z f = Laws.wrap_id w z f.sfits

-- what is wrapped is a number of that width
pub wrap_fits : (w : Width) (z : ℤ) → SFits w (wrap w z)
unfolding wrap
wrap_fits w z = to_z-Fits w (low_bits w z) (low_bits_fit w z)

-- std's wrapped number is this one
pub wraps_same : (w : Width) (z : ℤ) → int_wrap w z ≡ wrap w z
unfolding int_wrap wrap
wraps_same w (pos n) = refl
wraps_same w (negsuc n) = ap (to_z w) (omega arith)
