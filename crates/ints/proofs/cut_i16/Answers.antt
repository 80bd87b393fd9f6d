-- The lowest 16 bits are the remainder of all 32.
use Rattle.std.specs.Prelude.{ℕ, ◌%◌}
use Rattle.std.proofs.Common.{sym, ap, ◌∙◌, w16, w32, to_z, to_z-of_z}
use Rattle.model.specs.Limits.{wide16}
use Rattle.model.specs.Signed.{wrap}
use Rattle.ints.specs.Bits.{low_bits_of}
use Rattle.ints.proofs.cut_i16.Goals as goal

pub returns : goal.returns
unfolding wrap
returns c =
    let f = c.ranges.x in
    let e = rw (to_z-of_z f) at c.cast_unsigned.ensures in
    to_z-of_z {w = w16} (record { sfits = c.cast_signed.type_inv }) ∙ c.cast_signed.ensures
    ∙ ap (λ (n : ℕ). to_z w16 (n % wide16)) e ∙ ap (to_z w16) (sym (low_bits_of w16 w32 c.args.x tt f))
