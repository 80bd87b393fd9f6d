-- By the sign.
use Rattle.std.proofs.lemmas.Int.{ints}
use Rattle.std.proofs.Common.{arith, to_z-of_z}
use Rattle.image_numbers.specs.Stored.{stored_as}
use Rattle.slots_text.specs.Written.{part_of, part_byte, part_end, byte_space, last_space, space_as}
use Rattle.slots_text.specs.Numbers.{signed_below, signed_above}
use Rattle.slots_text.proofs.put_signed.Goals as goal

pub put_byte-p-requires : goal.put_byte-p-requires
put_byte-p-requires c = byte_space {xs = c.args.out.now} c.requires (part_of (signed_below c.args.z _ (rw (to_z-of_z c.ranges.z) at c.unsigned_abs-digits.ensures.value) (omega (arith, ints))))

pub put_decimal-requires : goal.put_decimal-requires
put_decimal-requires c = last_space c.requires (part_byte (part_of (signed_below c.args.z _ (rw (to_z-of_z c.ranges.z) at c.unsigned_abs-digits.ensures.value) (omega (arith, ints)))) c.put_byte-p.ensures)

pub returns-then-z-lt0 : goal.returns-then-z-lt0
returns-then-z-lt0 c = part_end (part_byte (part_of (signed_below c.args.z _ (rw (to_z-of_z c.ranges.z) at c.unsigned_abs-digits.ensures.value) (omega (arith, ints)))) c.put_byte-p.ensures) c.put_decimal.ensures

pub put_decimal-requires-2 : goal.put_decimal-requires-2
put_decimal-requires-2 c = space_as (signed_above c.args.z _ (rw (to_z-of_z c.ranges.z) at c.unsigned_abs-digits.ensures.value) (λ h. omega (arith, ints))) c.requires

pub returns : goal.returns
returns c = stored_as (signed_above c.args.z _ (rw (to_z-of_z c.ranges.z) at c.unsigned_abs-digits.ensures.value) (λ h. omega (arith, ints))) c.put_decimal-2.ensures
