-- Piece by piece.
use Rattle.std.proofs.Common.{rules, ◌≡◌, SFits, to_z, of_z, w16, w32, ap, sym}
use Rattle.model.specs.Printer.{signed_decimal}
use Rattle.image_numbers.specs.Stored.{stored_as}
use Rattle.slots_text.specs.Written.{part_byte, part_on, part_end, part_space, byte_space, space_as}
use Rattle.slots_text.specs.Lines.{line_start}
use Rattle.slots_text.specs.Numbers.{limit_is}
use Rattle.slots_text.proofs.put_slot.Goals as goal

pub put_decimal-p1-requires : goal.put_decimal-p1-requires
put_decimal-p1-requires c = part_space {xs = c.args.out.now} _ c.requires.1 (line_start c.args.i c.args.slot)

pub put_byte-p2-requires : goal.put_byte-p2-requires
put_byte-p2-requires c = byte_space c.requires.1 (part_on (line_start c.args.i c.args.slot) c.put_decimal-p1.ensures)

pub put_item-p3-requires : goal.put_item-p3-requires
put_item-p3-requires c = part_space _ c.requires.1 (part_byte (part_on (line_start c.args.i c.args.slot) c.put_decimal-p1.ensures) c.put_byte-p2.ensures)

pub put_byte-p4-requires : goal.put_byte-p4-requires
put_byte-p4-requires c = byte_space c.requires.1 (part_on (part_byte (part_on (line_start c.args.i c.args.slot) c.put_decimal-p1.ensures) c.put_byte-p2.ensures) c.put_item-p3.ensures)

pub put_signed-p5-requires : goal.put_signed-p5-requires
put_signed-p5-requires c =
    let f : SFits w16 c.args.slot.limit = search rules in
    let e : to_z w32 (of_z w32 c.from.result) ≡ c.args.slot.limit = rw c.from.ensures (limit_is c.args.slot.limit f) in
    let p = part_byte (part_on (line_start c.args.i c.args.slot) c.put_decimal-p1.ensures) c.put_byte-p2.ensures in
    space_as (ap signed_decimal (sym e)) (part_space _ c.requires.1 (part_byte (part_on p c.put_item-p3.ensures) c.put_byte-p4.ensures))

pub put_requirements-p6-requires : goal.put_requirements-p6-requires
put_requirements-p6-requires c =
    let f : SFits w16 c.args.slot.limit = search rules in
    let e : to_z w32 (of_z w32 c.from.result) ≡ c.args.slot.limit = rw c.from.ensures (limit_is c.args.slot.limit f) in
    let p = part_byte (part_on (line_start c.args.i c.args.slot) c.put_decimal-p1.ensures) c.put_byte-p2.ensures in
    let q = part_byte (part_on p c.put_item-p3.ensures) c.put_byte-p4.ensures in
    (c.requires.0, part_space _ c.requires.1 (part_on q (stored_as (ap signed_decimal (sym e)) c.put_signed-p5.ensures)))

pub put_byte-requires : goal.put_byte-requires
put_byte-requires c =
    let f : SFits w16 c.args.slot.limit = search rules in
    let e : to_z w32 (of_z w32 c.from.result) ≡ c.args.slot.limit = rw c.from.ensures (limit_is c.args.slot.limit f) in
    let p = part_byte (part_on (line_start c.args.i c.args.slot) c.put_decimal-p1.ensures) c.put_byte-p2.ensures in
    let q = part_byte (part_on p c.put_item-p3.ensures) c.put_byte-p4.ensures in
    byte_space c.requires.1 (part_on (part_on q (stored_as (ap signed_decimal (sym e)) c.put_signed-p5.ensures)) c.put_requirements-p6.ensures)

pub returns : goal.returns
returns c =
    let f : SFits w16 c.args.slot.limit = search rules in
    let e : to_z w32 (of_z w32 c.from.result) ≡ c.args.slot.limit = rw c.from.ensures (limit_is c.args.slot.limit f) in
    let p = part_byte (part_on (line_start c.args.i c.args.slot) c.put_decimal-p1.ensures) c.put_byte-p2.ensures in
    let q = part_byte (part_on p c.put_item-p3.ensures) c.put_byte-p4.ensures in
    part_end (part_on (part_on q (stored_as (ap signed_decimal (sym e)) c.put_signed-p5.ensures)) c.put_requirements-p6.ensures) c.put_byte.ensures
