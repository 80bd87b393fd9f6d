-- Refused, nothing is written; accepted, the field at its place. Assumes nothing.
use Rattle.std.proofs.Common.{refl, arith}
use Rattle.std.proofs.lemmas.Result.{err_from_is_err_and}
use mir.Facts.{to_z-of_z}
use mir.Syntax.{w16, w32}
use Rattle.shop.specs.Shapes.{sheet_of}
use Rattle.shop_arrays.specs.Arrays.{arrays_in}
use Rattle.rights.specs.ArrayLaws.{arrays_not, arrays_now, place_inside}
use Rattle.rights.specs.InArrays.{contents}
use Rattle.rights.specs.Values.{table_of}
use Rattle.rights.proofs.edit_arrays.Goals as goal

pub returns-in_err-refusal_of : goal.returns-in_err-refusal_of
returns-in_err-refusal_of c =
    let p = err_from_is_err_and c.from_residual.result c.from_residual.ensures.1 in
    let e = c.in_err-refusal_of.ensures in
    rw (p.1, p.2)
    (arrays_not (table_of c.args.rights.now) (sheet_of c.args.attached.now c.args.sheet) (arrays_in c.args.items.now c.args.limits.now c.args.codes.now c.args.lens.now) c.args.user c.args.slot c.args.field
    (contents c.args.item c.args.limit c.args.entries.now c.args.len) _ _ _ _ c.place_for-place.ensures c.field_from-kind.ensures
    (rw (to_z-of_z {w = w32} {z = c.args.item} c.ranges.item, to_z-of_z {w = w16} {z = c.args.limit} c.ranges.limit) at c.slot_by-content.ensures) e.number (λ z. let l = e.refused in omega arith))

pub put_field-requires : goal.put_field-requires
put_field-requires c =
    place_inside (table_of c.args.rights.now) (sheet_of c.args.attached.now c.args.sheet) (arrays_in c.args.items.now c.args.limits.now c.args.codes.now c.args.lens.now) c.args.user c.args.slot c.args.field
    (contents c.args.item c.args.limit c.args.entries.now c.args.len) 0 _ _ _ c.place_for-place.ensures c.field_from-kind.ensures
    (rw (to_z-of_z {w = w32} {z = c.args.item} c.ranges.item, to_z-of_z {w = w16} {z = c.args.limit} c.ranges.limit) at c.slot_by-content.ensures) c.in_ok-refusal_of.ensures.number refl

pub returns : goal.returns
returns c =
    arrays_now (table_of c.args.rights.now) (sheet_of c.args.attached.now c.args.sheet) (arrays_in c.args.items.now c.args.limits.now c.args.codes.now c.args.lens.now) c.args.user c.args.slot c.args.field
    (contents c.args.item c.args.limit c.args.entries.now c.args.len) 0 _ _ _ c.place_for-place.ensures c.field_from-kind.ensures
    (rw (to_z-of_z {w = w32} {z = c.args.item} c.ranges.item, to_z-of_z {w = w16} {z = c.args.limit} c.ranges.limit) at c.slot_by-content.ensures) c.in_ok-refusal_of.ensures.number refl
    (arrays_in c.put_field.new.items c.put_field.new.limits c.put_field.new.codes c.put_field.new.lens)
    (rw (to_z-of_z {w = w32} {z = c.args.item} c.ranges.item, to_z-of_z {w = w16} {z = c.args.limit} c.ranges.limit) at c.put_field.ensures)
