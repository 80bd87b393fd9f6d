-- The checks answer in their order. Assumes nothing.
use Rattle.std.proofs.Common.{sym, ◌∙◌, true, false}
use Rattle.shop.specs.Shapes.{sheet_of, slot_of}
use Rattle.shop.specs.Slots.{parts_slot}
use Rattle.settings.specs.Answer.{checked_by}
use Rattle.settings.proofs.check_slot.Goals as goal

pub returns-then-not-check_parts-clause-number : goal.returns-then-not-check_parts-clause-number
returns-then-not-check_parts-clause-number c =
    let h = sheet_of c.args.attached.now c.args.sheet in
    checked_by h (slot_of c.args.slot) true false (sym c.if-not-check_sheet.ensures) (sym (parts_slot h c.args.slot) ∙ sym c.if-not-check_parts.ensures)

pub returns-clause-number : goal.returns-clause-number
returns-clause-number c =
    let h = sheet_of c.args.attached.now c.args.sheet in
    checked_by h (slot_of c.args.slot) true true (sym c.if-not-check_sheet.ensures) (sym (parts_slot h c.args.slot) ∙ sym c.if-not-check_parts.ensures)
