-- Refused by the sheet, by the slice's length, or written.
use Rattle.std.proofs.Common.{arith, refl, sym, ◌∙◌}
use Rattle.slots_heading.proofs.Steps.{items_few, call_no, call_short, call_room, call_fine}
use Rattle.slots_heading.proofs.write_heading.Goals as goal

pub returns-then-not-check_sheet : goal.returns-then-not-check_sheet
returns-then-not-check_sheet c = (call_no c.args.attached.now c.args.sheet c.args.setup c.args.out.now (sym c.check_sheet.ensures ∙ c.if-not-check_sheet.true), tt)

pub overflow_cast-n : goal.overflow_cast-n
overflow_cast-n c = record { fits = omega (arith, items_few c.args.attached.now c.args.sheet c.args.setup (sym c.check_sheet.ensures ∙ c.if-not-check_sheet.false)) }

pub returns-then-out-numbers_length : goal.returns-then-out-numbers_length
returns-then-out-numbers_length c = (call_short c.args.attached.now c.args.sheet c.args.setup c.args.out.now (sym c.check_sheet.ensures ∙ c.if-not-check_sheet.false) (omega (arith, c.if-out-numbers_length.true, c.numbers_length.ensures)), tt)

pub write_numbers-requires : goal.write_numbers-requires
write_numbers-requires c = (refl, call_room c.args.attached.now c.args.sheet c.args.setup c.args.out.now (sym c.check_sheet.ensures ∙ c.if-not-check_sheet.false) (omega (arith, c.if-out-numbers_length.false, c.numbers_length.ensures)))

pub returns : goal.returns
returns c = call_fine c.args.attached.now c.args.sheet c.args.setup c.args.out.now (sym c.check_sheet.ensures ∙ c.if-not-check_sheet.false) (omega (arith, c.if-out-numbers_length.false, c.numbers_length.ensures)) c.write_numbers.ensures
