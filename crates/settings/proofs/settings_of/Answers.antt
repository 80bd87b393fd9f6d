-- Refused, a slot with no item, or counted. Assumes nothing.
use Rattle.std.proofs.Common.{arith, sym}
use Rattle.std.proofs.lemmas.Result.{err_from_is_err_and}
use Rattle.shop.specs.Shapes.{sheet_of, slot_of}
use Rattle.settings.specs.Answer.{none_is, refused_as}
use Rattle.settings.proofs.settings_of.Goals as goal

pub returns-in_err-check_slot : goal.returns-in_err-check_slot
returns-in_err-check_slot c =
    let p = err_from_is_err_and c.from_residual.result c.from_residual.ensures.1 in
    let e = c.in_err-check_slot.ensures in
    rw (p.1, p.2) (refused_as (sheet_of c.args.attached.now c.args.sheet) (slot_of c.args.slot) _ e.number (λ z. let l = e.refused in omega arith))

pub returns-in_default : goal.returns-in_default
returns-in_default c = none_is (sheet_of c.args.attached.now c.args.sheet) c.args.slot (sym c.in_ok-check_slot.ensures.number) c.in_default.is
