-- The steps are laws of specs/.
use Rattle.slots_sheet.specs.Whole.{outcome_kept, outcome_cleared}
use Rattle.std.proofs.Common.{sym}
use Rattle.slots_sheet.proofs.read_heading.Goals as goal

pub returns-then-is_err-clause-read : goal.returns-then-is_err-clause-read
returns-then-is_err-clause-read c = outcome_cleared c.args.s.now c.args.attached.now c.read_all-h.result c.read_all-h.new.attached c.read_all-h.ensures (sym c.if-is_err.ensures.value)

pub returns-else-is_err-clause-read : goal.returns-else-is_err-clause-read
returns-else-is_err-clause-read c = outcome_kept c.args.s.now c.args.attached.now c.read_all-h.result c.read_all-h.new.attached c.read_all-h.ensures (sym c.if-is_err.ensures.value)
