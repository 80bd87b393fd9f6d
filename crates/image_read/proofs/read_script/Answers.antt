-- The steps are laws of specs/Whole.antt.
use Rattle.std.proofs.Common.{sym, ◌∙◌}
use Rattle.image_read.specs.Whole.{outcome_read, outcome_no}
use Rattle.image_read.proofs.read_script.Goals as goal

pub returns-then-is_err : goal.returns-then-is_err
returns-then-is_err c = outcome_no _ _ _ _ _ _ _ c.read_all-read.ensures (sym c.is_err.ensures.value ∙ c.if-is_err.true)

pub returns-else-is_err : goal.returns-else-is_err
returns-else-is_err c = outcome_read _ _ _ _ _ _ _ c.read_all-read.ensures (sym c.is_err.ensures.value ∙ c.if-is_err.false)
