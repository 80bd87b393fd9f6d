-- The tests come in the definition's order. Assumes nothing.
use Rattle.std.proofs.Common.{◌∙◌, arith, sym}
use Rattle.std.proofs.lemmas.Grind.{common_steps}
use Rattle.checks.proofs.Checks.{save_is}
use Rattle.checks.proofs.check_save.Goals as goal

pub returns-then-times-eq-TIMES : goal.returns-then-times-eq-TIMES
returns-then-times-eq-TIMES c = sym (save_is _ _ _ _ _ _ _ ∙ grind (arith, common_steps))

pub returns-else-times-eq-TIMES : goal.returns-else-times-eq-TIMES
returns-else-times-eq-TIMES c = sym (save_is _ _ _ _ _ _ _ ∙ grind (arith, common_steps))
