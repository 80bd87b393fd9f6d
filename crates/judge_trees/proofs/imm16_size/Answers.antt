-- By its two tests. Assumes nothing.
use Rattle.std.proofs.Common.{◌∙◌, sym}
use mir.Facts.{to_z-of_z}
use Rattle.judge_trees.specs.Codes.{number_16}
use Rattle.judge_trees.proofs.imm16_size.Goals as goal
use Rattle.judge_trees.proofs.imm16_size.Goals.{then-z-lt-LEAST16, else-z-lt-LEAST16}

pub returns-else-z-gt-MOST16 : goal.returns-else-z-gt-MOST16
returns-else-z-gt-MOST16 c = elim c.if-z-lt-LEAST16.branch [
  | then-z-lt-LEAST16 w ↦ cc
  | else-z-lt-LEAST16 w ↦ number_16 _ (rw (to_z-of_z c.ranges.z) at w.if-z-lt-LEAST16.false) (rw (to_z-of_z c.ranges.z) at (sym w.value-is ∙ c.if-z-gt-MOST16.false))
]
