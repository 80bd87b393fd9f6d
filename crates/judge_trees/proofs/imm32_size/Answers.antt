-- Assumes nothing.
use Rattle.judge_trees.specs.Codes.{number_32}
use Rattle.judge_trees.proofs.imm32_size.Goals as goal

pub returns : goal.returns
returns c = number_32 _ c.ranges.z
