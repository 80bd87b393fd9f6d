-- The condition, then its If in a block.
use Rattle.compile_emit.specs.BlockLaws.{if_block_lem}
use Rattle.compile_emit.proofs.push_if_no_timer.Goals as goal

pub returns : goal.returns
returns c = if_block_lem c.push_no_timer-n.ensures c.push_if.ensures
