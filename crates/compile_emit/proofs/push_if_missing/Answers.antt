-- The condition, then its If in a block.
use Rattle.compile_emit.specs.BlockLaws.{if_block_lem}
use Rattle.compile_emit.proofs.push_if_missing.Goals as goal

pub returns : goal.returns
returns c = if_block_lem c.push_missing_and-n.ensures c.push_if.ensures
