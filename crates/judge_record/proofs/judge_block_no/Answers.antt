-- Assumes nothing.
use Rattle.judge_record.specs.Links.{block_there, block_absent}
use Rattle.judge_record.proofs.judge_block_no.Goals as goal

pub returns-then-k-blocks : goal.returns-then-k-blocks
returns-then-k-blocks c = block_there _ _ _ _ _ c.short_length-len.ensures c.if-k-blocks.true

pub returns-else-k-blocks : goal.returns-else-k-blocks
returns-else-k-blocks c = block_absent _ _ _ _ _ c.short_length-len.ensures c.if-k-blocks.false
