-- Assumes nothing.
use Rattle.judge_record.specs.Links.{link_there, link_absent}
use Rattle.judge_record.proofs.judge_link.Goals as goal

pub returns-then-k-blocks : goal.returns-then-k-blocks
returns-then-k-blocks c = link_there _ _ _ _ _ c.short_length-len.ensures c.if-k-blocks.true

pub returns-else-k-blocks : goal.returns-else-k-blocks
returns-else-k-blocks c = link_absent _ _ _ _ _ c.short_length-len.ensures c.if-k-blocks.false
