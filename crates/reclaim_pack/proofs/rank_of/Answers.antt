-- In the table, or past it.
use Rattle.reclaim_pack.specs.Laws.{table_in, table_out}
use Rattle.reclaim_pack.proofs.rank_of.Goals as goal

pub returns-then-t-blocks : goal.returns-then-t-blocks
returns-then-t-blocks c = table_in _ _ _ _ _ c.from.ensures c.if-t-blocks.true

pub returns-else-t-blocks : goal.returns-else-t-blocks
returns-else-t-blocks c = table_out _ _ _ _ c.if-t-blocks.false
