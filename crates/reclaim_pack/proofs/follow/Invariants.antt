-- The loop of `follow`: the commands so far.
use Rattle.reclaim_pack.specs.Laws.{Following}
use Rattle.reclaim_pack.specs.Table.{table_rank}
use Rattle.reclaim_pack.proofs.follow.Given as goal

abbrev pub invariant-loop-i : goal.invariant-loop-i
invariant-loop-i l = Following (table_rank l.table l.blocks l.total) l.commands l.i-end l.initial.cw l.cw l.i
