-- The loop of `number`: the table so far.
use Rattle.reclaim_pack.specs.Laws.{Numbering}
use Rattle.reclaim_pack.proofs.number.Given as goal

abbrev pub invariant-loop-b : goal.invariant-loop-b
invariant-loop-b l = Numbering l.live l.blocks l.b-end l.initial.table l.table l.n l.b
