-- The loop of `mark_roots`: what is left to mark.
use Rattle.std.proofs.Common.{drop}
use Rattle.reclaim_reach.specs.Queue.{queue_in}
use Rattle.reclaim_reach.specs.Pieces.{Going}
use Rattle.reclaim_reach.proofs.mark_roots.Given as goal

abbrev pub invariant-loop-root : goal.invariant-loop-root
invariant-loop-root l = Going (queue_in l.initial.live l.initial.todo 0) l.roots (queue_in l.live l.todo l.end) (drop l.root-index l.roots)
