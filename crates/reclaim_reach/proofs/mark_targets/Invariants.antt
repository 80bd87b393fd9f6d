-- The loop of `mark_targets`: what is left to mark.
use Rattle.reclaim_reach.specs.Queue.{queue_in}
use Rattle.reclaim_reach.specs.Pieces.{TargetsLeft}
use Rattle.reclaim_reach.proofs.mark_targets.Given as goal

abbrev pub invariant-loop-i : goal.invariant-loop-i
invariant-loop-i l = TargetsLeft l.cw l.first l.held l.f l.i-end (queue_in l.initial.live l.initial.todo l.n) (queue_in l.live l.todo l.end) l.i
