-- The loop of `reach_roots`: what the followed part of the queue has done. The measure is how much of its array is left.
use Rattle.std.proofs.Common.{◌-◌}
use Rattle.model.specs.Limits.{block_limit}
use Rattle.reclaim_reach.specs.Words.{links_at}
use Rattle.reclaim_reach.specs.Queue.{queue_in}
use Rattle.reclaim_reach.specs.Follow.{Followed}
use Rattle.reclaim_reach.specs.Marks.{LedTo}
use Rattle.reclaim_reach.proofs.reach_roots.Given as goal

abbrev pub invariant-loop-done : goal.invariant-loop-done
invariant-loop-done l = Followed (links_at l.cw l.bw) (LedTo l.cw l.bw l.blocks l.roots) l.roots l.done (queue_in l.live l.todo l.end)

abbrev pub decreases-loop-done : goal.decreases-loop-done
decreases-loop-done l = block_limit - l.done
