-- One command more.
use Rattle.reclaim_reach.specs.Pieces.{targets_start, targets_room, targets_ask, targets_step, targets_done}
use Rattle.reclaim_reach.proofs.mark_targets.Goals as goal

pub loop-i-init : goal.loop-i-init
loop-i-init c = targets_start _ _ _ _ _ _ c.requires.1 c.requires.2 c.requires.0 c.from-f.ensures c.from-i-end.ensures

pub mark_target-end-requires : goal.mark_target-end-requires
mark_target-end-requires c = (c.loop-i.invariant.going.queued, targets_room _ _ _ _ _ _ _ _ c.loop-i.invariant c.loop-i-test.true, targets_ask _ _ _ _ _ _ _ _ c.loop-i.invariant c.loop-i-test.true)

pub loop-i-preserved : goal.loop-i-preserved
loop-i-preserved c = targets_step _ _ _ _ _ _ _ _ c.loop-i.invariant c.loop-i-test.true _ c.mark_target-end.ensures

pub returns : goal.returns
returns c = targets_done _ _ _ _ _ _ _ _ c.loop-i.invariant c.loop-i-test.false
