use Rattle.lanes_falls.specs.Marking.{targets_done, targets_step, targets_stop}
use Rattle.lanes_falls.proofs.targets_below.Goals as goal

pub returns-then-not-target_below : goal.returns-then-not-target_below
returns-then-not-target_below c = targets_stop _ _ _ _ _ _ _ _ c.loop-i.invariant _ c.loop-i-test.true c.if-not-target_below.true c.target_below.ensures

pub loop-i-preserved : goal.loop-i-preserved
loop-i-preserved c = targets_step _ _ _ _ _ _ _ _ c.loop-i.invariant _ c.loop-i-test.true c.if-not-target_below.false c.target_below.ensures

pub returns : goal.returns
returns c = targets_done _ _ _ _ _ _ _ _ c.loop-i.invariant c.loop-i-test.false
