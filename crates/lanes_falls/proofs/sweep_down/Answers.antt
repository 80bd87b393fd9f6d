use Rattle.lanes_falls.specs.Sweeps.{sweep_asks, sweeps_done, sweeps_on, sweeps_out, sweeps_past}
use Rattle.lanes_falls.proofs.sweep_down.Goals as goal
use Rattle.lanes_falls.proofs.sweep_down.Goals.{else-marks-b-via-then-marks-b+else-not-links_below, else-marks-b-via-else-marks-b}

pub links_below-requires : goal.links_below-requires
links_below-requires c = sweep_asks c.requires c.loop-n.invariant c.loop-n-test.true c.from-b.ensures

pub returns-then-not-links_below : goal.returns-then-not-links_below
returns-then-not-links_below c = sweeps_out _ _ _ _ c.loop-n.invariant c.loop-n-test.true c.from-b.ensures c.if-marks-b.true c.links_below.ensures c.if-not-links_below.true

pub loop-n-preserved : goal.loop-n-preserved
loop-n-preserved c =
    elim c.else-marks-b.branch [
      | else-marks-b-via-then-marks-b+else-not-links_below w ↦
          rw w.marks-is (sweeps_on _ _ _ _ c.loop-n.invariant c.loop-n-test.true c.from-b.ensures w.if-marks-b.true w.links_below.ensures w.if-not-links_below.false)
      | else-marks-b-via-else-marks-b w ↦ rw w.marks-is (sweeps_past _ _ _ _ c.loop-n.invariant c.loop-n-test.true c.from-b.ensures w.if-marks-b.false)
    ]

pub returns : goal.returns
returns c = sweeps_done _ _ _ _ _ _ c.loop-n.invariant c.loop-n-test.false
