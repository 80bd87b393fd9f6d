-- Assumes nothing.
use Rattle.judge_trees.specs.Grown.{growing_more}
use Rattle.judge_trees.proofs.measure_trees.Goals as goal

pub loop-i-preserved : goal.loop-i-preserved
loop-i-preserved c = growing_more c.args.ws.now c.args.val.now c.loop-i.invariant c.in-Some.size c.requires.1 c.loop-i-test.true c.in-Some.ensures
