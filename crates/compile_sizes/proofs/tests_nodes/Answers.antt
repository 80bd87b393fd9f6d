-- The sum over the codes passed, one more at a time.
use Rattle.compile_sizes.specs.Tests.{none_counted, one_counted}
use Rattle.compile_sizes.proofs.tests_nodes.Goals as goal

pub loop-code-init : goal.loop-code-init
loop-code-init c = none_counted c.args.codes.now

pub loop-code-preserved : goal.loop-code-preserved
loop-code-preserved c = one_counted _ _ _ _ c.loop-code.invariant c.loop-code-test.true c.test_nodes.ensures.0 c.test_nodes.ensures.1
