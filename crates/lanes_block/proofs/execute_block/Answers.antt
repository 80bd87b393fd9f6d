use Rattle.lanes_block.specs.Flows.{one_passed, out_passed, all_passed}
use Rattle.lanes_block.proofs.execute_block.Goals as goal

pub loop-i-preserved : goal.loop-i-preserved
loop-i-preserved c = one_passed _ _ _ _ _ _ _ _ _ _ _ c.loop-i.invariant c.loop-i-test.true c.command-exit.ensures c.in_default.is

pub returns-in-Some : goal.returns-in-Some
returns-in-Some c = out_passed _ _ _ _ _ _ _ _ _ _ _ c.loop-i.invariant c.loop-i-test.true c.command-exit.ensures c.in-Some.is

pub returns : goal.returns
returns c = all_passed _ c.args.c.link _ _ _ _ _ _ _ _ _ c.loop-i.invariant c.loop-i-test.false c.follow_link-next.result c.follow_link-next.ensures _
