-- By the kind of the block, if it is there. Assumes nothing.
use Rattle.std.proofs.Common.{arith}
use Rattle.checks.specs.Passed.{setup_none, setup_not_code, setup_code}
use Rattle.checks.specs.Calls.{blocks_over}
use Rattle.checks.proofs.check_setup.Goals as goal

pub returns-then-b-from : goal.returns-then-b-from
returns-then-b-from c = λ co. setup_none (blocks_over co c.args.bw.now c.args.blocks) c.args.start.0 (omega arith)

pub returns-then-bw-b-ne1 : goal.returns-then-bw-b-ne1
returns-then-bw-b-ne1 c = λ co. setup_not_code (blocks_over co c.args.bw.now c.args.blocks) c.args.start.0 (omega arith) c.if-bw-b-ne1.true

pub returns : goal.returns
returns c = λ co. setup_code (blocks_over co c.args.bw.now c.args.blocks) c.args.start.0 (omega arith) c.if-bw-b-ne1.false
