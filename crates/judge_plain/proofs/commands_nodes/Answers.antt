-- Assumes nothing.
use Rattle.std.proofs.Common.{◌≡◌, arith}
use Rattle.judge_plain.specs.Commands.{sum_none, sum_more}
use Rattle.judge_plain.proofs.commands_nodes.Goals as goal

pub loop-i-init : goal.loop-i-init
loop-i-init c = sum_none c.args.sizes.now c.args.cw.now c.args.counts

pub loop-i-preserved : goal.loop-i-preserved
loop-i-preserved c = sum_more c.args.sizes.now c.args.cw.now c.args.counts c.loop-i.invariant c.command_nodes-own.ensures (omega arith)

pub returns : goal.returns
returns c =
    let e : c.loop-i.i ≡ c.args.counts.commands = omega arith in
    rw e at c.loop-i.invariant
