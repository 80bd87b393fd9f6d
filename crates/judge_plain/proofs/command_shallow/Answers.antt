-- Few nodes have few levels. Assumes nothing.
use Rattle.judge_plain.specs.Commands.{low_few}
use Rattle.judge_plain.proofs.command_shallow.Goals as goal

pub returns-then-command_nodes-lt64 : goal.returns-then-command_nodes-lt64
returns-then-command_nodes-lt64 c = λ e. low_few c.args.sizes.now c.args.cw.now c.args.counts c.args.ws.now c.command_nodes.ensures c.if-command_nodes-lt64.true
