use Rattle.std.proofs.Common.{arith}
use Rattle.memory.specs.View.{memory_of}
use Rattle.expr.specs.Value.{reads}
use Rattle.runner.proofs.Laws.{step_none, step_not_code, step_code}
use Rattle.runner.proofs.step_block.Goals as goal

pub returns-then-b-from : goal.returns-then-b-from
returns-then-b-from c = step_none (memory_of c.args.ws.now c.args.val.now c.args.cw.now c.args.bw.now c.args.counts) (reads c.args.items.now c.args.atcs.now c.args.flags.now c.args.times.now) c.args.b.0 c.args.vars.now (omega arith)

pub returns-then-bw-at-ne1 : goal.returns-then-bw-at-ne1
returns-then-bw-at-ne1 c = step_not_code (memory_of c.args.ws.now c.args.val.now c.args.cw.now c.args.bw.now c.args.counts) (reads c.args.items.now c.args.atcs.now c.args.flags.now c.args.times.now) c.args.b.0 c.args.vars.now (omega arith) c.if-bw-at-ne1.true

pub execute_block-requires : goal.execute_block-requires
execute_block-requires c = c.requires.commands c.args.b.0 (omega arith) c.if-bw-at-ne1.false

pub returns : goal.returns
returns c = step_code (memory_of c.args.ws.now c.args.val.now c.args.cw.now c.args.bw.now c.args.counts) (reads c.args.items.now c.args.atcs.now c.args.flags.now c.args.times.now) c.args.b.0 c.args.vars.now (omega arith) c.if-bw-at-ne1.false (c.execute_block.ensures c.args.counts.nodes c.args.counts.commands)
