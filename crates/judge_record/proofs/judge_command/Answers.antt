-- Assumes nothing.
use Rattle.std.proofs.Common.{arith}
use Rattle.memory.specs.View.{coded_of}
use Rattle.judge_terms.specs.Told.{limits_by}
use Rattle.judge_record.specs.Commands.{command_absent, command_unknown, command_told}
use Rattle.judge_record.proofs.judge_command.Goals as goal

pub returns-then-i-from : goal.returns-then-i-from
returns-then-i-from c = command_absent (limits_by c.args.counts) (coded_of c.args.ws.now c.args.val.now c.args.cw.now c.args.counts) _ _ _ (omega arith)

pub returns-then-k-ge6 : goal.returns-then-k-ge6
returns-then-k-ge6 c = command_unknown (limits_by c.args.counts) (coded_of c.args.ws.now c.args.val.now c.args.cw.now c.args.counts) _ _ _ (omega arith) c.if-k-ge6.true

pub returns : goal.returns
returns c = command_told (limits_by c.args.counts) (coded_of c.args.ws.now c.args.val.now c.args.cw.now c.args.counts) _ _ _ (omega arith) c.if-k-ge6.false c.judge_tail.ensures
