-- By the command's code. Assumes nothing.
use Rattle.std.proofs.Common.{arith}
use Rattle.memory.specs.View.{coded_of}
use Rattle.judge_terms.specs.Told.{limits_by}
use Rattle.judge_record.specs.Commands.{tail_return, tail_goto, tail_end_if, tail_other}
use Rattle.judge_record.proofs.judge_tail.Goals as goal

pub returns-in-0 : goal.returns-in-0
returns-in-0 c = tail_return (limits_by c.args.counts) (coded_of c.args.ws.now c.args.val.now c.args.cw.now c.args.counts) c.args.i c.args.n c.args.at c.requires.1.few _ c.in-0.is

pub returns-in-1 : goal.returns-in-1
returns-in-1 c = tail_goto (limits_by c.args.counts) (coded_of c.args.ws.now c.args.val.now c.args.cw.now c.args.counts) c.args.i c.args.n c.args.at c.requires.1.few c.judge_block_no.ensures _ c.in-1.is

pub returns-in-4 : goal.returns-in-4
returns-in-4 c = tail_end_if (limits_by c.args.counts) (coded_of c.args.ws.now c.args.val.now c.args.cw.now c.args.counts) c.args.i c.args.n c.args.at c.requires.1.few c.judge_block_no-in-4.ensures _ c.in-4.is

pub returns-in_default : goal.returns-in_default
returns-in_default c = tail_other (limits_by c.args.counts) (coded_of c.args.ws.now c.args.val.now c.args.cw.now c.args.counts) c.args.i c.args.n c.args.at c.requires.1.few _ (omega arith)
