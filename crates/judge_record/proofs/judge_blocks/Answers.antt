-- Assumes nothing.
use Rattle.std.proofs.Common.{arith}
use Rattle.std.proofs.lemmas.Result.{err_from_is_err_and}
use Rattle.memory.specs.View.{memory_of}
use Rattle.judge_record.specs.Whole.{pass_next, pass_no, pass_done, walked_done}
use Rattle.judge_record.proofs.judge_blocks.Goals as goal

pub returns-in_err-n : goal.returns-in_err-n
returns-in_err-n c =
    let p = err_from_is_err_and c.from_residual.result c.from_residual.ensures.1 in
    rw (p.1, p.2) (pass_no (memory_of c.args.ws.now c.args.val.now c.args.cw.now c.args.bw.now c.args.counts) c.requires c.loop-i.invariant (omega arith) c.judge_block.ensures c.in_err-n.was)

pub loop-i-preserved : goal.loop-i-preserved
loop-i-preserved c = pass_next (memory_of c.args.ws.now c.args.val.now c.args.cw.now c.args.bw.now c.args.counts) c.requires c.loop-i.invariant (omega arith) c.judge_block.ensures c.in_ok-n.was

pub returns : goal.returns
returns c = walked_done _ _ (pass_done (memory_of c.args.ws.now c.args.val.now c.args.cw.now c.args.bw.now c.args.counts) c.requires c.loop-i.invariant (omega arith))
