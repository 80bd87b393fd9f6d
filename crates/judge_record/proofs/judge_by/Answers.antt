-- The kept counts, the walk, and where it refuses what is held past the kept counts. Assumes nothing.
use Rattle.memory.specs.View.{memory_of}
use Rattle.judge_record.specs.Whole.{limits_over, walked_fine, walked_no, held_past}
use Rattle.judge_record.proofs.judge_by.Goals as goal

pub returns-then-not-within_limits : goal.returns-then-not-within_limits
returns-then-not-within_limits c =
    limits_over (memory_of c.args.ws.now c.args.val.now c.args.cw.now c.args.bw.now c.args.counts) (c.within_limits.ensures.over c.if-not-within_limits.true c.args.ws.now c.args.val.now c.args.cw.now c.args.bw.now)

pub returns-in-Ok : goal.returns-in-Ok
returns-in-Ok c = walked_fine (memory_of c.args.ws.now c.args.val.now c.args.cw.now c.args.bw.now c.args.counts) c.judge_blocks.ensures c.in-Ok.is

pub returns-in-Err : goal.returns-in-Err
returns-in-Err c = walked_no (memory_of c.args.ws.now c.args.val.now c.args.cw.now c.args.bw.now c.args.counts) c.judge_blocks.ensures c.in-Err.is (c.held_kept.ensures c.args.ws.now c.args.val.now) c.if-held_kept.true

pub returns-in-Err-2 : goal.returns-in-Err-2
returns-in-Err-2 c = held_past (memory_of c.args.ws.now c.args.val.now c.args.cw.now c.args.bw.now c.args.counts) (c.held_kept.ensures c.args.ws.now c.args.val.now) c.if-held_kept.false
