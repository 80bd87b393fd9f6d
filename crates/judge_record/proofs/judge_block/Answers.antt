-- By the block's kind. Assumes nothing.
use Rattle.std.proofs.Common.{arith}
use Rattle.memory.specs.View.{memory_of}
use Rattle.judge_terms.specs.Told.{limits_by}
use Rattle.judge_record.specs.Blocks.{block_placeholder, block_code, block_data, block_unknown}
use Rattle.judge_record.proofs.judge_block.Goals as goal

pub returns-in-0 : goal.returns-in-0
returns-in-0 c = block_placeholder (limits_by c.args.counts) (memory_of c.args.ws.now c.args.val.now c.args.cw.now c.args.bw.now c.args.counts) _ _ _ _ c.in-0.is c.requires.few c.requires.room

pub returns-in-1 : goal.returns-in-1
returns-in-1 c = block_code (limits_by c.args.counts) (memory_of c.args.ws.now c.args.val.now c.args.cw.now c.args.bw.now c.args.counts) _ _ _ _ c.in-1.is c.judge_code.ensures

pub returns-in-2 : goal.returns-in-2
returns-in-2 c = block_data (limits_by c.args.counts) (memory_of c.args.ws.now c.args.val.now c.args.cw.now c.args.bw.now c.args.counts) _ _ _ _ c.in-2.is c.requires.few c.requires.room

pub returns-in_default : goal.returns-in_default
returns-in_default c = block_unknown (limits_by c.args.counts) (memory_of c.args.ws.now c.args.val.now c.args.cw.now c.args.bw.now c.args.counts) _ _ _ _ (omega arith)
