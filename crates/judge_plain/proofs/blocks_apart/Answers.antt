-- Assumes nothing.
use Rattle.std.proofs.Common.{arith}
use Rattle.judge_plain.specs.Chain.{chain_none}
use Rattle.judge_plain.specs.Blocks.{apart_more, apart_done}
use Rattle.judge_plain.proofs.blocks_apart.Goals as goal

pub loop-i-init : goal.loop-i-init
loop-i-init c = chain_none

pub loop-i-preserved : goal.loop-i-preserved
loop-i-preserved c = apart_more c.args.bw.now c.args.counts c.loop-i.invariant c.block_end-end.ensures (omega arith)

pub returns : goal.returns
returns c = λ e. apart_done c.args.bw.now c.args.counts c.loop-i.invariant (omega arith)
