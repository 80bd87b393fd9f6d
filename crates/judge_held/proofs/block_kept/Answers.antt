-- By the block's kind, and by the run of its first command if that is kept. Assumes nothing.
use Rattle.std.proofs.Common.{arith, refl}
use Rattle.judge_held.specs.Runs.{kept_not_code, kept_run, kept_past}
use Rattle.judge_held.proofs.block_kept.Goals as goal

pub returns-then-bw-i-ne1 : goal.returns-then-bw-i-ne1
returns-then-bw-i-ne1 c = λ ws vs cw R. kept_not_code ws vs cw _ _ _ _ c.if-bw-i-ne1.true

pub returns-then-first-counts : goal.returns-then-first-counts
returns-then-first-counts c = λ ws vs cw R. kept_run ws vs cw c.args.bw.now c.args.counts c.args.i _ c.if-bw-i-ne1.false c.from.ensures (omega arith) R

pub returns-else-first-counts : goal.returns-else-first-counts
returns-else-first-counts c = λ ws vs cw R. kept_past ws vs cw c.args.bw.now c.args.counts c.args.i _ c.if-bw-i-ne1.false refl (omega arith)
