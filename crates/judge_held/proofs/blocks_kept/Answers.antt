-- Assumes nothing.
use Rattle.std.proofs.Common.{true, false, rules}
use Rattle.judge_held.specs.Ranges.{all_below}
use Rattle.judge_held.specs.Runs.{Block, blocks_told}
use Rattle.judge_held.proofs.blocks_kept.Goals as goal

pub returns : goal.returns
returns c =
    let said = Block c.args.bw.now c.args.runs.now c.args.counts in
    blocks_told c.args.bw.now c.args.runs.now c.args.counts c.all.result
    (all_below _ _ c.all.result c.args.counts.blocks (said true) (said false) (rw c.from.ensures) c.all.ensures.ran (λ x q h. search rules) (λ x q h. search rules))
