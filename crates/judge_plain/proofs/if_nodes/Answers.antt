-- Assumes nothing.
use Rattle.std.proofs.Common.{refl}
use Rattle.judge_plain.specs.Commands.{tail_if}
use Rattle.judge_plain.proofs.if_nodes.Goals as goal

pub returns : goal.returns
returns c = tail_if c.args.sizes.now c.args.cw.now c.args.counts c.requires.1.kept c.args.i c.term_nodes.ensures c.named_block.ensures refl
