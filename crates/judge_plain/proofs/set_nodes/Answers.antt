-- By the code of the target. Assumes nothing.
use Rattle.std.proofs.Common.{refl}
use Rattle.judge_plain.specs.Commands.{set_both, set_value}
use Rattle.judge_plain.proofs.set_nodes.Goals as goal

pub returns-in-0 : goal.returns-in-0
returns-in-0 c = set_both c.args.sizes.now c.args.cw.now c.args.counts c.requires.1.kept c.args.i c.in-0.is c.term_nodes-target.ensures c.term_nodes-value.ensures refl

pub returns-in-1 : goal.returns-in-1
returns-in-1 c = set_value c.args.sizes.now c.args.cw.now c.args.counts c.requires.1.kept c.args.i c.in-1.is c.term_nodes.ensures
