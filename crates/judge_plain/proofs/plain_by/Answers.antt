-- The sum has room, no command has too many levels, and none is held twice. Assumes nothing.
use Rattle.std.proofs.Common.{◌∙◌, sym, arith}
use borrow.Author.Tests.{lt-leb}
use Rattle.judge_trees.specs.Trees.{never}
use Rattle.judge_plain.specs.Whole.{plain_apart}
use Rattle.judge_plain.proofs.plain_by.Goals as goal
use Rattle.judge_plain.proofs.plain_by.Goals.{then-sum-from, else-sum-from}

pub returns-then-commands_shallow : goal.returns-then-commands_shallow
returns-then-commands_shallow c = λ e. elim c.if-sum-from.branch [
  | then-sum-from w ↦ plain_apart c.args.ws.now c.args.sizes.now c.args.cw.now c.args.bw.now c.args.counts c.requires.kept c.in-Some.ensures (omega (arith, w.if-sum-from.true, c.from.ensures)) (w.commands_shallow.ensures (sym w.value-is ∙ c.if-commands_shallow.true)) (c.blocks_apart.ensures e)
  | else-sum-from w ↦ never (sym (w.value-is ∙ lt-leb _ _ w.if-sum-from.false) ∙ c.if-commands_shallow.true)
]
