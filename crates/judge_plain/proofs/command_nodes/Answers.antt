-- By the code of the command. Assumes nothing.
use Rattle.std.proofs.Common.{arith}
use mathlib.Core.Logic.{inl, inr}
use Rattle.judge_plain.specs.Commands.{tail_nothing, tail_jump, tail_end, tail_rest, coded}
use Rattle.judge_plain.proofs.command_nodes.Goals as goal

pub returns-in-0 : goal.returns-in-0
returns-in-0 c = elim c.in-0.is [
  | inl e ↦ coded c.args.sizes.now c.args.cw.now c.args.counts c.requires.1.kept c.args.i c.requires.0 e (omega arith) (tail_nothing c.args.sizes.now c.args.cw.now c.args.counts c.requires.1.kept c.args.i)
  | inr e ↦ coded c.args.sizes.now c.args.cw.now c.args.counts c.requires.1.kept c.args.i c.requires.0 e (omega arith) (tail_rest c.args.sizes.now c.args.cw.now c.args.counts c.requires.1.kept c.args.i)
]

pub returns-in-1 : goal.returns-in-1
returns-in-1 c = elim c.in-1.is [
  | inl e ↦ coded c.args.sizes.now c.args.cw.now c.args.counts c.requires.1.kept c.args.i c.requires.0 e (omega arith) (tail_jump c.args.sizes.now c.args.cw.now c.args.counts c.requires.1.kept c.args.i c.named_block.ensures)
  | inr e ↦ coded c.args.sizes.now c.args.cw.now c.args.counts c.requires.1.kept c.args.i c.requires.0 e (omega arith) (tail_end c.args.sizes.now c.args.cw.now c.args.counts c.requires.1.kept c.args.i c.named_block.ensures)
]

pub returns-in-2 : goal.returns-in-2
returns-in-2 c = coded c.args.sizes.now c.args.cw.now c.args.counts c.requires.1.kept c.args.i c.requires.0 c.in-2.is (omega arith) c.set_nodes.ensures

pub returns-in-3 : goal.returns-in-3
returns-in-3 c = coded c.args.sizes.now c.args.cw.now c.args.counts c.requires.1.kept c.args.i c.requires.0 c.in-3.is (omega arith) c.if_nodes.ensures
