-- Each return is one law of specs/Levels.antt. Assumes nothing.
use Rattle.std.proofs.Common.{arith, ◌-◌}
use mathlib.Core.Logic.{inl, inr}
use Rattle.judge_trees.specs.Levels.{shallow_two, shallow_one, shallow_imm16, shallow_imm32, shallow_other}
use Rattle.judge_trees.proofs.+is_shallow.Goals as goal

pub returns-then-is_shallow : goal.returns-then-is_shallow
returns-then-is_shallow t c = λ e. shallow_two c.args.ws.now c.args.levels (c.args.levels - 1) c.args.i c.kind_of.ensures (omega arith) c.in-Two.is c.from.ensures c.from-then-is_shallow.ensures (c.is_shallow.ensures c.if-is_shallow.true) (c.is_shallow-then-is_shallow.ensures e)

pub returns-in-One : goal.returns-in-One
returns-in-One t c = λ e. shallow_one c.args.ws.now c.args.levels (c.args.levels - 1) c.args.i c.kind_of.ensures (omega arith) c.in-One.is c.from-in-One.ensures (c.is_shallow-in-One.ensures e)

pub returns-in-Imm16 : goal.returns-in-Imm16
returns-in-Imm16 t c = λ q. elim c.in-Imm16.is [
  | inl e ↦ shallow_imm16 c.args.ws.now c.args.levels (c.args.levels - 1) c.args.i c.kind_of.ensures (omega arith) e
  | inr r ↦ elim r [
    | inl e ↦ shallow_imm32 c.args.ws.now c.args.levels (c.args.levels - 1) c.args.i c.kind_of.ensures (omega arith) e
    | inr e ↦ shallow_other c.args.ws.now c.args.levels (c.args.levels - 1) c.args.i c.kind_of.ensures (omega arith) e
  ]
]
