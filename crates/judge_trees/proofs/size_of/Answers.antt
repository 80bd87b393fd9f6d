-- Each return is one law of specs/Codes.antt. Assumes nothing.
use Rattle.std.proofs.Common.{arith, rules}
use Rattle.std.specs.Int.{w32}
use Rattle.std.specs.Prelude.{get_or, pos}
use mir.Facts.{to_z-of_z}
use mir.Val.{SFits}
use Rattle.std.proofs.lemmas.Option.{IfSome_then}
use Rattle.judge_trees.specs.Codes.{tree_11, tree_high, tree_6, tree_low}
use Rattle.judge_trees.proofs.size_of.Goals as goal

pub returns-then-code-eq11 : goal.returns-then-code-eq11
returns-then-code-eq11 c =
    let f : SFits w32 (get_or c.args.val.now c.args.i (pos 0)) = record { sfits = search rules } in
    IfSome_then _ (rw (to_z-of_z f) at c.imm16_size.ensures) (λ r. tree_11 c.args.ws.now c.args.val.now c.requires.1 c.if-code-eq11.true)

pub returns-then-code-gt11 : goal.returns-then-code-gt11
returns-then-code-gt11 c = IfSome_then _ c.high_size.ensures (λ r. tree_high c.args.ws.now c.args.val.now c.requires.1)

pub returns-then-code-eq6 : goal.returns-then-code-eq6
returns-then-code-eq6 c = IfSome_then _ c.above_one.ensures (λ r. tree_6 c.args.ws.now c.args.val.now c.requires.1 c.if-code-eq6.true)

pub returns-else-code-eq6 : goal.returns-else-code-eq6
returns-else-code-eq6 c = IfSome_then _ c.above_two.ensures (λ r. tree_low c.args.ws.now c.args.val.now c.requires.1 (omega arith) c.if-code-eq6.false)
