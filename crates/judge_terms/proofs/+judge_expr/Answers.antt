-- Each return is one law of specs/Nodes.antt. Assumes nothing.
use Rattle.std.proofs.Common.{arith, rules}
use mir.Syntax.{w32}
use mir.Val.{SFits}
use Rattle.std.specs.Prelude.{get_or, pos}
use mir.Facts.{to_z-of_z}
use Rattle.std.proofs.lemmas.Result.{err_from_is_err_and}
use Rattle.image_numbers.specs.Signed.{zig_low}
use Rattle.judge_terms.specs.Pieces.{good_of}
use Rattle.judge_terms.specs.Nodes.{node_absent, node_unknown, node_over, node_deep, node_other, node_imm16, node_imm32, node_one, node_two, node_two_no}
use Rattle.judge_terms.proofs.+judge_expr.Goals as goal

pub returns-then-i-b : goal.returns-then-i-b
returns-then-i-b t c = node_absent _ _ _ _ _ _ _ c.if-i-b.true

pub returns-then-c-ge19 : goal.returns-then-c-ge19
returns-then-c-ge19 t c = node_unknown _ _ _ _ _ _ _ c.if-i-b.false (rw c.from-j.ensures at c.if-c-ge19.true)

pub returns-then-n-limit : goal.returns-then-n-limit
returns-then-n-limit t c = node_over _ _ _ _ _ _ _ c.if-i-b.false (rw c.from-j.ensures at c.if-c-ge19.false) c.if-n-limit.true

pub returns-then-depth-ge64 : goal.returns-then-depth-ge64
returns-then-depth-ge64 t c = node_deep _ _ _ _ _ _ _ c.if-i-b.false (rw c.from-j.ensures at c.if-c-ge19.false) c.if-n-limit.false c.if-depth-ge64.true

pub returns-in_err-m-in-Two : goal.returns-in_err-m-in-Two
returns-in_err-m-in-Two t c =
    let p = err_from_is_err_and c.from_residual.result c.from_residual.ensures.1 in
    rw (p.1, p.2) (node_two_no _ _ _ _ _ _ _ c.kind_of.result (search rules) _ c.in-Two.is (rw c.from-j.ensures at c.judge_expr.ensures) c.in_err-m-in-Two.was)

pub judge_expr-requires-in-Two : goal.judge_expr-requires-in-Two
judge_expr-requires-in-Two t c =
    let g = good_of c.judge_expr.ensures c.in_ok-m-in-Two.was in
    (search rules, record { low = omega arith; limit = c.requires.limit; levels = omega arith; few = g.low; soon = omega (arith, g.short) })

pub returns-in_ok-m-in-Two : goal.returns-in_ok-m-in-Two
returns-in_ok-m-in-Two t c = node_two _ _ _ _ _ _ _ c.kind_of.result (search rules) _ c.in-Two.is (rw c.from-j.ensures at c.judge_expr.ensures) c.in_ok-m-in-Two.was (rw c.from-j.ensures at c.judge_expr-in-Two.ensures)

pub returns-in-One : goal.returns-in-One
returns-in-One t c = node_one _ _ _ _ _ _ _ c.kind_of.result (search rules) _ c.in-One.is (rw c.from-j.ensures at c.judge_expr-in-One.ensures)

pub returns-in-Imm16 : goal.returns-in-Imm16
returns-in-Imm16 t c =
    let f : SFits w32 (get_or c.args.val.now c.from-j.result (pos 0)) = record { sfits = search rules } in
    let g : SFits w32 (get_or c.args.val.now c.args.i (pos 0)) = rw c.from-j.ensures at f in
    node_imm16 _ _ _ _ _ _ _ c.kind_of.result (search rules) _ c.in-Imm16.is (zig_low _ g) (rw c.from-j.ensures at (rw (to_z-of_z f) at c.judge_imm.ensures))

pub returns-in-Imm32 : goal.returns-in-Imm32
returns-in-Imm32 t c =
    let f : SFits w32 (get_or c.args.val.now c.from-j.result (pos 0)) = record { sfits = search rules } in
    let g : SFits w32 (get_or c.args.val.now c.args.i (pos 0)) = rw c.from-j.ensures at f in
    node_imm32 _ _ _ _ _ _ _ c.kind_of.result (search rules) _ c.in-Imm32.is (zig_low _ g) (rw c.from-j.ensures at (rw (to_z-of_z f) at c.judge_imm-in-Imm32.ensures))

pub returns-in-Other : goal.returns-in-Other
returns-in-Other t c = node_other _ _ _ _ _ _ _ c.kind_of.result (search rules) c.in-Other.is
