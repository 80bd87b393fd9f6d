use Rattle.std.proofs.Common.{◌+◌, ◌*◌, refl, get_or, arith}
use Rattle.expr_negate.specs.InPlace.{sides, compare_done}
use Rattle.expr_negate.proofs.+negate_node.Goals as goal

pub returns-then-code-lt6 : goal.returns-then-code-lt6
returns-then-code-lt6 t c = rw c.from-at.ensures (λ k e h. compare_done c.flipped.result (rw c.from-at.ensures at c.if-code-lt6.true) (rw c.from-at.ensures at c.flipped.ensures) h)

pub negate_node-requires : goal.negate_node-requires
negate_node-requires t c = rw c.from-at.ensures (
    let h = c.requires in
    let g = sides _ (get_or c.args.ws.now (3 * c.args.i + 2) 0) c.flipped.result (rw c.from-at.ensures at c.if-code-lt6.false) refl refl (rw c.from-at.ensures at c.flipped.ensures) h.laid in
    (omega (arith, g.left_low), record { first = h.first; expr = g.one; laid = g.left; low = omega (arith, g.left_low, h.low) }))

pub negate_node-requires-2 : goal.negate_node-requires-2
negate_node-requires-2 t c = rw c.from-at.ensures (
    let h = c.requires in
    let l = get_or c.args.ws.now (3 * c.args.i + 1) 0 in
    let g = sides l (get_or c.args.ws.now (3 * c.args.i + 2) 0) c.flipped.result (rw c.from-at.ensures at c.if-code-lt6.false) refl refl (rw c.from-at.ensures at c.flipped.ensures) h.laid in
    let turned = rw c.from-at.ensures at c.negate_node.ensures in
    (omega (arith, g.right_low), record { first = l + 1; expr = g.other; laid = g.right _ (turned h.first g.one g.left); low = omega (arith, g.right_low, h.low) }))

pub returns : goal.returns
returns t c = λ k e h.
    let l = get_or c.args.ws.now (3 * c.args.i + 1) 0 in
    let g = sides l (get_or c.args.ws.now (3 * c.args.i + 2) 0) c.flipped.result (rw c.from-at.ensures at c.if-code-lt6.false) refl refl (rw c.from-at.ensures at c.flipped.ensures) h in
    let p = (rw c.from-at.ensures at c.negate_node.ensures) k g.one g.left in
    g.done _ _ p ((rw c.from-at.ensures at c.negate_node-2.ensures) (l + 1) g.other (g.right _ p))
