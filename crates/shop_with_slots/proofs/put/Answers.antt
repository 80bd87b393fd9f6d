-- The first of what is given lies over an array that is none at each place. Assumes nothing.
use Rattle.std.proofs.Common.{◌≡◌, ◌∙◌, ap, length, take, arith, rules}
use Rattle.shop_with_slots.specs.Twenty.{filled}
use Rattle.shop_with_slots.proofs.Fill.{laid_one, laid_all}
use Rattle.shop_with_slots.proofs.put.Goals as goal

pub loop-i-2-init : goal.loop-i-2-init
loop-i-2-init g c = λ k h. c.loop-i.invariant k (omega arith)

pub loop-i-2-preserved : goal.loop-i-2-preserved
loop-i-2-preserved g c = laid_one c.args.none c.args.from.now c.loop-i-2.i c.loop-i-2.to c.index-from-i.result c.index-from-i.result c.index-from-i.is (omega arith) (omega arith) c.loop-i-2.invariant

pub returns : goal.returns
returns g c =
    let e : length c.loop-i-2.to ≡ length c.args.to.now = search rules in
    laid_all c.args.none c.args.from.now c.args.n c.loop-i-2.i c.loop-i-2.to (omega arith) c.loop-i-2.invariant
    ∙ ap (λ n. filled c.args.none n (take c.args.n c.args.from.now)) e
