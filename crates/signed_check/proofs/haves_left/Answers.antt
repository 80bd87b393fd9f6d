-- The codes are taken one by one. Assumes nothing.
use Rattle.std.proofs.Common.{arith, take, get_or-take, length-take-le}
use Rattle.signed_check.specs.Codes.{left_code}
use Rattle.signed_check.specs.Lefts.{picked_more, picked_none}
use Rattle.signed_check.proofs.haves_left.Goals as goal

pub loop-i-init : goal.loop-i-init
loop-i-init c = picked_none (left_code c.args.one c.args.own (take c.args.n c.args.row.now)) (take c.args.n c.args.row.now) _ c.requires.1

pub loop-i-preserved : goal.loop-i-preserved
loop-i-preserved c =
    let cs = take c.args.n c.args.row.now in
    let l = rw c.from-i-end.ensures at c.loop-i-test.true in
    let z = length-take-le c.args.n c.args.row.now (omega arith) in
    let e = get_or-take c.args.n c.args.row.now c.loop-i.i 0 l in
    picked_more (left_code c.args.one c.args.own cs) cs c.loop-i.out c.loop-i.m c.loop-i.i c.loop-i.invariant (omega arith) (omega arith) _ _ (rw e c.add_left-m.ensures.0) (rw e c.add_left-m.ensures.1)
