use Rattle.std.proofs.Common.{◌≡◌, to_z, of_z, w32}
use Rattle.std.proofs.Math.Facts.{to_z-of_z}
use Rattle.lanes_block.specs.Laws.{stored_more, stored_all}
use Rattle.lanes_block.proofs.store_lanes.Goals as goal

pub loop-j-preserved : goal.loop-j-preserved
loop-j-preserved g c =
    λ ks xs kp xp.
    let a : to_z w32 (of_z w32 c.target.result) ≡ c.target.result = to_z-of_z {w = w32} (record { sfits = c.target.type_inv }) in
    let b : to_z w32 (of_z w32 c.value.result) ≡ c.value.result = to_z-of_z {w = w32} (record { sfits = c.value.type_inv }) in
    let k = kp c.loop-j.j c.target.result c.loop-j-test.true c.target.ensures in
    let x = xp c.loop-j.j c.value.result c.loop-j-test.true c.value.ensures in
    stored_more c.args.lanes.now ks xs c.args.stops.now c.args.vars.now c.args.s c.loop-j.j c.loop-j.vars _ c.requires.lanes.0 c.loop-j-test.true (c.loop-j.invariant ks xs kp xp) (rw (a, b, k, x) at c.store_lane.ensures)

pub returns : goal.returns
returns g c = λ ks xs kp xp. stored_all c.args.lanes.now ks xs c.args.stops.now c.args.vars.now c.args.s c.loop-j.j c.loop-j.vars (c.loop-j.invariant ks xs kp xp) c.loop-j.auto.j-end c.loop-j-test.false
