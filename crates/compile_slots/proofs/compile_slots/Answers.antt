-- The slots from the last one on, one more at a time.
use Rattle.std.proofs.Common.{◌-◌, ◌≡◌, arith}
use Rattle.shop_arrays.specs.Arrays.{Arrays, arrays_in}
use Rattle.shop_arrays.specs.Slots.{exact_at}
use Rattle.compile_slots.specs.Slots.{none_yet_lem, next_room, next_put}
use Rattle.compile_slots.proofs.compile_slots.Goals as goal

pub loop-i-init : goal.loop-i-init
loop-i-init c = none_yet_lem _ _ (arrays_in c.args.items.now c.args.limits.now c.args.codes.now c.args.lens.now)

pub compile_slot-at-requires-clause-room : goal.compile_slot-at-requires-clause-room
compile_slot-at-requires-clause-room c =
    let a : Arrays = arrays_in c.args.items.now c.args.limits.now c.args.codes.now c.args.lens.now in
    next_room _ _ _ a _ c.loop-i-test.true c.loop-i.auto.i c.requires.all_exact.1 c.loop-i.invariant c.requires.room

pub compile_slot-at-requires-clause-exact : goal.compile_slot-at-requires-clause-exact
compile_slot-at-requires-clause-exact c =
    let a : Arrays = arrays_in c.args.items.now c.args.limits.now c.args.codes.now c.args.lens.now in
    let l = c.loop-i in
    (exact_at a (l.i - 1) c.requires.all_exact.0 (omega (arith, c.loop-i-test.true, l.auto.i)), omega (arith, c.loop-i-test.true, l.auto.i), omega (arith, l.invariant.counted, c.requires.all_exact.1))

pub loop-i-preserved : goal.loop-i-preserved
loop-i-preserved c =
    let a : Arrays = arrays_in c.args.items.now c.args.limits.now c.args.codes.now c.args.lens.now in
    next_put _ _ _ a _ c.loop-i-test.true c.loop-i.auto.i c.requires.all_exact.1 c.loop-i.invariant _ c.compile_slot-at.ensures

pub returns : goal.returns
returns c = let e : c.loop-i.i ≡ 0 = omega (arith, c.loop-i-test.false) in rw e at c.loop-i.invariant
