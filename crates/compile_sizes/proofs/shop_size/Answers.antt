-- The slots from the last one on, one more at a time.
use Rattle.std.proofs.Common.{◌<◌, ◌-◌, arith}
use Rattle.model.specs.Limits.{slot_count}
use Rattle.shop.specs.Shapes.{no_slot}
use Rattle.shop_arrays.specs.Arrays.{Arrays, arrays_in}
use Rattle.shop_arrays.specs.Slots.{slots_long, slot_in_lem, exact_at}
use Rattle.compile_sizes.specs.Slots.{none_summed, one_summed, all_summed, summed_few}
use Rattle.compile_sizes.proofs.shop_size.Goals as goal

pub loop-i-init : goal.loop-i-init
loop-i-init c = rw c.sized-total.ensures (none_summed _ _ (slots_long (arrays_in c.args.items.now c.args.limits.now c.args.codes.now c.args.lens.now)))

pub slot_size-next-requires : goal.slot_size-next-requires
slot_size-next-requires c =
    let l : c.loop-i.i - 1 < slot_count = omega (arith, c.loop-i.invariant.low, c.loop-i-test.true) in
    (l, exact_at (arrays_in c.args.items.now c.args.limits.now c.args.codes.now c.args.lens.now) (c.loop-i.i - 1) c.requires l)

pub loop-i-preserved : goal.loop-i-preserved
loop-i-preserved c =
    let a : Arrays = arrays_in c.args.items.now c.args.limits.now c.args.codes.now c.args.lens.now in
    let l : c.loop-i.i - 1 < slot_count = omega (arith, c.loop-i.invariant.low, c.loop-i-test.true) in
    rw c.plus-total.ensures (one_summed _ _ (slots_long a) _ _ _ no_slot c.loop-i.invariant c.loop-i-test.true (rw (slot_in_lem a (c.loop-i.i - 1) no_slot l) c.slot_size-next.ensures.0) c.slot_size-next.ensures.1)

pub returns : goal.returns
returns c = (all_summed _ _ _ _ c.loop-i.invariant (omega arith), summed_few c.loop-i.invariant)
