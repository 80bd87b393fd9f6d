-- The pairs of the slots, one after the other. Assumes nothing.
use Rattle.std.proofs.Common.{arith}
use mir.Facts.{to_z-of_z}
use mir.Syntax.{w32}
use Rattle.shop.specs.Shapes.{sheet_of, slots_of, no_slot}
use Rattle.shop_arrays.specs.Arrays.{arrays_in, slot_at, shop_from}
use Rattle.shop_arrays.specs.Slots.{slots_long, slot_in_lem}
use Rattle.checks.specs.Calls.{save_of}
use Rattle.preview.proofs.Pairs.{shown_start, shown_more, shown_end}
use Rattle.preview.proofs.meanings.Goals as goal

pub loop-i-init : goal.loop-i-init
loop-i-init c = shown_start _ _ _ _ c.blank-out.ensures

pub loop-i-preserved : goal.loop-i-preserved
loop-i-preserved c =
    let s = arrays_in c.args.sold.now c.args.limits.now c.args.codes.now c.args.lens.now in
    let a = c.loop-i in
    let m = c.meaning_at-m.result in
    let item = to_z-of_z {w = w32} {z = m.item} (record { sfits = c.struct_told-1.given.0.1 }) in
    let count = to_z-of_z {w = w32} {z = m.count} (record { sfits = c.struct_told-1.given.1.0.1 }) in
    let temp = to_z-of_z {w = w32} {z = c.temp_after.result} (record { sfits = c.temp_after.type_inv }) in
    let old = to_z-of_z {w = w32} {z = a.out.temp} (record { sfits = c.struct_told-in-loop-i-2-1.given.1.1.0.1 }) in
    shown_more (sheet_of c.args.attached.now c.args.sheet) (save_of c.args.items.now c.args.atcs.now c.args.flags.now c.args.times.now c.args.vars.now) (shop_from s).slots a.i a.out a.invariant no_slot (omega (arith, slots_long s))
    (slot_at s a.i) (slot_in_lem s a.i no_slot c.loop-i-test.true) _ (c.head_at-head.ensures c.args.codes.now)
    _ (c.meaning_at-m.ensures c.args.vars.now)
    _ (rw (item, count, temp, c.temp_after.ensures, old))

pub returns : goal.returns
unfolding slots_of
returns c =
    let s = arrays_in c.args.sold.now c.args.limits.now c.args.codes.now c.args.lens.now in
    shown_end _ _ (shop_from s).slots c.loop-i.i c.loop-i.out c.loop-i.invariant (omega (arith, slots_long s))
