-- Refused, the arrays are cleared; accepted, each slot is shown. Assumes nothing.
use Rattle.shop_arrays.specs.Arrays.{arrays_in}
use Rattle.rights.specs.ArrayLaws.{shown_start, shown_more, shown_end, shown_not}
use Rattle.rights.specs.Values.{table_of}
use Rattle.rights.proofs.show_arrays.Goals as goal

pub returns-then-user-ge-USERS_HERE : goal.returns-then-user-ge-USERS_HERE
returns-then-user-ge-USERS_HERE c =
    shown_not (table_of c.args.rights.now) c.args.user (arrays_in c.args.items.now c.args.limits.now c.args.codes.now c.args.lens.now)
    (arrays_in c.clear_arrays.new.items c.clear_arrays.new.limits c.clear_arrays.new.codes c.clear_arrays.new.lens) c.clear_arrays.ensures c.if-user-ge-USERS_HERE.true

pub loop-slot-init : goal.loop-slot-init
loop-slot-init c = shown_start (table_of c.args.rights.now) c.args.user (arrays_in c.args.items.now c.args.limits.now c.args.codes.now c.args.lens.now)

pub loop-slot-preserved : goal.loop-slot-preserved
loop-slot-preserved c =
    shown_more (table_of c.args.rights.now) c.args.user (arrays_in c.args.items.now c.args.limits.now c.args.codes.now c.args.lens.now) c.loop-slot.slot _ c.loop-slot.invariant c.loop-slot-test.true
    (arrays_in c.hide_slot.new.items c.hide_slot.new.limits c.hide_slot.new.codes c.hide_slot.new.lens) c.hide_slot.ensures

pub returns : goal.returns
returns c =
    shown_end (table_of c.args.rights.now) c.args.user (arrays_in c.args.items.now c.args.limits.now c.args.codes.now c.args.lens.now) c.loop-slot.slot _ c.loop-slot.invariant c.loop-slot-test.false c.if-user-ge-USERS_HERE.false
