-- Hidden, or from the slot's context and its sorted set.
use Rattle.std.proofs.Common.{◌-◌, ap, refl, sym, ◌∙◌, arith, rules, get_or, pos, w16}
use Rattle.std.proofs.Math.Facts.{to_z-of_z}
use Rattle.model.specs.declared.BlockNo.{BlockNo}
use Rattle.shop.specs.Shapes.{sheet_of}
use Rattle.shop.specs.Sets.{reqs_in}
use Rattle.shop.specs.declared.Slot.{Slot}
use Rattle.shop_arrays.specs.Arrays.{arrays_in, slot_at}
use Rattle.compile_slots.specs.Context.{none_blocks, context_blocks, context_fits}
use Rattle.compile_slots.proofs.compile_slot.Goals as goal

pub compile_slot_hidden-requires-clause-room : goal.compile_slot_hidden-requires-clause-room
unfolding slot_at
compile_slot_hidden-requires-clause-room c =
    let y : Slot = slot_at (arrays_in c.args.items.now c.args.limits.now c.args.codes.now c.args.lens.now) c.args.i in
    rw c.from.ensures (rw (none_blocks (sheet_of c.args.attached.now c.args.sheet) y c.args.i (c.args.k.blocks - 1) (sym c.item_at.ensures ∙ c.in_default.is)) at c.requires.room)

pub returns-in_default : goal.returns-in_default
unfolding slot_at
returns-in_default c =
    let y : Slot = slot_at (arrays_in c.args.items.now c.args.limits.now c.args.codes.now c.args.lens.now) c.args.i in
    rw (none_blocks (sheet_of c.args.attached.now c.args.sheet) y c.args.i (c.args.k.blocks - 1) (sym c.item_at.ensures ∙ c.in_default.is)) (rw c.from.ensures at c.compile_slot_hidden.ensures)

pub sort_row-len-requires : goal.sort_row-len-requires
unfolding slot_at
sort_row-len-requires c = (c.requires.exact.1, c.requires.exact.0.few, refl)

pub compile_slot_filled-requires-clause-room : goal.compile_slot_filled-requires-clause-room
unfolding slot_at
compile_slot_filled-requires-clause-room c =
    let y : Slot = slot_at (arrays_in c.args.items.now c.args.limits.now c.args.codes.now c.args.lens.now) c.args.i in
    let z = c.sort_row-len.ensures c.args.items.now c.args.limits.now c.requires.exact.0 in
    let x = rw (c.from.ensures, to_z-of_z {w = w16} {z = get_or c.args.limits.now c.args.i (pos 0)} (search rules)) at c.item_context-x.ensures in
    rw (sym (context_blocks _ _ y _ _ _ (reqs_in c.sort_row-len.new.out c.sort_row-len.result) x c.requires.exact.0 z (sym c.item_at.ensures ∙ c.in-Some.is))) at c.requires.room

pub compile_slot_filled-requires-clause-fitting : goal.compile_slot_filled-requires-clause-fitting
unfolding slot_at
compile_slot_filled-requires-clause-fitting c =
    let y : Slot = slot_at (arrays_in c.args.items.now c.args.limits.now c.args.codes.now c.args.lens.now) c.args.i in
    let z = c.sort_row-len.ensures c.args.items.now c.args.limits.now c.requires.exact.0 in
    let x = rw (c.from.ensures, to_z-of_z {w = w16} {z = get_or c.args.limits.now c.args.i (pos 0)} (search rules)) at c.item_context-x.ensures in
    (context_fits _ _ y _ _ _ (reqs_in c.sort_row-len.new.out c.sort_row-len.result) x c.requires.exact.0 z c.requires.exact.1, omega (arith, ap (λ (b : BlockNo). b.0) x.end, c.requires.exact.2))

pub returns : goal.returns
unfolding slot_at
returns c =
    let y : Slot = slot_at (arrays_in c.args.items.now c.args.limits.now c.args.codes.now c.args.lens.now) c.args.i in
    let z = c.sort_row-len.ensures c.args.items.now c.args.limits.now c.requires.exact.0 in
    let x = rw (c.from.ensures, to_z-of_z {w = w16} {z = get_or c.args.limits.now c.args.i (pos 0)} (search rules)) at c.item_context-x.ensures in
    rw (sym (context_blocks _ _ y _ _ _ (reqs_in c.sort_row-len.new.out c.sort_row-len.result) x c.requires.exact.0 z (sym c.item_at.ensures ∙ c.in-Some.is))) c.compile_slot_filled.ensures
