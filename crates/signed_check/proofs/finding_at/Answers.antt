-- By the item of the slot. Assumes nothing.
use Rattle.std.proofs.Common.{ap, sym, ◌∙◌, length, refl}
use Rattle.model.specs.Requirement.{sorted}
use Rattle.model.specs.Shop.{slot_ok}
use Rattle.shop.specs.Shapes.{sheet_of, slot_of}
use Rattle.shop.specs.Sets.{sorted_reqs}
use Rattle.shop.specs.Slots.{slot_exact}
use Rattle.shop.specs.declared.Slot.{Slot}
use Rattle.shop_arrays.specs.Arrays.{arrays_in, slot_at}
use Rattle.settings.specs.Codes.{slot_few}
use Rattle.signed_check.specs.Slots.{set_long}
use Rattle.signed_check.proofs.finding_at.Goals as goal

pub sort_row-n-requires : goal.sort_row-n-requires
unfolding slot_at
sort_row-n-requires c =
    let x = slot_at (arrays_in c.args.items.now c.args.limits.now c.args.codes.now c.args.lens.now) c.args.i in
    (c.requires.0, slot_few (sheet_of c.args.attached.now c.args.sheet) c.requires.1 x c.requires.2, refl)

pub without_item-requires : goal.without_item-requires
without_item-requires c =
    let x = slot_at (arrays_in c.args.items.now c.args.limits.now c.args.codes.now c.args.lens.now) c.args.i in
    let e = c.sort_row-n.ensures c.args.items.now c.args.limits.now (slot_exact (sheet_of c.args.attached.now c.args.sheet) c.requires.1 x c.requires.2) in
    (c.in-None.is, set_long x _ _ e ∙ ap (λ (y : Slot). length (sorted (slot_of y).requirements)) {x = x} (sym {b = x} c.slot_at-slot.ensures))

pub with_item-requires : goal.with_item-requires
with_item-requires c =
    let h = sheet_of c.args.attached.now c.args.sheet in
    let x = slot_at (arrays_in c.args.items.now c.args.limits.now c.args.codes.now c.args.lens.now) c.args.i in
    let e = c.sort_row-n.ensures c.args.items.now c.args.limits.now (slot_exact h c.requires.1 x c.requires.2) in
    (c.requires.1, ap (λ (y : Slot). slot_ok h (slot_of y)) {y = x} c.slot_at-slot.ensures ∙ c.requires.2, c.in-Some.is, e ∙ ap sorted_reqs {x = x} (sym {b = x} c.slot_at-slot.ensures))
