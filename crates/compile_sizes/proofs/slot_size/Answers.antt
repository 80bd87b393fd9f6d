-- The set of a slot's requirements, and the size by its limit.
use Rattle.std.proofs.Common.{◌≤◌, sym, refl, ◌∙◌, arith, rules, get_or, pos, w16}
use Rattle.std.proofs.lemmas.Grind.{common_steps}
use Rattle.std.proofs.Math.Facts.{to_z-of_z}
use Rattle.model.specs.Limits.{entry_limit}
use Rattle.shop.specs.Shapes.{sheet_of}
use Rattle.shop.specs.Sets.{reqs_in}
use Rattle.shop.specs.declared.Slot.{Slot}
use Rattle.shop_arrays.specs.Arrays.{arrays_in, slot_at}
use Rattle.compile_sizes.specs.Slots.{set_few, unique_is, limit_is, none_is}
use Rattle.compile_sizes.proofs.slot_size.Goals as goal

pub sort_row-len-requires : goal.sort_row-len-requires
unfolding slot_at
sort_row-len-requires c = (c.requires.0, c.requires.1.few, refl)

pub slice_bounds-set-end : goal.slice_bounds-set-end
slice_bounds-set-end c =
    let few : c.sort_row-len.result ≤ entry_limit = set_few (slot_at (arrays_in c.args.items.now c.args.limits.now c.args.codes.now c.args.lens.now) c.args.i) c.requires.1 _ (c.sort_row-len.ensures _ _ c.requires.1) in
    omega arith

pub slice_bounds-tests_nodes-end : goal.slice_bounds-tests_nodes-end
slice_bounds-tests_nodes-end c =
    let few : c.sort_row-len.result ≤ entry_limit = set_few (slot_at (arrays_in c.args.items.now c.args.limits.now c.args.codes.now c.args.lens.now) c.args.i) c.requires.1 _ (c.sort_row-len.ensures _ _ c.requires.1) in
    grind (arith, common_steps)

pub returns-then-limit_of-le1 : goal.returns-then-limit_of-le1
unfolding slot_at
returns-then-limit_of-le1 c =
    let x : Slot = slot_at (arrays_in c.args.items.now c.args.limits.now c.args.codes.now c.args.lens.now) c.args.i in
    let z = c.sort_row-len.ensures c.args.items.now c.args.limits.now c.requires.1 in
    let l = rw (to_z-of_z {w = w16} {z = get_or c.args.limits.now c.args.i (pos 0)} (search rules)) at c.limit_of.ensures in
    (c.unique_size.ensures.0 ∙ unique_is x c.requires.1 (reqs_in c.sort_row-len.new.out c.sort_row-len.result) z (sheet_of c.args.attached.now c.args.sheet) _ _ _ (sym c.item_at.ensures ∙ c.in-Some.is) l (rw c.from.ensures at c.tests_nodes-tests.ensures.0) _ (c.timer_of.ensures c.args.attached.now) c.if-limit_of-le1.true, c.unique_size.ensures.1)

pub returns-in_default : goal.returns-in_default
unfolding slot_at
returns-in_default c = (c.sized.ensures ∙ none_is _ _ (sym c.item_at.ensures ∙ c.in_default.is), rw c.sized.ensures (search rules))

pub returns-else-limit_of-le1 : goal.returns-else-limit_of-le1
unfolding slot_at
returns-else-limit_of-le1 c =
    let x : Slot = slot_at (arrays_in c.args.items.now c.args.limits.now c.args.codes.now c.args.lens.now) c.args.i in
    let z = c.sort_row-len.ensures c.args.items.now c.args.limits.now c.requires.1 in
    let l = rw (to_z-of_z {w = w16} {z = get_or c.args.limits.now c.args.i (pos 0)} (search rules)) at c.limit_of.ensures in
    (c.limit_size.ensures.0 ∙ limit_is x c.requires.1 (reqs_in c.sort_row-len.new.out c.sort_row-len.result) z (sheet_of c.args.attached.now c.args.sheet) _ _ _ (sym c.item_at.ensures ∙ c.in-Some.is) l (rw c.from.ensures at c.tests_nodes-tests.ensures.0) c.if-limit_of-le1.false, c.limit_size.ensures.1)
