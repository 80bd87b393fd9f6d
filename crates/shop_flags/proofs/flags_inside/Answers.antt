-- Every slot is tested by its number. Assumes nothing.
use Rattle.std.proofs.Common.{refl, sym, ◌∙◌, Bool, rules, tests}
use Rattle.std.proofs.lemmas.Iterator.{YieldsList-from_range}
use Rattle.std.proofs.lemmas.Iterator.Search.{all_from_yields_List}
use Rattle.model.specs.Limits.{slot_count}
use Rattle.model.specs.Flags.{slot_inside}
use Rattle.shop.proofs.All.{all_map}
use Rattle.shop.specs.Shapes.{slot_of, slots_of}
use Rattle.shop.specs.declared.Slot.{Slot}
use Rattle.shop_arrays.specs.Arrays.{Arrays, arrays_in, slot_at, shop_from}
use Rattle.shop_arrays.proofs.Placed.{all_slots}
use Rattle.shop_flags.proofs.flags_inside.Goals as goal

pub returns : goal.returns
unfolding slots_of
returns c =
    let a : Arrays = arrays_in c.args.sold.now c.args.limits.now c.args.codes.now c.args.lens.now in
    let p : Slot → Bool = λ x. slot_inside (slot_of x) in
    all_from_yields_List (λ i. p (slot_at a i)) _ _ _ c.all.ensures.ran (YieldsList-from_range 0 slot_count slot_count refl refl) (λ x b q k. search (rules, tests))
    ∙ all_slots p a
    ∙ sym (all_map slot_inside slot_of (shop_from a).slots)
