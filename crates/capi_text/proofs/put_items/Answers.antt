-- One item more is put.
use Rattle.std.proofs.Common.{◌≡◌, ◌∙◌, rules, length, to_z-of_z}
use Rattle.std.specs.Int.{w32}
use Rattle.model.specs.Limits.{slot_count}
use Rattle.shop.proofs.All.{length_mapped}
use Rattle.slots_text.specs.Lines.{beyond}
use Rattle.capi_text.specs.Arrays.{items_next}
use Rattle.capi_text.proofs.put_items.Goals as goal

pub loop-i-preserved : goal.loop-i-preserved
loop-i-preserved c =
    let size : length c.args.shop.slots ≡ slot_count = search (length_mapped, rules) in
    items_next _ _ _ c.loop-i.invariant size beyond _ c.loop-i-test.true (to_z-of_z {w = w32} (record { sfits = c.item_to.type_inv }) ∙ c.item_to.ensures.0)
