-- The first i items are those of the shop.
use Rattle.capi_text.specs.Arrays.{ItemsPut}
use Rattle.capi_text.proofs.put_items.Given as goal

abbrev pub invariant-loop-i : goal.invariant-loop-i
invariant-loop-i l = ItemsPut l.shop l.items l.i
