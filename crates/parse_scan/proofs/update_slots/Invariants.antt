-- `update_slots` meets its contract. The loop's invariant: the slots below at are done, the others as they were. Assumes nothing.
-- the slots at the start, and the variables that the block wrote
-- the slots where a turn begins
-- up to a slot before which the merged masks tell of none
-- up to the slot that they tell of next
-- that slot is as it was
-- the arrays as the turn leaves them
use Prim.Native.Nat.{◌-◌}
use Rattle.model.specs.Limits.{slot_count}
use Rattle.shop_arrays.specs.Arrays.{arrays_in, shop_from}
use Rattle.parse_scan.specs.Table.{table_of}
use Rattle.parse_scan.specs.Slots.{Stands}
use Rattle.parse_scan.specs.AllSlots.{Halfway}
use Rattle.parse_scan.proofs.update_slots.Given as goal

abbrev pub invariant-loop-at : goal.invariant-loop-at
invariant-loop-at l = Halfway (shop_from (arrays_in l.initial.items l.initial.limits l.initial.codes l.initial.lens)) l.known (table_of l.s.item_mask l.ids) (table_of l.s.count_mask l.counts) (Stands l.more l.n) (shop_from (arrays_in l.items l.limits l.codes l.lens)) l.at

abbrev pub decreases-loop-at : goal.decreases-loop-at
decreases-loop-at l = slot_count - l.at
