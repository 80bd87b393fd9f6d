-- `hides` meets its contract. The loop's invariant: no slot below at is hidden. Assumes nothing.
use Prim.Native.Nat.{◌-◌}
use Rattle.model.specs.Limits.{slot_count}
use Rattle.parse_scan.specs.Shown.{ShownBelow}
use Rattle.parse_scan.proofs.hides.Given as goal

abbrev pub invariant-loop-at : goal.invariant-loop-at
invariant-loop-at l = ShownBelow l.s.item_mask l.ids l.s.count_mask l.at

abbrev pub decreases-loop-at : goal.decreases-loop-at
decreases-loop-at l = slot_count - l.at
