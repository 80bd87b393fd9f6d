-- What stands above N comes after the blocks up to it.
use Rattle.compile_slots.specs.Slots.{append_put}
use Rattle.compile_slots.proofs.compile_slot_unique.Goals as goal

pub returns : goal.returns
returns c = append_put c.compile_sold-k1.ensures (rw c.blocks_before-before.ensures at c.compile_enable.ensures)
