-- H where there are requirements, then the item's blocks.
use Rattle.compile_emit.specs.BlockLaws.{blocks_put}
use Rattle.compile_slots.specs.Cases.{filled_some}
use Rattle.compile_slots.proofs.compile_slot_filled.Goals as goal

pub returns : goal.returns
returns c = rw (filled_some c.args.x c.args.codes.now c.if-x-eq0.false) (blocks_put c.compile_slot_hidden-k1.ensures c.compile_slot_item-2.ensures)
