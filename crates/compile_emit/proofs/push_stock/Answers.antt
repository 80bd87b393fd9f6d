-- The two Sets, then what ends the block.
use Rattle.std.proofs.Common.{w32}
use Rattle.std.proofs.Math.Facts.{to_z-of_z}
use Rattle.compile_emit.specs.BlockLaws.{slot_block_lem}
use Rattle.compile_emit.proofs.push_stock.Goals as goal

pub returns : goal.returns
returns c =
    let p = rw (c.held_before.ensures.0, c.held_before.ensures.1, to_z-of_z {w = w32} c.ranges.item) at c.emit_number-named.ensures in
    slot_block_lem c.args.endif c.args.index p c.emit_temp-counted.ensures c.end_slot.ensures
