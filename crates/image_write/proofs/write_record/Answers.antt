use Rattle.image_numbers.specs.Stored.{stored_on, stored_as, room_as, room_first, room_next}
use Rattle.model.specs.Record.{blocks_image_in}
use Rattle.memory.specs.View.{memory_of}
use Rattle.image_write.specs.Blocks.{record_image_lem}
use Rattle.image_write.proofs.write_record.Goals as goal

pub write_short-p-requires : goal.write_short-p-requires
write_short-p-requires c = room_first (blocks_image_in (memory_of c.args.ws.now c.args.val.now c.args.cw.now c.args.bw.now c.args.counts) c.args.counts.blocks 0) (room_as (record_image_lem (memory_of c.args.ws.now c.args.val.now c.args.cw.now c.args.bw.now c.args.counts)) c.requires.1)

pub write_blocks-requires : goal.write_blocks-requires
write_blocks-requires c = (c.requires.0, room_next c.write_short-p.ensures (room_as (record_image_lem (memory_of c.args.ws.now c.args.val.now c.args.cw.now c.args.bw.now c.args.counts)) c.requires.1))

pub returns : goal.returns
returns c = stored_as (record_image_lem (memory_of c.args.ws.now c.args.val.now c.args.cw.now c.args.bw.now c.args.counts)) (stored_on c.write_short-p.ensures c.write_blocks.ensures)
