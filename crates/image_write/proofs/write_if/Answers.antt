use Rattle.image_numbers.specs.Stored.{stored_on, stored_as, room_as, room_first, room_next}
use Rattle.model.specs.Reading.{word}
use Rattle.model.specs.Memory.{command_word}
use Rattle.memory.specs.View.{coded_of}
use Rattle.image_write.specs.Commands.{if_image}
use Rattle.image_write.proofs.write_if.Goals as goal

pub write_term-p-requires : goal.write_term-p-requires
write_term-p-requires c = (c.requires.1, room_first (word (command_word (coded_of c.args.ws.now c.args.val.now c.args.cw.now c.args.counts) c.args.i 3)) (room_as (if_image (coded_of c.args.ws.now c.args.val.now c.args.cw.now c.args.counts) c.args.i) c.requires.2))

pub write_short-requires : goal.write_short-requires
write_short-requires c = room_next c.write_term-p.ensures (room_as (if_image (coded_of c.args.ws.now c.args.val.now c.args.cw.now c.args.counts) c.args.i) c.requires.2)

pub returns : goal.returns
returns c = stored_as (if_image (coded_of c.args.ws.now c.args.val.now c.args.cw.now c.args.counts) c.args.i) (stored_on c.write_term-p.ensures c.write_short.ensures)
