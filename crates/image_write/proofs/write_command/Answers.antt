use Rattle.image_numbers.specs.Stored.{stored_on, stored_as, room_as, room_first, room_next}
use Rattle.model.specs.Record.{command_tail}
use Rattle.memory.specs.View.{coded_of}
use Rattle.std.proofs.Common.{◌*◌, get_or}
use Rattle.image_write.specs.Commands.{absent_image, command_image_lem}
use Rattle.image_write.proofs.write_command.Goals as goal

pub write_short-requires : goal.write_short-requires
write_short-requires c = room_as (absent_image (coded_of c.args.ws.now c.args.val.now c.args.cw.now c.args.counts) c.args.i (rw c.from.ensures at c.if-i-from.true)) c.requires.1

pub returns-then-i-from : goal.returns-then-i-from
returns-then-i-from c = stored_as (absent_image (coded_of c.args.ws.now c.args.val.now c.args.cw.now c.args.counts) c.args.i (rw c.from.ensures at c.if-i-from.true)) c.write_short.ensures

pub write_short-p-requires : goal.write_short-p-requires
write_short-p-requires c =
    let co = coded_of c.args.ws.now c.args.val.now c.args.cw.now c.args.counts in
    room_first (command_tail co c.args.i (get_or c.args.cw.now (4 * c.args.i) 0)) (room_as (command_image_lem co c.args.i (rw c.from.ensures at c.if-i-from.false)) c.requires.1)

pub write_tail-requires : goal.write_tail-requires
write_tail-requires c =
    let lt = rw c.from.ensures at c.if-i-from.false in
    (lt, c.requires.0, room_next c.write_short-p.ensures (room_as (command_image_lem (coded_of c.args.ws.now c.args.val.now c.args.cw.now c.args.counts) c.args.i lt) c.requires.1))

pub returns : goal.returns
returns c = stored_as (command_image_lem (coded_of c.args.ws.now c.args.val.now c.args.cw.now c.args.counts) c.args.i (rw c.from.ensures at c.if-i-from.false)) (stored_on c.write_short-p.ensures c.write_tail.ensures)
