use Rattle.image_numbers.specs.Stored.{stored_on, stored_as, room_as, room_first, room_next}
use Rattle.std.proofs.Common.{◌++◌}
use Rattle.model.specs.Reading.{word}
use Rattle.model.specs.Memory.{block_word}
use Rattle.model.specs.Record.{commands_image_in}
use Rattle.memory.specs.View.{memory_of}
use Rattle.image_write.specs.Blocks.{code_image}
use Rattle.image_write.proofs.write_code.Goals as goal

pub write_short-p-requires : goal.write_short-p-requires
write_short-p-requires c =
    let me = memory_of c.args.ws.now c.args.val.now c.args.cw.now c.args.bw.now c.args.counts in
    room_first (commands_image_in me.coded (block_word me c.args.i 2) (block_word me c.args.i 1) ++ (word (block_word me c.args.i 3) ++ word (block_word me c.args.i 4))) (room_as (code_image me c.args.i) c.requires.2)

pub write_commands-q-requires : goal.write_commands-q-requires
write_commands-q-requires c =
    let me = memory_of c.args.ws.now c.args.val.now c.args.cw.now c.args.bw.now c.args.counts in
    (c.requires.1, room_first (word (block_word me c.args.i 3) ++ word (block_word me c.args.i 4)) (room_next c.write_short-p.ensures (room_as (code_image me c.args.i) c.requires.2)))

pub write_short-s-requires : goal.write_short-s-requires
write_short-s-requires c =
    let me = memory_of c.args.ws.now c.args.val.now c.args.cw.now c.args.bw.now c.args.counts in
    room_first (word (block_word me c.args.i 4)) (room_next c.write_commands-q.ensures (room_next c.write_short-p.ensures (room_as (code_image me c.args.i) c.requires.2)))

pub write_short-requires : goal.write_short-requires
write_short-requires c =
    let me = memory_of c.args.ws.now c.args.val.now c.args.cw.now c.args.bw.now c.args.counts in
    room_next c.write_short-s.ensures (room_next c.write_commands-q.ensures (room_next c.write_short-p.ensures (room_as (code_image me c.args.i) c.requires.2)))

pub returns : goal.returns
returns c =
    let me = memory_of c.args.ws.now c.args.val.now c.args.cw.now c.args.bw.now c.args.counts in
    stored_as (code_image me c.args.i) (stored_on c.write_short-p.ensures (stored_on {a = commands_image_in me.coded (block_word me c.args.i 2) (block_word me c.args.i 1)} c.write_commands-q.ensures (stored_on c.write_short-s.ensures c.write_short.ensures)))
