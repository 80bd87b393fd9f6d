use Rattle.image_numbers.specs.Stored.{stored_on, stored_as, room_as, room_first, room_next}
use Rattle.model.specs.Memory.{command_word}
use Rattle.model.specs.Record.{root_image}
use Rattle.memory.specs.View.{coded_of}
use Rattle.image_write.specs.Commands.{set_rest, set_image, rest_variable, rest_other}
use Rattle.image_write.proofs.write_set.Goals as goal

pub write_short-p-requires : goal.write_short-p-requires
write_short-p-requires c =
    let co = coded_of c.args.ws.now c.args.val.now c.args.cw.now c.args.counts in
    room_first (set_rest co c.args.i (command_word co c.args.i 3)) (room_as (set_image co c.args.i) c.requires.2)

pub write_term-q-requires : goal.write_term-q-requires
write_term-q-requires c =
    let co = coded_of c.args.ws.now c.args.val.now c.args.cw.now c.args.counts in (
      c.requires.1,
      room_first (root_image co.nodes (command_word co c.args.i 2)) (room_as (rest_variable co c.args.i (command_word co c.args.i 3) c.if-target-eq0.true) (room_next c.write_short-p.ensures (room_as (set_image co c.args.i) c.requires.2))),
    )

pub write_term-requires : goal.write_term-requires
write_term-requires c =
    let co = coded_of c.args.ws.now c.args.val.now c.args.cw.now c.args.counts in (
      c.requires.1,
      room_next c.write_term-q.ensures (room_as (rest_variable co c.args.i (command_word co c.args.i 3) c.if-target-eq0.true) (room_next c.write_short-p.ensures (room_as (set_image co c.args.i) c.requires.2))),
    )

pub returns-then-target-eq0 : goal.returns-then-target-eq0
returns-then-target-eq0 c =
    let co = coded_of c.args.ws.now c.args.val.now c.args.cw.now c.args.counts in
    stored_as (set_image co c.args.i) (stored_on c.write_short-p.ensures (stored_as (rest_variable co c.args.i (command_word co c.args.i 3) c.if-target-eq0.true) (stored_on {a = root_image co.nodes (command_word co c.args.i 1)} {b = root_image co.nodes (command_word co c.args.i 2)} c.write_term-q.ensures c.write_term.ensures)))

pub write_term-requires-2 : goal.write_term-requires-2
write_term-requires-2 c =
    let co = coded_of c.args.ws.now c.args.val.now c.args.cw.now c.args.counts in (
      c.requires.1,
      room_as (rest_other co c.args.i (command_word co c.args.i 3) c.if-target-eq0.false) (room_next c.write_short-p.ensures (room_as (set_image co c.args.i) c.requires.2)),
    )

pub returns : goal.returns
returns c =
    let co = coded_of c.args.ws.now c.args.val.now c.args.cw.now c.args.counts in
    stored_as (set_image co c.args.i) (stored_on c.write_short-p.ensures (stored_as (rest_other co c.args.i (command_word co c.args.i 3) c.if-target-eq0.false) c.write_term-2.ensures))
