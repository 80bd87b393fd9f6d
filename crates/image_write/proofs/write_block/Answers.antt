use Rattle.image_numbers.specs.Stored.{stored_none, stored_on, stored_as, room_as, room_first, room_next}
use Rattle.std.proofs.Common.{◌*◌, get_or}
use Rattle.model.specs.Record.{block_tail}
use Rattle.memory.specs.View.{memory_of}
use Rattle.image_write.specs.Blocks.{block_image_lem, bare_image}
use Rattle.image_write.proofs.write_block.Goals as goal

pub write_short-p-requires : goal.write_short-p-requires
write_short-p-requires c =
    let me = memory_of c.args.ws.now c.args.val.now c.args.cw.now c.args.bw.now c.args.counts in
    room_first (block_tail me c.args.i (get_or c.args.bw.now (5 * c.args.i) 0)) (room_as (block_image_lem me c.args.i) c.requires.2)

pub write_code-requires : goal.write_code-requires
write_code-requires c = (c.requires.0, c.requires.1, rw c.if-kind-eq1.true at (room_next c.write_short-p.ensures (room_as (block_image_lem (memory_of c.args.ws.now c.args.val.now c.args.cw.now c.args.bw.now c.args.counts) c.args.i) c.requires.2)))

pub returns-then-kind-eq1 : goal.returns-then-kind-eq1
returns-then-kind-eq1 c = stored_as (block_image_lem (memory_of c.args.ws.now c.args.val.now c.args.cw.now c.args.bw.now c.args.counts) c.args.i) (stored_on c.write_short-p.ensures (rw c.if-kind-eq1.true c.write_code.ensures))

pub returns : goal.returns
returns c =
    let me = memory_of c.args.ws.now c.args.val.now c.args.cw.now c.args.bw.now c.args.counts in
    stored_as (block_image_lem me c.args.i) (stored_on c.write_short-p.ensures (stored_as (bare_image me c.args.i (get_or c.args.bw.now (5 * c.args.i) 0) c.if-kind-eq1.false) stored_none))
