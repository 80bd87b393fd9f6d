use Rattle.image_numbers.specs.Stored.{stored_none, stored_as, room_as}
use Rattle.std.proofs.Common.{arith}
use Rattle.memory.specs.View.{coded_of}
use Rattle.image_write.specs.Commands.{goto_image, end_if_image, bare_image}
use Rattle.image_write.proofs.write_tail.Goals as goal

pub write_short-requires : goal.write_short-requires
write_short-requires c = room_as (goto_image (coded_of c.args.ws.now c.args.val.now c.args.cw.now c.args.counts) c.args.i c.args.k c.in-1.is) c.requires.2

pub write_short-requires-in-4 : goal.write_short-requires-in-4
write_short-requires-in-4 c = room_as (end_if_image (coded_of c.args.ws.now c.args.val.now c.args.cw.now c.args.counts) c.args.i c.args.k c.in-4.is) c.requires.2

pub returns-in-1 : goal.returns-in-1
returns-in-1 c = stored_as (goto_image (coded_of c.args.ws.now c.args.val.now c.args.cw.now c.args.counts) c.args.i c.args.k c.in-1.is) c.write_short.ensures

pub returns-in-4 : goal.returns-in-4
returns-in-4 c = stored_as (end_if_image (coded_of c.args.ws.now c.args.val.now c.args.cw.now c.args.counts) c.args.i c.args.k c.in-4.is) c.write_short-in-4.ensures

pub returns-in_default : goal.returns-in_default
returns-in_default c = stored_as (bare_image (coded_of c.args.ws.now c.args.val.now c.args.cw.now c.args.counts) c.args.i c.args.k (omega arith) (omega arith) (omega arith) (omega arith)) stored_none
