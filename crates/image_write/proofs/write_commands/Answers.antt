use Rattle.std.proofs.Common.{arith}
use Rattle.memory.specs.View.{coded_of}
use Rattle.image_write.specs.Loop.{commands_pieces, go_room, go_next, go_end}
use Rattle.image_write.proofs.write_commands.Goals as goal

pub write_command-p-requires : goal.write_command-p-requires
write_command-p-requires c = (c.requires.0, go_room (commands_pieces (coded_of c.args.ws.now c.args.val.now c.args.cw.now c.args.counts)) c.args.held c.args.first c.loop-i.invariant (omega arith) (omega arith))

pub loop-i-preserved : goal.loop-i-preserved
loop-i-preserved c = go_next (commands_pieces (coded_of c.args.ws.now c.args.val.now c.args.cw.now c.args.counts)) c.args.held c.args.first c.loop-i.invariant (omega arith) (omega arith) c.write_command-p.ensures

pub returns : goal.returns
returns c = go_end (commands_pieces (coded_of c.args.ws.now c.args.val.now c.args.cw.now c.args.counts)) c.args.held c.args.first c.loop-i.invariant (omega arith)
