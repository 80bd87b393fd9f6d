use Rattle.std.proofs.Common.{arith}
use Rattle.memory.specs.View.{memory_of}
use Rattle.image_write.specs.Loop.{blocks_pieces, go_room, go_next, go_end}
use Rattle.image_write.proofs.write_blocks.Goals as goal

pub write_block-p-requires : goal.write_block-p-requires
write_block-p-requires c = (omega arith, c.requires.0, go_room (blocks_pieces (memory_of c.args.ws.now c.args.val.now c.args.cw.now c.args.bw.now c.args.counts)) c.args.counts.blocks 0 c.loop-i.invariant (omega arith) (omega arith))

pub loop-i-preserved : goal.loop-i-preserved
loop-i-preserved c = go_next (blocks_pieces (memory_of c.args.ws.now c.args.val.now c.args.cw.now c.args.bw.now c.args.counts)) c.args.counts.blocks 0 c.loop-i.invariant (omega arith) (omega arith) c.write_block-p.ensures

pub returns : goal.returns
returns c = go_end (blocks_pieces (memory_of c.args.ws.now c.args.val.now c.args.cw.now c.args.bw.now c.args.counts)) c.args.counts.blocks 0 c.loop-i.invariant (omega arith)
