-- Those before i were written: there is room for the others, and with them all are there.
use Rattle.model.specs.Record.{blocks_image_in}
use Rattle.memory.specs.View.{memory_of}
use Rattle.image_write.specs.Loop.{Going}
use Rattle.image_write.proofs.write_blocks.Given as goal

abbrev pub invariant-loop-i : goal.invariant-loop-i
invariant-loop-i l = Going (blocks_image_in (memory_of l.ws l.val l.cw l.bw l.counts)) l.counts.blocks 0 l.fn.out l.at l.i l.out l.p
