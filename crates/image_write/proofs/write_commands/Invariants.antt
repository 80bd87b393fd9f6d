-- Those before i were written: there is room for the others, and with them all are there.
use Rattle.model.specs.Record.{commands_image_in}
use Rattle.memory.specs.View.{coded_of}
use Rattle.image_write.specs.Loop.{Going}
use Rattle.image_write.proofs.write_commands.Given as goal

abbrev pub invariant-loop-i : goal.invariant-loop-i
invariant-loop-i l = Going (commands_image_in (coded_of l.ws l.val l.cw l.counts)) l.held l.first l.fn.out l.at l.i l.out l.p
