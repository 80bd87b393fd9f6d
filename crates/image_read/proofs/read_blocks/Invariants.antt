-- Those before i were read, the others are left.
use Rattle.std.proofs.Common.{◌-◌, drop}
use Rattle.model.specs.Image.{read_blocks}
use Rattle.model.specs.Memory.{memory_in}
use Rattle.image_read.specs.Told.{limits_of}
use Rattle.image_read.specs.BlockLoop.{BlocksPart}
use Rattle.image_read.proofs.read_blocks.Given as goal

abbrev pub invariant-loop-i : goal.invariant-loop-i
invariant-loop-i l =
    BlocksPart
    l.s (memory_in l.fn.ws l.fn.val l.fn.cw l.fn.bw 0 0 0) (limits_of l.count) (read_blocks (limits_of l.count) l.count 0 0 (drop l.at l.s)) (l.count - l.i) l.commands l.nodes l.p (memory_in l.ws l.val l.cw l.bw l.nodes l.commands l.i)
