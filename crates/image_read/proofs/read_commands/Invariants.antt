-- Those before i were read, the others are left.
use Rattle.std.proofs.Common.{◌+◌, ◌-◌, drop}
use Rattle.model.specs.Image.{read_commands}
use Rattle.model.specs.Memory.{coded_in}
use Rattle.image_read.specs.Told.{limits_of}
use Rattle.image_read.specs.CommandLoop.{CommandsPart}
use Rattle.image_read.proofs.read_commands.Given as goal

abbrev pub invariant-loop-i : goal.invariant-loop-i
invariant-loop-i l =
    CommandsPart
    l.s (coded_in l.fn.ws l.fn.val l.fn.cw l.n l.m) (limits_of l.blocks) (read_commands (limits_of l.blocks) l.count l.n (drop l.at l.s)) (l.count - l.i) l.nodes l.p (coded_in l.ws l.val l.cw l.nodes (l.m + l.i))
