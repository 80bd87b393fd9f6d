-- The digits up to p are read and make n.
use Rattle.std.proofs.Common.{◌-◌, length}
use Rattle.text_read.specs.Faults.{fault_number}
use Rattle.text_read.specs.Numbers.{Digits}
use Rattle.text_read.proofs.read_natural.Given as goal

abbrev pub invariant-loop-d : goal.invariant-loop-d
invariant-loop-d l = Digits l.s l.at (fault_number l.e) l.bound l.n l.p

abbrev pub decreases-loop-d : goal.decreases-loop-d
decreases-loop-d l = length l.s - l.p
