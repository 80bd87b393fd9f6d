-- What is left of the commands decides, and marks the rest.
use Rattle.lanes_falls.specs.Marking.{TargetsLeft}
use Rattle.lanes_falls.proofs.targets_below.Given as goal

abbrev pub invariant-loop-i : goal.invariant-loop-i
invariant-loop-i l = TargetsLeft l.cw l.n l.fn.first l.held l.first l.i-end l.i l.initial.marks l.marks
