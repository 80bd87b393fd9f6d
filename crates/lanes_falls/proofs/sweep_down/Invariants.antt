-- The sweep of what is left answers for the whole.
use Rattle.lanes_falls.specs.Sweeps.{Sweeps}
use Rattle.lanes_falls.proofs.sweep_down.Given as goal

abbrev pub invariant-loop-n : goal.invariant-loop-n
invariant-loop-n l = Sweeps l.cw l.bw l.blocks l.n l.initial.marks l.marks
