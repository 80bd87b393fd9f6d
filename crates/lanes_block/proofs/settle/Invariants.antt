-- The lanes before place j have gone their way, and no other lane has.
use Rattle.lanes_block.specs.Ways.{Settled}
use Rattle.lanes_block.proofs.settle.Given as goal

abbrev pub invariant-loop-j : goal.invariant-loop-j
invariant-loop-j l = Settled l.lanes l.exit l.out l.stops l.j l.initial.at l.initial.answers l.initial.entered l.at l.answers l.entered
