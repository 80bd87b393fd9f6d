-- The lanes passed stand at the word and have entered nothing.
use Rattle.lanes.specs.Walks.{Begun}
use Rattle.lanes.proofs.begin.Given as goal

abbrev pub invariant-loop-l : goal.invariant-loop-l
invariant-loop-l l = Begun l.l l.word l.initial.at l.initial.entered l.at l.entered
