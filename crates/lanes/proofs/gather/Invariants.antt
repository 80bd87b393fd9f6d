-- The lanes passed that stand at the word are in the list.
use Rattle.std.proofs.Common.{◌≡◌, length}
use Rattle.model.specs.Limits.{most_saves}
use Rattle.lanes.specs.Standing.{Gathered}
use Rattle.lanes.proofs.gather.Given as goal

abbrev pub invariant-loop-l : goal.invariant-loop-l
invariant-loop-l l = record { long : length l.lanes ≡ most_saves; gathered : Gathered l.at l.l l.word l.lanes l.s }
