-- The highest of the lanes passed.
use Rattle.lanes.specs.Standing.{Highest}
use Rattle.lanes.proofs.highest_below.Given as goal

abbrev pub invariant-loop-l : goal.invariant-loop-l
invariant-loop-l l = Highest l.at l.top l.l l.most
