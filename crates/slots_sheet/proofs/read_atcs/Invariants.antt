-- The atcs of the first i items stand in the array, and the rest of it is as it was.
use Rattle.slots_sheet.specs.Steps.{AtcsPart}
use Rattle.slots_sheet.proofs.read_atcs.Given as goal

abbrev pub invariant-loop-i : goal.invariant-loop-i
invariant-loop-i l = AtcsPart l.s l.at l.n l.m l.fn.attached l.i l.place l.attached
