-- What is still to be written.
use Rattle.std.proofs.Common.{length}
use Rattle.image_write.specs.Loop.{Going}
use Rattle.slots_heading.specs.Steps.{entries_bytes}
use Rattle.slots_heading.proofs.write_atcs.Given as goal

abbrev pub invariant-loop-entry : goal.invariant-loop-entry
invariant-loop-entry l = Going (entries_bytes l.attached) (length l.attached) 0 l.fn.out l.fn.at l.entry-index l.out l.p
