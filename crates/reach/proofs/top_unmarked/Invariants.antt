-- The entries above d are marked, so that the top among d entries is the top among all.
use Rattle.std.proofs.Common.{◌≡◌, take}
use Rattle.reach.specs.Stacks.{top_of}
use Rattle.reach.proofs.top_unmarked.Given as goal

abbrev pub invariant-loop-d : goal.invariant-loop-d
invariant-loop-d l = top_of (take l.nb l.marks) l.stack l.depth ≡ top_of (take l.nb l.marks) l.stack l.d
