-- The node that is looked at falls; what is found under it is what is found under the node that was given.
use Rattle.std.proofs.Common.{List, ℤ, ◌≤◌}
use Rattle.model.specs.Limits.{node_limit}
use Rattle.parse_conditions.specs.Listing.{Under}
use Rattle.parse_conditions.proofs.under_nots.Given as goal

abbrev pub invariant-loop-o : goal.invariant-loop-o
invariant-loop-o l = (l.o.b ≤ node_limit) × ((vs : List ℤ) → Under l.ws vs l.b l.i l.neg l.o.b l.o.i l.o.neg)

abbrev pub decreases-loop-o : goal.decreases-loop-o
decreases-loop-o l = l.o.b
