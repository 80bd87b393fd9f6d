-- `parse_filter::stands_on` meets its contract: what is reached from here is reached from the start; the condition's number falls. Assumes nothing.
use mathlib.Core.Path.{◌≡◌}
use Prim.Native.Nat.{◌≤◌}
use Rattle.parse_filter.specs.Chains.{reached}
use Rattle.parse_filter.proofs.stands_on.Given as goal

abbrev pub invariant-loop-c : goal.invariant-loop-c
invariant-loop-c l = (l.c ≤ l.first) × (reached l.cells l.below l.c ≡ reached l.cells l.below l.first)

abbrev pub decreases-loop-c : goal.decreases-loop-c
decreases-loop-c l = l.c
