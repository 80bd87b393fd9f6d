-- `parse_filter::clear` meets its contract: what is cleared from here on completes what was cleared from the start on; the condition's number falls. Assumes nothing.
use Rattle.parse_filter.proofs.Walking.{Clearing}
use Rattle.parse_filter.proofs.clear.Given as goal

abbrev pub invariant-loop-c : goal.invariant-loop-c
invariant-loop-c l = Clearing l.companions l.cells l.list l.initial.seen l.first l.seen l.c

abbrev pub decreases-loop-c : goal.decreases-loop-c
decreases-loop-c l = l.c
