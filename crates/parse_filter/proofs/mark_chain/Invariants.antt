-- `parse_filter::mark_chain` meets its contract: what is marked from here on completes what was marked from the start on; the condition's number falls. Assumes nothing.
use Rattle.parse_filter.proofs.Walking.{Walking}
use Rattle.parse_filter.proofs.mark_chain.Given as goal

abbrev pub invariant-loop-c : goal.invariant-loop-c
invariant-loop-c l = Walking l.companions l.cells l.list l.initial.seen l.initial.alive l.first l.below l.initial.a l.seen l.alive l.a l.c

abbrev pub decreases-loop-c : goal.decreases-loop-c
decreases-loop-c l = l.c
