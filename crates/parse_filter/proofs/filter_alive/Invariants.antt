-- `parse_filter::filter_alive` meets its contract: of the words so far those that stay come first, and the words to come are as they were. Assumes nothing.
use Rattle.parse_filter.proofs.Sifting.{Sifting}
use Rattle.parse_filter.proofs.filter_alive.Given as goal

abbrev pub invariant-loop-j : goal.invariant-loop-j
invariant-loop-j l = Sifting l.companions l.seen l.initial.alive l.n l.alive l.kept l.j
