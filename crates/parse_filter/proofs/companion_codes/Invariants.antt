-- `parse_filter::companion_codes` meets its contract: the codes of the words so far are the set; the measure is how many words are left. Assumes nothing.
use Rattle.parse_filter.proofs.Sifting.{Coding}
use Rattle.parse_filter.proofs.companion_codes.Given as goal

abbrev pub invariant-loop-i : goal.invariant-loop-i
invariant-loop-i l = Coding l.keys l.companions l.alive l.codes l.n l.len l.i
