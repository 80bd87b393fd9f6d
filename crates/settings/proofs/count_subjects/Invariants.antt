-- What is counted and what is left are all. Assumes nothing.
use Rattle.std.proofs.Common.{take}
use Rattle.settings.specs.Counting.{Counted}
use Rattle.settings.proofs.count_subjects.Given as goal

abbrev pub invariant-loop-i : goal.invariant-loop-i
invariant-loop-i l = Counted l.one l.own (take l.len l.row) l.i l.n
