-- So many cases are tallied.
use Rattle.replay.specs.Tally.{Fair}
use Rattle.replay.proofs.parse_cases.Given as goal

abbrev pub invariant-loop : goal.invariant-loop
invariant-loop l = Fair l.counter l.t
