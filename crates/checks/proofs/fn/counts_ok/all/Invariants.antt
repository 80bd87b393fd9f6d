-- A number of 16 bits is a count where it is not below 0. Assumes nothing.
use Rattle.std.proofs.Common.{◌≡◌}
use Rattle.model.specs.Sheet.{is_count}
use Rattle.checks.proofs.fn.counts_ok.all.Given as goal

abbrev pub ensures : goal.ensures
ensures l r = r ≡ is_count l.x.entry.now
