-- n requirements are read up to p, and their codes stand in the row.
use Rattle.std.proofs.Common.{◌-◌, ◌≤◌}
use Rattle.model.specs.Limits.{entry_limit}
use Rattle.text_read.specs.Lines.{Listed}
use Rattle.text_read.proofs.read_requirements.Given as goal

abbrev pub invariant-loop-row : goal.invariant-loop-row
invariant-loop-row l = record { few : l.n ≤ entry_limit; listed : Listed l.s l.at l.n l.p l.row }

abbrev pub decreases-loop-row : goal.decreases-loop-row
decreases-loop-row l = entry_limit - l.n
