use mathlib.Core.Path.{◌∙◌}
use native.Mathlib.Omega.{arith}
use Rattle.parse_filter.proofs.entry_code.Goals as goal

pub returns-then-k-eq0 : goal.returns-then-k-eq0
returns-then-k-eq0 c = rw c.from.ensures (omega arith)

pub missing_of-requires : goal.missing_of-requires
missing_of-requires c =
    omega (arith, rw (← c.from.ensures) at c.requires.1)

pub returns-else-k-eq0 : goal.returns-else-k-eq0
returns-else-k-eq0 c = c.missing_of.ensures ∙ rw c.from.ensures (omega arith)
