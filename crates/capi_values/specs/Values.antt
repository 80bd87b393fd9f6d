-- Sheets and counts by the numbers that exported calls take. Assumes nothing: these are definitions.
use Rattle.std.specs.Prelude.{ℕ}
use Rattle.memory.specs.declared.Counts.{Counts}
use Rattle.shop.specs.declared.Sheet.{Sheet}

abbrev pub counts_by : ℕ → ℕ → ℕ → Counts
counts_by n c b = record { nodes = n; commands = c; blocks = b }

abbrev pub sheet_by : ℕ → ℕ → ℕ → ℕ → Sheet
sheet_by atcs five ten fifteen = record { atcs = atcs; timer5 = record { 0 = five }; timer10 = record { 0 = ten }; timer15 = record { 0 = fifteen } }
