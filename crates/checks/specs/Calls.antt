-- The save from its lent slices, and a record from its blocks. Assumes nothing: these are definitions.
use Rattle.std.specs.Prelude.{List, ℕ, ℤ}
use Rattle.model.specs.Save.{Save}
use Rattle.model.specs.Memory.{Coded, Memory}

abbrev pub save_of : List ℤ → List ℕ → List ℕ → List ℤ → List ℤ → Save
save_of items atcs flags times variables = record { items = items; atcs = atcs; flags = flags; times = times; variables = variables }

-- a record with these blocks, whatever its commands
abbrev pub blocks_over : Coded → List ℕ → ℕ → Memory
blocks_over co bw b = record { coded = co; words = bw; count = b }
