-- The record behind the lent arrays: one view for every contract. Assumes nothing: these are definitions.
use Rattle.std.specs.Prelude.{List, ℕ, ℤ}
use Rattle.model.specs.Memory.{Nodes, Coded, Memory, nodes_in, coded_in, memory_in}
use Rattle.model.specs.RecordCalls.{Born}
use Rattle.memory.specs.declared.Counts.{Counts}

-- with its kept counts
abbrev pub nodes_of : List ℕ → List ℤ → Counts → Nodes
nodes_of ws vs k = nodes_in ws vs k.nodes

abbrev pub coded_of : List ℕ → List ℤ → List ℕ → Counts → Coded
coded_of ws vs cw k = coded_in ws vs cw k.nodes k.commands

abbrev pub memory_of : List ℕ → List ℤ → List ℕ → List ℕ → Counts → Memory
memory_of ws vs cw bw k = memory_in ws vs cw bw k.nodes k.commands k.blocks

-- with where each block came from, and the count of accepted compiles (02, A.2)
abbrev pub born_of : List ℕ → List ℤ → List ℕ → List ℕ → Counts → List ℕ → ℕ → Born
born_of ws vs cw bw k births compiles = record { memory = memory_of ws vs cw bw k; births = births; compiles = compiles }

-- with nothing in it, as an image is read into
abbrev pub empty_in : List ℕ → List ℤ → List ℕ → List ℕ → Memory
empty_in ws vs cw bw = memory_in ws vs cw bw 0 0 0
