-- What reading an image promises: the script record that it leaves, or its refusal and nothing in the arrays (01, Image and printer and Refusals). Assumes nothing: these are definitions.
use Rattle.std.specs.Prelude.{Result, Ok, Err, List, ℕ, ◌*◌, ℤ, pos, replicate}
use Rattle.model.specs.Limits.{block_limit, command_limit, node_limit}
use Rattle.model.specs.Reading.{Answer, got, refused}
use Rattle.model.specs.Script.{Block}
use Rattle.model.specs.Memory.{Memory, memory_in, put_blocks}
use Rattle.memory.specs.View.{memory_of}
use Rattle.model.specs.Refusals.{refusal_number}
use Rattle.model.specs.declared.Refusal.{Refusal}
use Rattle.memory.specs.declared.Counts.{Counts}

-- a record with its kept counts, or a refusal's number and what it leaves in the arrays
pub data Outcome : Type 0 where
  held : Memory → Outcome
  nothing : ℕ → Memory → Outcome

-- three words a node, four a command, five a block: all zero
unfoldable pub cleared : Memory
cleared = memory_in (replicate (3 * node_limit) 0) (replicate node_limit (pos 0)) (replicate (4 * command_limit) 0) (replicate (5 * block_limit) 0) 0 0 0

-- the blocks that an image has, put after what there was; a refused read hands out nothing
unfoldable pub read_into : Memory → Answer (List Block) → Outcome
read_into m (got bs r) = held (put_blocks m bs)
read_into m (refused e) = nothing e cleared

-- what the program answers and leaves in its four arrays
unfoldable pub outcome : Result Counts Refusal → List ℕ → List ℤ → List ℕ → List ℕ → Outcome
outcome (Ok k) ws vs cw bw = held (memory_of ws vs cw bw k)
outcome (Err e) ws vs cw bw = nothing (refusal_number e) (memory_in ws vs cw bw 0 0 0)
