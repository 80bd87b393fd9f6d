-- A script handed to a call: judged in the place of 2 to 5, and checks 6 and 7 (01, Script and Refusals). Assumes nothing: these are definitions.
use Rattle.std.specs.Prelude.{Bool, cond, ◌&&◌, List, [], ◌∷◌, ℕ, ltb, leb, length}
use Rattle.model.specs.Limits.{block_limit, command_limit, node_limit}
use Rattle.model.specs.Refusal.{check, first_of, over_limit, not_block, not_code}
use Rattle.model.specs.Reading.{Answer, refused, refusal_of}
use Rattle.model.specs.Script.{Block, Script, block_at, is_code, sum_of, block_commands, block_nodes}
use Rattle.model.specs.Image.{image, read_within}
use Rattle.model.specs.Sheet.{Sheet, sheet_refusal}

-- the counts of a script that was just read or built are what its blocks hold
abbrev pub counted : List Block → Script
counted bs = record { blocks = bs; commands = sum_of block_commands bs; nodes = sum_of block_nodes bs }

unfoldable pub counts_ok : Script → Bool
counts_ok sc = leb (length sc.blocks) block_limit && (leb sc.commands command_limit && leb sc.nodes node_limit)

-- kept counts within their limits, then block by block as its image would be; the kept counts are the limits of the walk, so that one under what the blocks hold is 3
unfoldable pub judged : Script → Answer (List Block)
judged sc = cond (counts_ok sc) (read_within sc.commands sc.nodes (image sc.blocks)) (refused over_limit)

abbrev pub script_refusal : Script → ℕ
script_refusal sc = refusal_of (judged sc)

-- 6, then 7
abbrev pub setup_refusal : Script → ℕ → ℕ
setup_refusal sc b = first_of (check (ltb b (length sc.blocks)) not_block ∷ check (is_code (block_at sc.blocks b)) not_code ∷ [])

-- what compile, parse and run check first, in this order: 1, 2 to 5, 6, 7. A script is judged as its image, a record in memory by a judgement of its own: j is what that answered
unfoldable pub shared_refusal : Sheet → ℕ → Script → ℕ → ℕ
shared_refusal h j sc b = first_of (sheet_refusal h ∷ j ∷ setup_refusal sc b ∷ [])

abbrev pub call_refusal : Sheet → Script → ℕ → ℕ
call_refusal h sc b = shared_refusal h (script_refusal sc) sc b
