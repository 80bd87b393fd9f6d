-- The image of a script record, whatever its arrays hold, and its judgement in the place of 2 to 5 (01, Script). Assumes nothing: these are definitions.
-- What is not there is written as a code that no image may have: 19 for a node, 6 for a command, 3 for a block.
use Rattle.std.specs.Prelude.{Bool, true, cond, ◌&&◌, List, [], ◌++◌, ℕ, zero, suc, ◌+◌, ltb, leb}
use Rattle.model.specs.Limits.{block_limit, command_limit, node_limit}
use Rattle.model.specs.Refusal.{over_limit}
use Rattle.model.specs.declared.Kind.{Kind}
use Rattle.model.specs.declared.Kind.TheVariants.{Two, One, Imm16, Imm32, Other}
use Rattle.model.specs.Script.{Block}
use Rattle.model.specs.Reading.{Answer, refused, word, zig}
use Rattle.model.specs.Image.{kind_of, read_within}
use Rattle.model.specs.Memory.{Nodes, Coded, Memory, code_at, left_at, right_at, value_at, command_word, block_word}

-- what follows the code of node i, by its kind; f gives the image of an operand, which has to be below i
unfoldable pub follow_image : (ℕ → ℕ → List ℕ) → Nodes → ℕ → Kind → List ℕ
follow_image f ns i (Two o) = f i (left_at ns i) ++ f i (right_at ns i)
follow_image f ns i (One o) = f i (left_at ns i)
follow_image f ns i Imm16 = word (zig (value_at ns i))
follow_image f ns i Imm32 = word (zig (value_at ns i))
follow_image f ns i Other = []

-- node i, which has to be below b, at most d levels deep
unfoldable pub node_image_to : Nodes → ℕ → ℕ → ℕ → List ℕ
node_image_to ns zero b i = word 19
node_image_to ns (suc d) b i = cond (ltb i b) (word (code_at ns i) ++ follow_image (node_image_to ns d) ns i (kind_of (code_at ns i))) (word 19)

-- each operand lies below its parent, so b levels are enough
unfoldable pub node_image : Nodes → ℕ → ℕ → List ℕ
node_image ns b i = node_image_to ns b b i

-- an expression of a command: its root has to be below the kept count
unfoldable pub root_image : Nodes → ℕ → List ℕ
root_image ns i = node_image ns ns.count i

unfoldable pub target_image : Coded → ℕ → ℕ → List ℕ
target_image co c zero = word 0 ++ root_image co.nodes (command_word co c 1)
target_image co c (suc t) = word (suc t)

unfoldable pub command_tail : Coded → ℕ → ℕ → List ℕ
command_tail co c zero = []
command_tail co c (suc zero) = word (command_word co c 3)
command_tail co c (suc (suc zero)) = target_image co c (command_word co c 3) ++ root_image co.nodes (command_word co c 2)
command_tail co c (suc (suc (suc zero))) = root_image co.nodes (command_word co c 1) ++ word (command_word co c 3)
command_tail co c (suc (suc (suc (suc zero)))) = word (command_word co c 3)
command_tail co c (suc (suc (suc (suc (suc k))))) = []

unfoldable pub command_image_in : Coded → ℕ → List ℕ
command_image_in co c = cond (ltb c co.count) (word (command_word co c 0) ++ command_tail co c (command_word co c 0)) (word 6)

-- h commands from command c on
unfoldable pub commands_image_in : Coded → ℕ → ℕ → List ℕ
commands_image_in co zero c = []
commands_image_in co (suc h) c = command_image_in co c ++ commands_image_in co h (suc c)

unfoldable pub block_tail : Memory → ℕ → ℕ → List ℕ
block_tail m b zero = []
block_tail m b (suc zero) = word (block_word m b 2) ++ (commands_image_in m.coded (block_word m b 2) (block_word m b 1) ++ (word (block_word m b 3) ++ word (block_word m b 4)))
block_tail m b (suc (suc k)) = []

-- h blocks from block b on
unfoldable pub blocks_image_in : Memory → ℕ → ℕ → List ℕ
blocks_image_in m zero b = []
blocks_image_in m (suc h) b = (word (block_word m b 0) ++ block_tail m b (block_word m b 0)) ++ blocks_image_in m h (suc b)

unfoldable pub record_image : Memory → List ℕ
record_image m = word m.count ++ blocks_image_in m m.count 0

-- ---- the kept counts: "a limit passed, by its blocks or its kept counts, or a kept count under what its blocks hold, 3"

-- of command c, the root in word j is below the kept count of nodes
abbrev pub root_kept : Coded → ℕ → ℕ → Bool
root_kept co c j = ltb (command_word co c j) co.nodes.count

-- a Set holds its value, and its target where that is a Variable
unfoldable pub set_kept : Coded → ℕ → ℕ → Bool
set_kept co c zero = root_kept co c 1 && root_kept co c 2
set_kept co c (suc t) = root_kept co c 2

-- the expressions that the image of a command with this code has
unfoldable pub roots_kept : Coded → ℕ → ℕ → Bool
roots_kept co c zero = true
roots_kept co c (suc zero) = true
roots_kept co c (suc (suc zero)) = set_kept co c (command_word co c 3)
roots_kept co c (suc (suc (suc zero))) = root_kept co c 1
roots_kept co c (suc (suc (suc (suc k)))) = true

unfoldable pub command_kept : Coded → ℕ → Bool
command_kept co c = ltb c co.count && roots_kept co c (command_word co c 0)

-- h commands from command c on
unfoldable pub commands_kept : Coded → ℕ → ℕ → Bool
commands_kept co zero c = true
commands_kept co (suc h) c = command_kept co c && commands_kept co h (suc c)

-- a block that is not code holds nothing
unfoldable pub block_kept : Memory → ℕ → ℕ → Bool
block_kept m b zero = true
block_kept m b (suc zero) = commands_kept m.coded (block_word m b 2) (block_word m b 1)
block_kept m b (suc (suc k)) = true

-- h blocks from block b on
unfoldable pub blocks_kept : Memory → ℕ → ℕ → Bool
blocks_kept m zero b = true
blocks_kept m (suc h) b = block_kept m b (block_word m b 0) && blocks_kept m h (suc b)

-- no block holds a command, and no command the root of an expression, at or past the kept count
unfoldable pub held_kept : Memory → Bool
held_kept m = blocks_kept m m.count 0

unfoldable pub limits_kept : Memory → Bool
limits_kept m = leb m.count block_limit && (leb m.coded.count command_limit && leb m.coded.nodes.count node_limit)

unfoldable pub kept_ok : Memory → Bool
kept_ok m = limits_kept m && held_kept m

-- the kept counts first, then block by block as its image would be; the kept counts are the limits of the walk, so that shared nodes and commands pass them too
unfoldable pub judged_record : Memory → Answer (List Block)
judged_record m = cond (kept_ok m) (read_within m.coded.count m.coded.nodes.count (record_image m)) (refused over_limit)
