-- What counting the nodes promises: where the sum has room, reading is fine and comes to it. Assumes nothing: these are definitions.
use Rattle.std.specs.Prelude.{◌≡◌, List, [], ℕ, ◌+◌, ◌*◌, ◌≤◌, ◌<◌, ℤ, length, get_or, Ok}
use Rattle.model.specs.Limits.{wide16, node_limit}
use Rattle.memory.specs.declared.Counts.{Counts}
use Rattle.model.specs.Reading.{Answer, got}
use Rattle.model.specs.Script.{Block, command_nodes, commands_nodes}
use Rattle.model.specs.Image.{command_of, read_command, read_commands, block_of, read_block}
use Rattle.model.specs.Memory.{Memory}
use Rattle.model.specs.Record.{command_tail, command_image_in, commands_image_in, block_tail, judged_record}
use Rattle.memory.specs.View.{coded_of, memory_of}
use Rattle.judge_terms.specs.Told.{Told, limits_by}
use Rattle.judge_record.specs.Stages.{KeptBy, Staged, block_image_in}
use Rattle.judge_trees.specs.Trees.{Trees, Shallow, Reads}
use Rattle.judge_plain.specs.Chain.{Chain}

-- ---- what callers have to bring

-- kept counts within their limits, and a table with a word for each node
pub record Ready (k : Counts) (t : List ℕ) : Type 0 where
  pub kept : KeptBy k
  pub long : k.nodes ≤ length t

-- ---- what they get

-- f reads w fine, with r nodes on top of n; how many bytes that takes is not kept
pub record Passes {A : Type 0} (f : List ℕ → Answer A) (size : A → ℕ) (w : List ℕ) (l x n at r : ℕ) : Type 0 where
  pub to : ℕ
  pub told : Told f size w l x n at (Ok (n + r, to))

-- the same of a block, with h commands on top of m
pub record Stands (f : List ℕ → Answer Block) (w : List ℕ) (l c x n m at r h : ℕ) : Type 0 where
  pub to : ℕ
  pub staged : Staged f w l c x n m at (Ok (n + r, m + h, to))

-- an expression whose root is node i: fewer than 64 nodes have no 65 levels
pub record TermCount (t : List ℕ) (l i r : ℕ) : Type 0 where
  pub few : r < wide16
  pub narrow : r < 64 → (ws : List ℕ) (vs : List ℤ) → Trees ws vs t l → Shallow ws 64 i
  pub reads : (ws : List ℕ) (vs : List ℤ) → Trees ws vs t l → Shallow ws 64 i → (n at : ℕ) → n + r ≤ l → Reads ws vs l l i n at 0 r

-- the expressions after the code c of command i have at most 64 levels
pub record Levels (ws cw : List ℕ) (i c : ℕ) : Type 0 where
  pub target : c ≡ 2 → get_or cw (4 * i + 3) 0 ≡ 0 → Shallow ws 64 (get_or cw (4 * i + 1) 0)
  pub value : c ≡ 2 → Shallow ws 64 (get_or cw (4 * i + 2) 0)
  pub condition : c ≡ 3 → Shallow ws 64 (get_or cw (4 * i + 1) 0)

-- block k is there, or too many
pub record Named (k b r : ℕ) : Type 0 where
  pub few : r ≤ 40000
  pub none : r ≤ node_limit → r ≡ 0
  pub there : r ≤ node_limit → k < b

-- what follows the code c of command i
pub record TailCount (t cw : List ℕ) (k : Counts) (i c r : ℕ) : Type 0 where
  pub few : r ≤ 131072
  pub narrow : r < 64 → (ws : List ℕ) (vs : List ℤ) → Trees ws vs t k.nodes → Levels ws cw i c
  pub reads : (ws : List ℕ) (vs : List ℤ) → Trees ws vs t k.nodes → Levels ws cw i c → (n at : ℕ) → n + r ≤ k.nodes
      → Passes (command_of (limits_by k) n c) command_nodes (command_tail (coded_of ws vs cw k) i c) k.nodes 3 n at r

-- the trees are told, and the expressions of all commands have at most 64 levels
pub record Given (ws : List ℕ) (vs : List ℤ) (t cw : List ℕ) (k : Counts) : Type 0 where
  pub trees : Trees ws vs t k.nodes
  pub low : (j : ℕ) → j < k.commands → Levels ws cw j (get_or cw (4 * j) 0)

-- command i
pub record CommandCount (t cw : List ℕ) (k : Counts) (i r : ℕ) : Type 0 where
  pub few : r ≤ 131072
  pub narrow : r < 64 → (ws : List ℕ) (vs : List ℤ) → Trees ws vs t k.nodes → Levels ws cw i (get_or cw (4 * i) 0)
  pub reads : (ws : List ℕ) (vs : List ℤ) → Given ws vs t cw k → (n at : ℕ) → n + r ≤ k.nodes
      → Passes (read_command (limits_by k) n) command_nodes (command_image_in (coded_of ws vs cw k) i) k.nodes 4 n at r

-- the expressions of command i have at most 64 levels, by what the table tells
pub record LowCommand (ws t cw : List ℕ) (k : Counts) (i : ℕ) : Type 0 where
  pub levels : (vs : List ℤ) → Trees ws vs t k.nodes → Levels ws cw i (get_or cw (4 * i) 0)

-- the same of the first i commands
pub record LowCommands (ws t cw : List ℕ) (k : Counts) (i : ℕ) : Type 0 where
  pub each : (j : ℕ) → j < i → LowCommand ws t cw k j

-- command i is counted: its nodes come on top of n
pub record Adds (t cw : List ℕ) (k : Counts) (i n n' : ℕ) : Type 0 where
  pub nodes : ℕ
  pub count : CommandCount t cw k i nodes
  pub sum : n' ≡ n + nodes

-- the first i commands, of which none has more than w nodes
pub record SumCount (t cw : List ℕ) (k : Counts) (i r w : ℕ) : Type 0 where
  pub few : r ≤ 40000 * i
  pub sums : Chain (Adds t cw k) i r
  pub narrow : w < 64 → (ws : List ℕ) → LowCommands ws t cw k i

-- h commands from the first on
pub record CommandsCount (t cw : List ℕ) (k : Counts) (first h r : ℕ) : Type 0 where
  pub reads : (ws : List ℕ) (vs : List ℤ) → Given ws vs t cw k → (n at : ℕ) → n + r ≤ k.nodes
      → Passes (read_commands (limits_by k) h n) commands_nodes (commands_image_in (coded_of ws vs cw k) h first) k.nodes (4 * h) n at r

-- what follows the kind of block i, which is code
pub record CodeCount (t cw bw : List ℕ) (k : Counts) (i r : ℕ) : Type 0 where
  pub reads : (ws : List ℕ) (vs : List ℤ) → Given ws vs t cw k → (n m at : ℕ) → n + r ≤ k.nodes → m + get_or bw (5 * i + 2) 0 ≤ k.commands
      → Stands (block_of (limits_by k) m n 1) (block_tail (memory_of ws vs cw bw k) i 1) k.nodes k.commands 9 n m at r (get_or bw (5 * i + 2) 0)

-- the commands of block i: none where it is not code
pub record Held (bw : List ℕ) (i h : ℕ) : Type 0 where
  pub code : get_or bw (5 * i) 0 ≡ 1 → h ≡ get_or bw (5 * i + 2) 0
  pub none : (get_or bw (5 * i) 0 ≡ 1 → ⊥) → h ≡ 0

-- block i
pub record BlockCount (t cw bw : List ℕ) (k : Counts) (i r : ℕ) : Type 0 where
  pub reads : (ws : List ℕ) (vs : List ℤ) → Given ws vs t cw k → (n m h at : ℕ) → Held bw i h → n + r ≤ k.nodes → m + h ≤ k.commands
      → Stands (read_block (limits_by k) m n) (block_image_in (memory_of ws vs cw bw k) i) k.nodes k.commands 10 n m at r h

-- the links of block i are there, or none
pub record Linked (bw : List ℕ) (k : Counts) (i : ℕ) : Type 0 where
  pub next : get_or bw (5 * i + 3) 0 ≤ k.blocks
  pub else : get_or bw (5 * i + 4) 0 ≤ k.blocks

-- where the commands of code block i end, those of the blocks before it ending at e
pub data Ends (bw : List ℕ) (i e e' : ℕ) : Type 0 where
  none : get_or bw (5 * i + 2) 0 ≡ 0 → e' ≡ e → Ends bw i e e'
  some : e ≤ get_or bw (5 * i + 1) 0 → e' ≡ get_or bw (5 * i + 1) 0 + get_or bw (5 * i + 2) 0 → Ends bw i e e'

-- the same of a block of any kind that is fine but for its commands
pub data Follows (bw : List ℕ) (k : Counts) (i e e' : ℕ) : Type 0 where
  placeholder : get_or bw (5 * i) 0 ≡ 0 → e' ≡ e → Follows bw k i e e'
  code : get_or bw (5 * i) 0 ≡ 1 → Linked bw k i → Ends bw i e e' → Follows bw k i e e'
  data_block : get_or bw (5 * i) 0 ≡ 2 → e' ≡ e → Follows bw k i e e'

-- and all those commands are kept
pub record Within (bw : List ℕ) (k : Counts) (i e e' : ℕ) : Type 0 where
  pub follows : Follows bw k i e e'
  pub kept : e' ≤ k.commands

-- no command is held by two blocks, and every block is fine but for its commands
pub record Apart (bw : List ℕ) (k : Counts) : Type 0 where
  pub end : ℕ
  pub ends : Chain (Within bw k) k.blocks end

-- a record that is judged fine
pub record Plain (m : Memory) : Type 0 where
  pub blocks : List Block
  pub judged : judged_record m ≡ got blocks []
