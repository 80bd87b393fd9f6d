-- A script record whose blocks can be written as an image: what they lead to is there and has codes that are known. Assumes nothing: these are definitions.
use Rattle.std.specs.Prelude.{◌≡◌, List, ℕ, zero, suc, ◌+◌, ◌≤◌, ◌<◌, ◌*◌, length}
use Rattle.model.specs.Limits.{block_limit, command_limit, node_limit}
use Rattle.model.specs.declared.Op2.{Op2}
use Rattle.model.specs.declared.Op1.{Op1}
use Rattle.model.specs.Image.{code2, code1}
use Rattle.model.specs.Script.{Block, sum_of, block_commands, block_nodes}
use Rattle.model.specs.Memory.{Nodes, Coded, Memory, code_at, left_at, right_at, command_word, block_word}

-- node i has a code that is known, and its operands, which lie below it, are well too; the values are whatever they are
pub data Well (ns : Nodes) : ℕ → Type 0 where
  well_two : {i : ℕ} (o : Op2) → code_at ns i ≡ code2 o → left_at ns i < i → Well ns (left_at ns i) → right_at ns i < i → Well ns (right_at ns i) → Well ns i
  well_one : {i : ℕ} (o : Op1) → code_at ns i ≡ code1 o → left_at ns i < i → Well ns (left_at ns i) → Well ns i
  well_imm16 : {i : ℕ} → code_at ns i ≡ 11 → Well ns i
  well_imm32 : {i : ℕ} → code_at ns i ≡ 12 → Well ns i
  well_other : {i : ℕ} → code_at ns i ≡ 18 → Well ns i

-- an expression of a command: its root is below the kept count
pub record Root (ns : Nodes) (i : ℕ) : Type 0 where
  pub low : i < ns.count
  pub well : Well ns i

-- the target of a Set, by its fourth word
unfoldable pub SoundTarget : Coded → ℕ → ℕ → Type 0
SoundTarget co c zero = Root co.nodes (command_word co c 1)
SoundTarget co c (suc zero) = Unit
SoundTarget co c (suc (suc t)) = ⊥

-- command c, by its code
unfoldable pub SoundBy : Coded → ℕ → ℕ → Type 0
SoundBy co c zero = Unit
SoundBy co c (suc zero) = Unit
SoundBy co c (suc (suc zero)) = SoundTarget co c (command_word co c 3) × Root co.nodes (command_word co c 2)
SoundBy co c (suc (suc (suc zero))) = Root co.nodes (command_word co c 1)
SoundBy co c (suc (suc (suc (suc zero)))) = Unit
SoundBy co c (suc (suc (suc (suc (suc zero))))) = Unit
SoundBy co c (suc (suc (suc (suc (suc (suc k)))))) = ⊥

pub record SoundCommand (co : Coded) (c : ℕ) : Type 0 where
  pub low : c < co.count
  pub by : SoundBy co c (command_word co c 0)

-- h commands from command f on
abbrev pub SoundCommands : Coded → ℕ → ℕ → Type 0
SoundCommands co h f = (c : ℕ) → f ≤ c → c < f + h → SoundCommand co c

-- block b, by its kind; its links are whatever they are
unfoldable pub SoundKind : Memory → ℕ → ℕ → Type 0
SoundKind m b zero = Unit
SoundKind m b (suc zero) = SoundCommands m.coded (block_word m b 2) (block_word m b 1)
SoundKind m b (suc (suc zero)) = Unit
SoundKind m b (suc (suc (suc k))) = ⊥

abbrev pub SoundBlock : Memory → ℕ → Type 0
SoundBlock m b = SoundKind m b (block_word m b 0)

pub record Sound (m : Memory) : Type 0 where
  pub block : (b : ℕ) → b < m.count → SoundBlock m b

-- ---- what appending wants: arrays of their lengths, and room in them

pub record LongNodes (ns : Nodes) : Type 0 where
  pub words : length ns.words ≡ 3 * node_limit
  pub values : length ns.values ≡ node_limit

pub record LongCoded (co : Coded) : Type 0 where
  pub nodes : LongNodes co.nodes
  pub words : length co.words ≡ 4 * command_limit

pub record Long (m : Memory) : Type 0 where
  pub coded : LongCoded m.coded
  pub words : length m.words ≡ 5 * block_limit

pub record Room (m : Memory) (xs : List Block) : Type 0 where
  pub blocks : m.count + length xs ≤ block_limit
  pub commands : m.coded.count + sum_of block_commands xs ≤ command_limit
  pub nodes : m.coded.nodes.count + sum_of block_nodes xs ≤ node_limit
