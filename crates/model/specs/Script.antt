-- Commands, blocks, and the script with its kept counts (01, Script). Assumes nothing: these are definitions.
use Rattle.std.specs.Prelude.{Bool, true, false, List, [], ◌∷◌, ℕ, ◌+◌, get_or, length}
use Rattle.std.proofs.Math.Option.{Option}
use Rattle.model.specs.Expr.{Expr, size}

pub data Command : Type 0 where
  return : Command
  goto : ℕ → Command
  set_variable : Expr → Expr → Command
  set_other : Expr → Command
  if_else : Expr → ℕ → Command
  end_if : ℕ → Command
  other_command : Command

-- the contents of data stay with the host; code has commands, next, else
pub data Block : Type 0 where
  placeholder : Block
  code : List Command → Option ℕ → Option ℕ → Block
  data_block : Block

-- the counts of commands and nodes are kept: they never fall while a script is in use
pub record Script : Type 0 where
  pub blocks : List Block
  pub commands : ℕ
  pub nodes : ℕ

abbrev pub block_at : List Block → ℕ → Block
block_at bs b = get_or bs b placeholder

abbrev pub is_code : Block → Bool
is_code placeholder = false
is_code (code cs nx el) = true
is_code data_block = false

-- ---- what commands and blocks hold; a Set's target Variable is no node, its expression is

unfoldable pub command_nodes : Command → ℕ
command_nodes return = 0
command_nodes (goto k) = 0
command_nodes (set_variable t e) = size t + size e
command_nodes (set_other e) = size e
command_nodes (if_else e k) = size e
command_nodes (end_if k) = 0
command_nodes other_command = 0

unfoldable pub commands_nodes : List Command → ℕ
commands_nodes [] = 0
commands_nodes (c ∷ cs) = command_nodes c + commands_nodes cs

unfoldable pub block_nodes : Block → ℕ
block_nodes placeholder = 0
block_nodes (code cs nx el) = commands_nodes cs
block_nodes data_block = 0

unfoldable pub block_commands : Block → ℕ
block_commands placeholder = 0
block_commands (code cs nx el) = length cs
block_commands data_block = 0

abbrev pub sum_of : {A : Type 0} → (A → ℕ) → List A → ℕ
sum_of f [] = 0
sum_of f (x ∷ xs) = f x + sum_of f xs
