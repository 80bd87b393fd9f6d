-- What the functions that append commands and blocks promise. The counts follow from the rest. Assumes nothing: these are definitions.
use Rattle.std.specs.Prelude.{◌≡◌, List, ◌+◌, length}
use Rattle.model.specs.Script.{Command, Block, commands_nodes, block_commands, block_nodes, sum_of}
use Rattle.model.specs.Memory.{Coded, Memory, put_commands, put_blocks}

pub record PutCommands (s : Coded) (cs : List Command) (t : Coded) : Type 0 where
  pub is : t ≡ put_commands s cs
  pub counted : t.count ≡ s.count + length cs
  pub nodes_counted : t.nodes.count ≡ s.nodes.count + commands_nodes cs

pub record PutBlocks (s : Memory) (xs : List Block) (t : Memory) : Type 0 where
  pub is : t ≡ put_blocks s xs
  pub counted : t.count ≡ s.count + length xs
  pub commands_counted : t.coded.count ≡ s.coded.count + sum_of block_commands xs
  pub nodes_counted : t.coded.nodes.count ≡ s.coded.nodes.count + sum_of block_nodes xs
