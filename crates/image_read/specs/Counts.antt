-- Counts: what is put after a script counts as many nodes, commands and blocks as it holds. Assumes nothing.
use Rattle.std.specs.Prelude.{◌≡◌, refl, List, [], ◌∷◌, ◌+◌, length}
use Rattle.std.proofs.Common.{arith}
use Rattle.model.specs.Script.{Command, return, goto, set_variable, set_other, if_else, end_if, other_command, command_nodes, commands_nodes, Block, placeholder, code, data_block, block_nodes, block_commands, sum_of}
use Rattle.model.specs.Memory.{put_expr, Coded, put_command, put_commands, Memory, put_block, put_blocks}
use Rattle.memory.specs.PutNodes.{count_put}

pub nodes_command : (s : Coded) (c : Command) → (put_command s c).nodes.count ≡ s.nodes.count + command_nodes c
unfolding put_command command_nodes
nodes_command s return = omega arith
nodes_command s (goto k) = omega arith
nodes_command s (set_variable t v) = omega (arith, count_put s.nodes t, count_put (put_expr s.nodes t) v)
nodes_command s (set_other v) = count_put s.nodes v
nodes_command s (if_else e k) = count_put s.nodes e
nodes_command s (end_if k) = omega arith
nodes_command s other_command = omega arith

pub held_command : (s : Coded) (c : Command) → (put_command s c).count ≡ s.count + 1
unfolding put_command
held_command s return = refl
held_command s (goto k) = refl
held_command s (set_variable t v) = refl
held_command s (set_other v) = refl
held_command s (if_else e k) = refl
held_command s (end_if k) = refl
held_command s other_command = refl

pub nodes_commands : (s : Coded) (cs : List Command) → (put_commands s cs).nodes.count ≡ s.nodes.count + commands_nodes cs
unfolding put_commands commands_nodes
nodes_commands s [] = omega arith
nodes_commands s (c ∷ cs) = omega (arith, nodes_commands (put_command s c) cs, nodes_command s c)

pub held_commands : (s : Coded) (cs : List Command) → (put_commands s cs).count ≡ s.count + length cs
unfolding put_commands
held_commands s [] = omega arith
held_commands s (c ∷ cs) = omega (arith, held_commands (put_command s c) cs, held_command s c)

pub nodes_block : (s : Memory) (b : Block) → (put_block s b).coded.nodes.count ≡ s.coded.nodes.count + block_nodes b
unfolding put_block block_nodes
nodes_block s placeholder = omega arith
nodes_block s (code cs x y) = nodes_commands s.coded cs
nodes_block s data_block = omega arith

pub held_block : (s : Memory) (b : Block) → (put_block s b).coded.count ≡ s.coded.count + block_commands b
unfolding put_block block_commands
held_block s placeholder = omega arith
held_block s (code cs x y) = held_commands s.coded cs
held_block s data_block = omega arith

more_block : (s : Memory) (b : Block) → (put_block s b).count ≡ s.count + 1
unfolding put_block
more_block s placeholder = refl
more_block s (code cs x y) = refl
more_block s data_block = refl

-- the kept counts of a script whose blocks were put one after the other
pub nodes_blocks : (s : Memory) (bs : List Block) → (put_blocks s bs).coded.nodes.count ≡ s.coded.nodes.count + sum_of block_nodes bs
unfolding put_blocks
nodes_blocks s [] = omega arith
nodes_blocks s (b ∷ bs) = omega (arith, nodes_blocks (put_block s b) bs, nodes_block s b)

pub held_blocks : (s : Memory) (bs : List Block) → (put_blocks s bs).coded.count ≡ s.coded.count + sum_of block_commands bs
unfolding put_blocks
held_blocks s [] = omega arith
held_blocks s (b ∷ bs) = omega (arith, held_blocks (put_block s b) bs, held_block s b)

pub count_blocks : (s : Memory) (bs : List Block) → (put_blocks s bs).count ≡ s.count + length bs
unfolding put_blocks
count_blocks s [] = omega arith
count_blocks s (b ∷ bs) = omega (arith, count_blocks (put_block s b) bs, more_block s b)
