-- The block of one command.
use Rattle.std.proofs.Common.{refl}
use Rattle.compile_emit.specs.BlockLaws.{block_put, next_put, none_put, return_put}
use Rattle.compile_emit.proofs.push_return.Goals as goal

pub returns : goal.returns
returns c = block_put (next_put (return_put c.push_command.ensures) none_put) c.push_block.ensures refl refl
