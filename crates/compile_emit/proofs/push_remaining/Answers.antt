-- The block of a Set and an If.
use Rattle.std.proofs.Common.{add-one, arith}
use Rattle.compile_emit.specs.BlockLaws.{block_put, two_commands, if_put}
use Rattle.compile_emit.proofs.push_remaining.Goals as goal

pub returns : goal.returns
returns c =
    block_put (two_commands (rw (c.held_before.ensures.0, c.held_before.ensures.1) at c.emit_left-left.ensures) (if_put c.push_below-nodes.ensures c.push_command.ensures))
    c.push_block.ensures (omega arith) (add-one c.args.set.0)
