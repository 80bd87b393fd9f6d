-- The block of one Set.
use Rattle.std.proofs.Common.{add-one, refl}
use Rattle.model.specs.Expr.{imm}
use Rattle.compile_emit.specs.BlockLaws.{block_put, next_put, none_put}
use Rattle.compile_emit.proofs.push_reset.Goals as goal

pub returns : goal.returns
unfolding imm
returns c = block_put (next_put (rw (c.held_before.ensures.0, c.held_before.ensures.1) at c.emit_number-cleared.ensures) none_put) c.push_block.ensures (add-one c.args.set.0) refl
