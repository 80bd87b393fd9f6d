-- D, E and N, or without requirements D and N.
use Rattle.model.specs.Expr.{imm}
use Rattle.compile_emit.specs.BlockLaws.{blocks_put}
use Rattle.compile_slots.specs.Cases.{once_none, once_some}
use Rattle.compile_slots.proofs.compile_sold.Goals as goal

pub returns-then-x-eq0 : goal.returns-then-x-eq0
unfolding imm
returns-then-x-eq0 c = rw (once_none c.args.x c.if-x-eq0.true) (blocks_put c.compile_item-k1.ensures c.compile_item.ensures)

pub returns : goal.returns
unfolding imm
returns c = rw (once_some c.args.x c.if-x-eq0.false) (blocks_put c.compile_item-k3.ensures (blocks_put c.push_if_acquired-k4.ensures c.compile_item-2.ensures))
