-- Timer5 has D2 and T before V.
use Rattle.model.specs.Expr.{imm}
use Rattle.compile_emit.specs.BlockLaws.{blocks_put}
use Rattle.compile_slots.proofs.compile_enable.Goals as goal

pub returns-then-x : goal.returns-then-x
unfolding imm
returns-then-x c = rw c.if-x.true (blocks_put c.compile_item-k1.ensures (blocks_put c.push_if_no_timer-k2.ensures c.push_if_missing.ensures))
