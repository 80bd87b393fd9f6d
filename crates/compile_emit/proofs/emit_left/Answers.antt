-- Var[0] and what is left, then the Set.
use Rattle.compile_emit.specs.BlockLaws.{set_put}
use Rattle.compile_emit.proofs.emit_left.Goals as goal

pub returns : goal.returns
returns c = rw c.push_set.ensures.1 (set_put c.push_imm16-target.ensures c.push_left-nodes.ensures c.push_set.ensures.0)
