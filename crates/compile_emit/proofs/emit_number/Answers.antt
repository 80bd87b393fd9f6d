-- The two numbers, then the Set.
use Rattle.std.proofs.Common.{w32}
use Rattle.std.proofs.Math.Facts.{to_z-of_z}
use Rattle.expr_build.specs.Laws.{imm_put}
use Rattle.compile_emit.specs.BlockLaws.{set_put}
use Rattle.compile_emit.proofs.emit_number.Goals as goal

pub returns : goal.returns
returns c = rw c.push_set.ensures.1 (set_put c.push_imm16-target.ensures (imm_put (rw (to_z-of_z {w = w32} c.ranges.z) at c.push_imm-nodes.ensures)) c.push_set.ensures.0)
