use mir.Syntax.{w32}
use mir.Facts.{to_z-of_z}
use Rattle.expr_negate.specs.InPlace.{one_put}
use Rattle.expr_build.specs.Laws.{imm_put}
use Rattle.expr_build.proofs.push_flag.Goals as goal

pub returns : goal.returns
returns c = one_put (imm_put (rw (to_z-of_z {w = w32} c.ranges.z) at c.push_imm-n1.ensures)) c.push_one.ensures
