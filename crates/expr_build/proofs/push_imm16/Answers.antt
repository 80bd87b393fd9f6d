use mir.Syntax.{w32}
use mir.Facts.{to_z_pos}
use Rattle.expr_build.specs.Laws.{imm16_put}
use native.Mathlib.Omega.{arith}
use Rattle.expr_build.proofs.push_imm16.Goals as goal

pub returns : goal.returns
returns c = imm16_put (rw (c.from.ensures, to_z_pos w32 {n = c.args.k} (omega (arith, c.requires))) at c.push_node.ensures)
