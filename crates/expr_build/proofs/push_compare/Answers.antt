use Rattle.model.specs.Expr.{size}
use mir.Syntax.{w32}
use mir.Facts.{to_z-of_z}
use Rattle.expr_negate.specs.InPlace.{one_put}
use Rattle.expr_build.specs.Laws.{two_put, imm_put}
use borrow.Author.Rules.{rules}
use Rattle.expr_build.proofs.push_compare.Goals as goal

pub push_two-requires : goal.push_two-requires
unfolding size
push_two-requires c = search rules

pub returns : goal.returns
returns c = two_put (one_put (imm_put (rw (to_z-of_z {w = w32} c.ranges.z) at c.push_imm-n1.ensures)) c.push_one-n2.ensures) c.push_imm16-n3.ensures c.push_two.ensures
