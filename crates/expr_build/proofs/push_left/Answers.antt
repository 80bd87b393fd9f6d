use mir.Syntax.{w32}
use mir.Facts.{to_z_pos}
use Rattle.model.specs.Expr.{size}
use Rattle.expr_negate.specs.InPlace.{one_put}
use Rattle.expr_build.specs.Laws.{two_put, imm_put}
use native.Mathlib.Omega.{arith}
use borrow.Author.Rules.{rules}
use Rattle.expr_build.proofs.push_left.Goals as goal

pub push_imm-n2-requires : goal.push_imm-n2-requires
unfolding size
push_imm-n2-requires c = search rules

pub push_one-n3-requires : goal.push_one-n3-requires
unfolding size
push_one-n3-requires c = search rules

pub overflow_sub-n1 : goal.overflow_sub-n1
unfolding size
overflow_sub-n1 c = search rules

pub push_two-requires : goal.push_two-requires
unfolding size
push_two-requires c = search rules

pub returns : goal.returns
returns c = two_put (rw c.from.ensures at c.push_imm16-n1.ensures) (one_put (imm_put (rw (to_z_pos w32 {n = c.args.item.0} (omega arith)) at c.push_imm-n2.ensures)) c.push_one-n3.ensures) c.push_two.ensures
