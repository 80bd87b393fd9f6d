use Rattle.model.specs.Expr.{size}
use Rattle.expr_negate.specs.InPlace.{one_put}
use Rattle.expr_build.specs.Laws.{two_put}
use borrow.Author.Rules.{rules}
use Rattle.expr_build.proofs.push_rate.Goals as goal

pub overflow_sub-n1 : goal.overflow_sub-n1
unfolding size
overflow_sub-n1 c = search rules

pub push_one-n2-requires : goal.push_one-n2-requires
unfolding size
push_one-n2-requires c = search rules

pub push_imm16-n3-requires : goal.push_imm16-n3-requires
unfolding size
push_imm16-n3-requires c = search rules

pub push_two-requires : goal.push_two-requires
unfolding size
push_two-requires c = search rules

pub returns : goal.returns
returns c = two_put (one_put c.push_imm16-n1.ensures c.push_one-n2.ensures) c.push_imm16-n3.ensures c.push_two.ensures
