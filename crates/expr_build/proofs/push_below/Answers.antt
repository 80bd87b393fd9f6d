use Rattle.model.specs.Expr.{size}
use Rattle.expr_build.specs.Laws.{two_put}
use borrow.Author.Rules.{rules}
use Rattle.expr_build.proofs.push_below.Goals as goal

pub push_temp-n1-requires : goal.push_temp-n1-requires
unfolding size
push_temp-n1-requires c = search rules

pub push_imm16-n2-requires : goal.push_imm16-n2-requires
unfolding size
push_imm16-n2-requires c = search rules

pub overflow_sub-n1 : goal.overflow_sub-n1
unfolding size
overflow_sub-n1 c = search rules

pub overflow_sub-n2 : goal.overflow_sub-n2
unfolding size
overflow_sub-n2 c = search rules

pub push_two-requires : goal.push_two-requires
unfolding size
push_two-requires c = search rules

pub returns : goal.returns
returns c = two_put c.push_temp-n1.ensures c.push_imm16-n2.ensures c.push_two.ensures
