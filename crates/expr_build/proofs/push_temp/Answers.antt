use Rattle.model.specs.Expr.{size}
use Rattle.expr_negate.specs.InPlace.{one_put}
use borrow.Author.Rules.{rules}
use Rattle.expr_build.proofs.push_temp.Goals as goal

pub overflow_sub-n1 : goal.overflow_sub-n1
unfolding size
overflow_sub-n1 c = search rules

pub push_one-requires : goal.push_one-requires
unfolding size
push_one-requires c = search rules

pub returns : goal.returns
returns c = one_put c.push_imm16-n1.ensures c.push_one.ensures
