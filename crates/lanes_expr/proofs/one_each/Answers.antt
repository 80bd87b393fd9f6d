use Rattle.std.proofs.Common.{arith, rules}
use Rattle.lanes_expr.specs.Each.{each_more}
use Rattle.lanes_expr.proofs.one_each.Goals as goal

pub loop-j-preserved : goal.loop-j-preserved
loop-j-preserved c = each_more c.loop-j.invariant (omega arith) (search rules)
