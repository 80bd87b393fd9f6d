use Rattle.std.proofs.Common.{get_or, pos}
use Rattle.model.specs.Expr.{apply2}
use Rattle.lanes_expr.specs.Each.{Each}
use Rattle.lanes_expr.proofs.two_each.Given as goal

abbrev pub invariant-loop-j : goal.invariant-loop-j
invariant-loop-j l = Each (pos 0) (λ j x. apply2 l.o x (get_or l.right j (pos 0))) l.j l.initial.out l.out
