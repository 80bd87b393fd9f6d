use Rattle.std.proofs.Common.{get_or, pos}
use Rattle.lanes_expr.specs.Lanes.{worth_in}
use Rattle.lanes_expr.specs.Each.{Each}
use Rattle.lanes_expr.proofs.same_elements.Given as goal

abbrev pub invariant-loop-j : goal.invariant-loop-j
invariant-loop-j g l = Each (pos 0) (λ j _. worth_in g.T.Element.worth l.width (get_or l.lanes j 0) l.list l.x) l.j l.initial.out l.out
