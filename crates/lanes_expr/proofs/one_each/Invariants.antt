use Rattle.std.proofs.Common.{get_or, pos}
use Rattle.expr.specs.Value.{reads}
use Rattle.lanes_expr.specs.Lanes.{apply_in}
use Rattle.lanes_expr.specs.Each.{Each}
use Rattle.lanes_expr.proofs.one_each.Given as goal

abbrev pub invariant-loop-j : goal.invariant-loop-j
invariant-loop-j l = Each (pos 0) (λ j x. apply_in l.w.items l.w.atcs (reads l.items l.atcs l.flags l.times) l.vs l.o (get_or l.ls j 0) x) l.j l.initial.xs l.xs
