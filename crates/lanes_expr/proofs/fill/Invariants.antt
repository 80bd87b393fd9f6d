use Rattle.std.proofs.Common.{pos}
use Rattle.lanes_expr.specs.Each.{Each}
use Rattle.lanes_expr.proofs.fill.Given as goal

abbrev pub invariant-loop-j : goal.invariant-loop-j
invariant-loop-j l = Each (pos 0) (λ _ _. l.z) l.j l.initial.out l.out
