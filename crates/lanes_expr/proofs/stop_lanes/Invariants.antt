use Rattle.lanes_expr.specs.Lanes.{first_of2}
use Rattle.lanes_expr.specs.Each.{Each}
use Rattle.lanes_expr.proofs.stop_lanes.Given as goal

abbrev pub invariant-loop-j : goal.invariant-loop-j
invariant-loop-j l = Each 0 (λ _ a. first_of2 a l.r) l.j l.initial.stops l.stops
