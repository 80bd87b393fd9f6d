use Rattle.std.proofs.Common.{get_or, pos}
use Rattle.lanes_expr.specs.Lanes.{first_of2, flag_stop}
use Rattle.lanes_expr.specs.Each.{Each}
use Rattle.lanes_expr.proofs.stop_outside.Given as goal

abbrev pub invariant-loop-j : goal.invariant-loop-j
invariant-loop-j l = Each 0 (λ j a. first_of2 a (flag_stop (get_or l.at j (pos 0)))) l.j l.initial.stops l.stops
