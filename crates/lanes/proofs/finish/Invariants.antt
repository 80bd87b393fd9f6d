-- The lanes passed have their last answer.
use Rattle.std.proofs.Common.{get_or}
use Rattle.lanes_expr.specs.Each.{Each}
use Rattle.lanes.specs.Walks.{last_answer}
use Rattle.lanes.proofs.finish.Given as goal

abbrev pub invariant-loop-l : goal.invariant-loop-l
invariant-loop-l l = Each 0 (λ i a. last_answer (get_or l.at i 0) a) l.l l.initial.answers l.answers
