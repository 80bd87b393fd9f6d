-- The loop ends: each round leaves less of the text.
use Rattle.std.proofs.Common.{length}
use denote.Param.Always.{always_mut}
use Rattle.case_lines.proofs.run_cases.Given as goal

abbrev pub invariant-loop-rest : goal.invariant-loop-rest
invariant-loop-rest g l = always_mut g.F.FnMut l.initial.answer → always_mut g.F.FnMut l.answer

abbrev pub decreases-loop-rest : goal.decreases-loop-rest
decreases-loop-rest g l = length l.rest
