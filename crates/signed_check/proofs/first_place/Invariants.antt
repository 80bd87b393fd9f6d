-- No code passed is such a reason. Assumes nothing.
use Rattle.std.proofs.Common.{take}
use Rattle.signed_check.specs.Answer.{reason_number}
use Rattle.signed_check.specs.Codes.{Passed, concerns_code}
use Rattle.signed_check.proofs.first_place.Given as goal

abbrev pub invariant-loop-i : goal.invariant-loop-i
invariant-loop-i l = Passed (concerns_code (reason_number l.reason) l.own (take l.n l.row)) (take l.n l.row) l.i
