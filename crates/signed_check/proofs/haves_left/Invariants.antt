-- Those of the codes passed are there, then zeros. Assumes nothing.
use Rattle.std.proofs.Common.{take}
use Rattle.signed_check.specs.Codes.{left_code}
use Rattle.signed_check.specs.Lefts.{Picked}
use Rattle.signed_check.proofs.haves_left.Given as goal

abbrev pub invariant-loop-i : goal.invariant-loop-i
invariant-loop-i l = Picked (left_code l.one l.own (take l.n l.row)) (take l.n l.row) l.out l.m l.i
