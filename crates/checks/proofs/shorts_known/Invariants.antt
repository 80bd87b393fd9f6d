-- Every number read is one of 16 bits. Assumes nothing.
use Rattle.std.proofs.Common.{◌≡◌, take, true}
use Rattle.std.specs.Int.{w16}
use Rattle.std.specs.List.{list_all}
use Rattle.model.specs.Signed.{in_range}
use Rattle.checks.proofs.shorts_known.Given as goal

abbrev pub invariant-loop-x : goal.invariant-loop-x
invariant-loop-x l = list_all (in_range w16) (take l._x-index l.list) ≡ true
