-- Every number read is one of 32 bits. Assumes nothing.
use Rattle.std.proofs.Common.{◌≡◌, take, true}
use Rattle.std.specs.Int.{w32}
use Rattle.std.specs.List.{list_all}
use Rattle.model.specs.Signed.{in_range}
use Rattle.checks.proofs.numbers_known.Given as goal

abbrev pub invariant-loop-x : goal.invariant-loop-x
invariant-loop-x l = list_all (in_range w32) (take l._x-index l.list) ≡ true
