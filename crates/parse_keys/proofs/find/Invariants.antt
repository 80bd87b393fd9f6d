-- `parse_keys::find` meets its contract: the search stands where the code's bits lead, and the measure is how many keys lie above. Assumes nothing.
use Prim.Native.Nat.{◌-◌}
use Rattle.parse_keys.specs.Search.{Seeks}
use Rattle.parse_keys.proofs.find.Given as goal

abbrev pub invariant-loop-m : goal.invariant-loop-m
invariant-loop-m l = Seeks l.keys l.kids l.m l.code l.at l.bits

abbrev pub decreases-loop-m : goal.decreases-loop-m
decreases-loop-m l = l.m - l.at
