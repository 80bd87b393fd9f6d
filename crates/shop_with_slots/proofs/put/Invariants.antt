-- The first i places are none; then the first i of what is given lie over that.
use Rattle.std.proofs.Common.{◌≡◌, ℕ, ◌<◌, get_or}
use Rattle.shop_with_slots.proofs.Fill.{Laid}
use Rattle.shop_with_slots.proofs.put.Given as goal

abbrev pub invariant-loop-i : goal.invariant-loop-i
invariant-loop-i g l = (k : ℕ) → k < l.i → get_or l.to k l.none ≡ l.none

abbrev pub invariant-loop-i-2 : goal.invariant-loop-i-2
invariant-loop-i-2 g l = Laid l.fn.none l.from l.i l.to
