-- The lanes before place j have their write, and no other lane has one.
use Rattle.std.proofs.Common.{◌≡◌, ℕ, ℤ, ◌<◌}
use Rattle.lanes_block.specs.Ways.{StoredAll}
use Rattle.lanes_block.proofs.store_lanes.Given as goal

abbrev pub invariant-loop-j : goal.invariant-loop-j
invariant-loop-j g l =
    (ks xs : ℕ → ℤ) → ((j : ℕ) (z : ℤ) → j < l.s → goal.K-post g l.target j z → z ≡ ks j) → ((j : ℕ) (z : ℤ) → j < l.s → goal.X-post g l.value j z → z ≡ xs j)
    → StoredAll l.lanes ks xs l.stops l.initial.vars l.j l.vars
