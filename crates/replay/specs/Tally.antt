-- A tally counts no more than there is, so its sums fit. Assumes nothing: these are definitions.
use Rattle.std.specs.Prelude.{Bool, true, false, ◌≡◌, ℕ, ◌*◌, ◌≤◌}
use Rattle.replay.specs.declared.Tally.{Tally}

-- what a case adds to those that are as recorded
abbrev pub one : Bool → ℕ
one true = 1
one false = 0

-- over n cases, of at most 1,000 compiles each
pub record Fair (n : ℕ) (t : Tally) : Type 0 where
  pub all : t.cases ≡ n
  pub some : t.same ≤ n
  pub few : t.compiles ≤ 1000 * n
