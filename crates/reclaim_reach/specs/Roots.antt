-- Roots that pass the test of a reclaim are each one of the blocks. Assumes nothing.
use Rattle.std.specs.Prelude.{◌≡◌, true, List, [], ◌∷◌, ℕ, ◌<◌, ltb, leb, length}
use Rattle.std.proofs.Common.{ltb-true}
use Rattle.model.specs.Limits.{root_limit}
use Rattle.model.specs.Sheet.{all}
use Rattle.model.proofs.Laws.Checks.{and_left, and_right}
use Rattle.reclaim_model.specs.Rename.{Every}
use Rattle.reclaim_model.specs.Reclaim.{roots_ok}

inside : (n : ℕ) (rs : List ℕ) → all (λ r. ltb r n) rs ≡ true → Every (λ r. r < n) rs
inside n [] e = tt
inside n (r ∷ rs) e = (ltb-true r n (and_left (ltb r n) _ e), inside n rs (and_right (ltb r n) _ e))

pub roots_inside : (n : ℕ) (rs : List ℕ) → roots_ok n rs ≡ true → Every (λ r. r < n) rs
roots_inside n rs e = inside n rs (and_right (leb (length rs) root_limit) _ e)
