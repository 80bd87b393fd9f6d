-- The entries of a slot, one by one. Assumes nothing.
use Rattle.std.specs.Prelude.{◌≡◌, refl, List, [], ◌∷◌, ℕ, zero, suc, ◌<◌, get_or}
use Rattle.std.proofs.Common.{arith}
use Rattle.shop.specs.Shapes.{entries}

-- an entry is the code in its array, or 0 past that
pub entry_is : (n : ℕ) (cs : List ℕ) (i : ℕ) → i < n → get_or (entries n cs) i 0 ≡ get_or cs i 0
unfolding entries
entry_is zero cs i h = absurd (omega arith)
entry_is (suc n) [] zero h = refl
entry_is (suc n) [] (suc i) h = entry_is n [] i (omega arith)
entry_is (suc n) (c ∷ cs) zero h = refl
entry_is (suc n) (c ∷ cs) (suc i) h = entry_is n cs i (omega arith)
