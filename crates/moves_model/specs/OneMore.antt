-- Two saves alike but for one item, held once more in the second, and what may differ after their runs (02, A.14). Assumes nothing: these are definitions.
use Rattle.std.specs.Prelude.{◌≡◌, ◌≢◌, Bool, false, true, ◌&&◌, List, ℕ, suc, ◌+◌, ◌≤◌, ◌<◌, ltb, eqb, ℤ, pos, get_or, length}
use Rattle.std.proofs.Math.Option.{Option, none, some}
use Rattle.model.specs.Limits.{slot_count, count_first}
use Rattle.model.specs.Save.{Save}
use Rattle.model.specs.Sheet.{Sheet}
use Rattle.model.specs.Shop.{Slot, empty_slot, limit_of}
use Rattle.model.specs.Meaning.{held}
use Rattle.model.specs.Run.{Ran}

-- s and t are alike but for item w, of which s holds n, at least 1, and t one more
pub record OneMore (w n : ℕ) (s t : Save) : Type 0 where
  pub some : 1 ≤ n
  pub before : held s w ≡ pos n
  pub after : held t w ≡ pos (suc n)
  pub items : (i : ℕ) → i ≢ w → held s i ≡ held t i
  pub atcs : s.atcs ≡ t.atcs
  pub flags : s.flags ≡ t.flags
  pub times : s.times ≡ t.times
  pub variables : s.variables ≡ t.variables

-- a slot of that item with limit above 1, as the limit is coerced
abbrev pub stocks_for : Sheet → ℕ → Option ℕ → ℤ → Bool
stocks_for h w none z = false
stocks_for h w (some i) z = eqb i w && ltb 1 (limit_of h i z)

unfoldable pub stocks : Sheet → ℕ → Slot → Bool
stocks h w x = stocks_for h w x.item x.limit

-- the second is lower by 0 or 1
pub data Lower : ℤ → ℤ → Type 0 where
  same : {z : ℤ} → Lower z z
  less : {n : ℕ} → Lower (pos (suc n)) (pos n)

-- what may differ between the answers of two runs: nothing is said of the number of blocks entered
pub record Differ (h : Sheet) (w : ℕ) (xs : List Slot) (r q : Ran) : Type 0 where
  pub answer : r.answer ≡ q.answer
  -- every variable but variable 0 and the counts of such slots is the same
  pub rest : (j : ℕ) → j ≢ 0 → ((i : ℕ) → i < slot_count → stocks h w (get_or xs i empty_slot) ≡ true → j ≢ count_first + i) → get_or r.variables j (pos 0) ≡ get_or q.variables j (pos 0)
  -- the count of each such slot is lower by 0 or 1 where one more is held
  pub counts : (i : ℕ) → i < slot_count → stocks h w (get_or xs i empty_slot) ≡ true → Lower (get_or r.variables (count_first + i) (pos 0)) (get_or q.variables (count_first + i) (pos 0))
  -- so is variable 0, which the last count of such a slot goes through
  pub first : Lower (get_or r.variables 0 (pos 0)) (get_or q.variables 0 (pos 0))
  -- and there are as many variables
  pub long : length r.variables ≡ length q.variables
