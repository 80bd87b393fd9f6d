-- The save that a run meets (01, Save), and how it is read. Assumes nothing: these are definitions.
use Rattle.std.specs.Prelude.{Bool, false, List, ℕ, ltb, get_or, ℤ, pos, negsuc}
use Rattle.model.specs.Limits.{flag_count}

-- as handed in, of any lengths and values; check 12 says which fit a sheet
pub record Save : Type 0 where
  pub items : List ℤ
  pub atcs : List ℕ
  pub flags : List ℕ
  pub times : List ℤ
  pub variables : List ℤ

-- outside the save these give 0
abbrev pub nat_at : List ℕ → ℤ → ℤ
nat_at l (pos n) = pos (get_or l n 0)
nat_at l (negsuc n) = pos 0

abbrev pub int_at : List ℤ → ℤ → ℤ
int_at l (pos n) = get_or l n (pos 0)
int_at l (negsuc n) = pos 0

-- A.10: which numbers are flags of the save; no other flag is read
abbrev pub flag_inside : ℤ → Bool
flag_inside (pos n) = ltb n flag_count
flag_inside (negsuc n) = false
