-- What a slot and a shop mean under a save (01, Runner and slot meaning). Assumes nothing: these are definitions.
use Rattle.std.specs.Prelude.{Bool, true, not, cond, ◌&&◌, ◌||◌, List, [], ◌∷◌, ℕ, ◌+◌, ◌<◌, ◌≡◌, ◌≢◌, leb, get_or, length, ℤ, pos, negsuc, ◌-ℤ◌}
use Rattle.std.proofs.Math.Option.{Option, none, some}
use Rattle.std.specs.Int.Signed.{lt_z}
use Rattle.model.specs.Limits.{item_first, count_first}
use Rattle.model.specs.Signed.{eq_z, is_zero, clamp}
use Rattle.model.specs.Save.{Save, nat_at, int_at}
use Rattle.model.specs.Sheet.{Sheet, atc_for}
use Rattle.model.specs.Requirement.{Requirement, haveItem, missingItem, haveAtc, missingAtc, haveFlag, missingFlag}
use Rattle.model.specs.Shop.{Slot, empty_slot, Timer, plain, five, ten, fifteen, timer_of, limit_of}
use Rattle.model.specs.Compile.{rate_of, acquired_req}

-- the save's count of the item
abbrev pub held : Save → ℕ → ℤ
held s i = int_at s.items (pos i)

-- a timer held if that is above 0
abbrev pub is_held : Save → ℕ → Bool
is_held s i = lt_z (pos 0) (held s i)

unfoldable pub holds : Save → Requirement → Bool
holds s (haveItem i) = not (is_zero (held s i))
holds s (missingItem i) = is_zero (held s i)
holds s (haveAtc a) = not (is_zero (nat_at s.atcs (pos a)))
holds s (missingAtc a) = is_zero (nat_at s.atcs (pos a))
holds s (haveFlag f) = not (is_zero (nat_at s.flags f))
holds s (missingFlag f) = is_zero (nat_at s.flags f)

-- R true if all its tests are or it has none
unfoldable pub all_hold : Save → List Requirement → Bool
all_hold s [] = true
all_hold s (r ∷ rs) = holds s r && all_hold s rs

abbrev pub at_rate : Save → Option ℕ → Bool → Bool
at_rate s none b = b
at_rate s (some r) b = b || eq_z (int_at s.times (pos 2)) (pos r)

unfoldable pub acquired : Sheet → Save → ℕ → Bool
acquired h s w = at_rate s (rate_of (timer_of h w)) (holds s (acquired_req (atc_for h w) w))

-- ---- the pair of a slot, and what it leaves in variable 0

pub record Meaning : Type 0 where
  pub item : ℤ
  pub count : ℤ
  pub temp : Option ℤ

-- (−1, 0)
abbrev pub hidden : Meaning
hidden = record { item = negsuc 0; count = pos 0; temp = none }

abbrev pub listed : ℕ → ℕ → Meaning
listed w n = record { item = pos w; count = pos n; temp = none }

abbrev pub no_timer_held : Sheet → Save → Bool
no_timer_held h s = not (is_held s h.timer10) && not (is_held s h.timer15)

-- 1, but 0 for Timer5 with neither other timer held
abbrev pub one_of : Timer → Bool → ℕ
one_of plain b = 1
one_of five b = cond b 0 1
one_of ten b = 1
one_of fifteen b = 1

abbrev pub unique_meaning : Sheet → Save → ℕ → Bool → Bool → Meaning
unique_meaning h s w acq r = cond (not acq && r) (listed w (one_of (timer_of h w) (no_timer_held h s))) (cond acq (listed w 0) hidden)

-- the larger of 0 and limit − held
abbrev pub remaining : Save → ℕ → ℕ → ℤ
remaining s w l = clamp (pos l -ℤ held s w)

abbrev pub limit_meaning : Save → ℕ → ℕ → Bool → Meaning
limit_meaning s w l r = cond r (record { item = pos w; count = remaining s w l; temp = some (remaining s w l) }) hidden

abbrev pub filled_meaning : Sheet → Save → ℕ → ℕ → Bool → Meaning
filled_meaning h s w l r = cond (leb l 1) (unique_meaning h s w (acquired h s w) r) (limit_meaning s w l r)

abbrev pub meaning_for : Sheet → Save → Option ℕ → ℤ → Bool → Meaning
meaning_for h s none z r = hidden
meaning_for h s (some w) z r = filled_meaning h s w (limit_of h w z) r

unfoldable pub meaning_of : Sheet → Save → Slot → Meaning
meaning_of h s x = meaning_for h s x.item x.limit (all_hold s x.requirements)

abbrev pub or_old : Option ℤ → ℤ → ℤ
or_old none z = z
or_old (some y) z = y

-- variable 0: the count of the highest-numbered slot above limit 1 whose R holds, else as before
unfoldable pub temp_after : Sheet → Save → List Slot → ℤ → ℤ
temp_after h s [] z = z
temp_after h s (x ∷ xs) z = temp_after h s xs (or_old (meaning_of h s x).temp z)

-- v' holds what the shop means under the save, and every other variable is as in v
pub record Means (h : Sheet) (s : Save) (xs : List Slot) (v v' : List ℤ) : Type 0 where
  pub items : (i : ℕ) → i < length xs → get_or v' (item_first + i) (pos 0) ≡ (meaning_of h s (get_or xs i empty_slot)).item
  pub counts : (i : ℕ) → i < length xs → get_or v' (count_first + i) (pos 0) ≡ (meaning_of h s (get_or xs i empty_slot)).count
  pub first : get_or v' 0 (pos 0) ≡ temp_after h s xs (get_or v 0 (pos 0))
  pub others : (j : ℕ) → j ≢ 0 → ((i : ℕ) → i < length xs → (j ≢ item_first + i) × (j ≢ count_first + i)) → get_or v' j (pos 0) ≡ get_or v j (pos 0)
  pub long : length v' ≡ length v
