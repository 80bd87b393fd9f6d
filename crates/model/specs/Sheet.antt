-- The id sheet (01, Id sheet), check 1, and which saves fit it: check 12. Assumes nothing: these are definitions.
use Rattle.std.specs.Prelude.{Bool, true, not, ◌&&◌, List, [], ◌∷◌, ℕ, ltb, leb, eqb, get_or, length, ℤ, pos}
use Rattle.std.proofs.Math.Option.{Option, none, some}
use Rattle.std.specs.Int.Signed.{le_z}
use Rattle.std.specs.Int.{w16, w32}
use Rattle.model.specs.Limits.{fewest_items, most_items, most_atcs, flag_count, time_count, variable_count, most_held}
use Rattle.model.specs.Refusal.{check, bad_sheet, bad_save}
use Rattle.model.specs.Signed.{in_range}
use Rattle.model.specs.Save.{Save}

-- the items are the places of atc_of, each with its atc or none; the atcs are the numbers below atc_count
pub record Sheet : Type 0 where
  pub atc_of : List (Option ℕ)
  pub atc_count : ℕ
  pub timer5 : ℕ
  pub timer10 : ℕ
  pub timer15 : ℕ

abbrev pub item_count : Sheet → ℕ
item_count h = length h.atc_of

abbrev pub atc_for : Sheet → ℕ → Option ℕ
atc_for h i = get_or h.atc_of i none

abbrev pub all : {A : Type 0} → (A → Bool) → List A → Bool
all p [] = true
all p (x ∷ xs) = p x && all p xs

-- ---- check 1

abbrev pub atc_known : ℕ → Option ℕ → Bool
atc_known m none = true
atc_known m (some a) = ltb a m

-- three different items
abbrev pub timers_ok : Sheet → Bool
timers_ok h =
    ltb h.timer5 (item_count h)
    && (ltb h.timer10 (item_count h) && not (eqb h.timer10 h.timer5))
    && (ltb h.timer15 (item_count h) && (not (eqb h.timer15 h.timer5) && not (eqb h.timer15 h.timer10)))

unfoldable pub sheet_ok : Sheet → Bool
sheet_ok h =
    (leb fewest_items (item_count h) && leb (item_count h) most_items)
    && leb h.atc_count most_atcs
    && all (atc_known h.atc_count) h.atc_of
    && timers_ok h

abbrev pub sheet_refusal : Sheet → ℕ
sheet_refusal h = check (sheet_ok h) bad_sheet

-- ---- check 12: lengths and values

abbrev pub is_count : ℤ → Bool
is_count z = le_z (pos 0) z && le_z z (pos most_held)

abbrev pub is_bit : ℕ → Bool
is_bit n = leb n 1

unfoldable pub save_ok : Sheet → Save → Bool
save_ok h s =
    (eqb (length s.items) (item_count h) && all is_count s.items)
    && (eqb (length s.atcs) h.atc_count && all is_bit s.atcs)
    && (eqb (length s.flags) flag_count && all is_bit s.flags)
    && (eqb (length s.times) time_count && all (in_range w16) s.times)
    && (eqb (length s.variables) variable_count && all (in_range w32) s.variables)

abbrev pub save_refusal : Sheet → Save → ℕ
save_refusal h s = check (save_ok h s) bad_save
