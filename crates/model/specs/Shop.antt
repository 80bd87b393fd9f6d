-- Slots and shops (01, Slot), what is coerced, and check 8. Assumes nothing: these are definitions.
use Rattle.std.specs.Prelude.{Bool, true, cond, ◌&&◌, List, [], ◌∷◌, ℕ, zero, suc, ltb, leb, eqb, length, ℤ, pos, negsuc}
use Rattle.std.proofs.Math.Option.{Option, none, some}
use Rattle.std.specs.Int.{w32}
use Rattle.model.specs.Limits.{slot_count, entry_limit, most_stock}
use Rattle.model.specs.Refusal.{check, bad_shop}
use Rattle.model.specs.Signed.{in_range}
use Rattle.model.specs.Sheet.{Sheet, item_count, atc_for, all}
use Rattle.model.specs.Requirement.{Requirement, haveItem, missingItem, haveAtc, missingAtc, haveFlag, missingFlag}

-- the requirements are the entries as given, in any order and with repeats
pub record Slot : Type 0 where
  pub item : Option ℕ
  pub limit : ℤ
  pub requirements : List Requirement

abbrev pub empty_slot : Slot
empty_slot = record { item = none; limit = pos 0; requirements = [] }

-- n slots: further ones are dropped unchecked, missing ones are empty
unfoldable pub padded : ℕ → List Slot → List Slot
padded zero xs = []
padded (suc n) [] = empty_slot ∷ padded n []
padded (suc n) (x ∷ xs) = x ∷ padded n xs

abbrev pub with_slots : List Slot → List Slot
with_slots xs = padded slot_count xs

-- ---- limits (01, Compiler: Limit)

pub data Timer : Type 0 where
  plain five ten fifteen : Timer

abbrev pub timer_of : Sheet → ℕ → Timer
timer_of h i = cond (eqb i h.timer5) five (cond (eqb i h.timer10) ten (cond (eqb i h.timer15) fifteen plain))

-- brought into 1 to 10
abbrev pub between : ℤ → ℕ
between (negsuc n) = 1
between (pos n) = cond (ltb n 1) 1 (cond (ltb most_stock n) most_stock n)

abbrev pub timer_limit : Timer → ℤ → ℕ
timer_limit plain z = between z
timer_limit five z = 1
timer_limit ten z = 1
timer_limit fifteen z = 1

abbrev pub atc_limit : Option ℕ → Timer → ℤ → ℕ
atc_limit (some a) t z = 1
atc_limit none t z = timer_limit t z

-- of a slot with item i; without an item the limit is 0 and nothing uses it
unfoldable pub limit_of : Sheet → ℕ → ℤ → ℕ
limit_of h i z = atc_limit (atc_for h i) (timer_of h i) z

-- ---- check 8: ids on the sheet, at most so many entries given, also in a slot without an item

abbrev pub req_known : Sheet → Requirement → Bool
req_known h (haveItem i) = ltb i (item_count h)
req_known h (missingItem i) = ltb i (item_count h)
req_known h (haveAtc a) = ltb a h.atc_count
req_known h (missingAtc a) = ltb a h.atc_count
req_known h (haveFlag f) = in_range w32 f
req_known h (missingFlag f) = in_range w32 f

abbrev pub item_known : Sheet → Option ℕ → Bool
item_known h none = true
item_known h (some i) = ltb i (item_count h)

abbrev pub slot_ok : Sheet → Slot → Bool
slot_ok h x = item_known h x.item && (leb (length x.requirements) entry_limit && all (req_known h) x.requirements)

abbrev pub shop_refusal : Sheet → List Slot → ℕ
shop_refusal h xs = check (all (slot_ok h) (with_slots xs)) bad_shop
