-- Which shop four arrays of numbers stand for, and the arrays of a shop. Assumes nothing: these are definitions.
use Rattle.std.specs.Prelude.{cond, List, [], ◌∷◌, ◌++◌, map, ℕ, zero, suc, ◌*◌, ltb, ℤ, pos, negsuc, get_or, take, drop, Option, Some, None}
use Rattle.model.specs.declared.ItemId.{ItemId}
use Rattle.model.specs.Limits.{entry_limit, slot_count}
use Rattle.shop.specs.declared.Slot.{Slot}
use Rattle.shop.specs.declared.Shop.{Shop}

-- an item that no sheet has
abbrev pub no_such_item : ℕ
no_such_item = 65535

-- -1 is no item; a number that no item can have stands for an item that no sheet has, so that check 8 refuses it
unfoldable pub item_from : ℤ → Option ItemId
item_from (pos n) = Some (record { 0 = cond (ltb no_such_item n) no_such_item n })
item_from (negsuc zero) = None
item_from (negsuc (suc n)) = Some (record { 0 = no_such_item })

-- a shop as four arrays: an item, a limit and how many requirements for each slot, and entry_limit codes of requirements for each
pub record Arrays : Type 0 where
  pub items : List ℤ
  pub limits : List ℤ
  pub codes : List ℕ
  pub lens : List ℕ

abbrev pub arrays_in : List ℤ → List ℤ → List ℕ → List ℕ → Arrays
arrays_in items limits codes lens = record { items = items; limits = limits; codes = codes; lens = lens }

-- ---- from arrays

-- the slot that numbers stand for
abbrev pub slot_in : ℤ → ℤ → List ℕ → ℕ → Slot
slot_in item limit codes len = record { item = item_from item; limit = limit; requirements = codes; len = len }

-- the codes of slot i
abbrev pub row_at : List ℕ → ℕ → List ℕ
row_at codes i = take entry_limit (drop (entry_limit * i) codes)

unfoldable pub slot_at : Arrays → ℕ → Slot
slot_at a i = slot_in (get_or a.items i (pos 0)) (get_or a.limits i (pos 0)) (row_at a.codes i) (get_or a.lens i 0)

-- n of the slots from slot i on
unfoldable pub slots_from : Arrays → ℕ → ℕ → List Slot
slots_from a i zero = []
slots_from a i (suc n) = slot_at a i ∷ slots_from a (suc i) n

unfoldable pub shop_from : Arrays → Shop
shop_from a = record { slots = slots_from a 0 slot_count }

-- ---- to arrays

abbrev pub item_to : Option ItemId → ℤ
item_to None = negsuc 0
item_to (Some w) = pos w.0

abbrev pub items_of : Shop → List ℤ
items_of s = map (λ (x : Slot). item_to x.item) s.slots

abbrev pub limits_of : Shop → List ℤ
limits_of s = map (λ (x : Slot). x.limit) s.slots

abbrev pub lens_of : Shop → List ℕ
lens_of s = map (λ (x : Slot). x.len) s.slots

-- all codes of a slot, given or not, then those of the next
abbrev pub rows : List Slot → List ℕ
rows [] = []
rows (x ∷ xs) = x.requirements ++ rows xs

unfoldable pub arrays_of : Shop → Arrays
arrays_of s = arrays_in (items_of s) (limits_of s) (rows s.slots) (lens_of s)
