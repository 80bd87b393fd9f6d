-- What the values of the code stand for: slots, shops and sheets. Assumes nothing: these are definitions.
use Rattle.std.specs.Prelude.{Bool, ◌&&◌, List, [], ◌∷◌, map, ℕ, zero, suc, leb, length, get_or, set, replicate, pos, Option, Some, None}
use Rattle.std.proofs.Math.Option as Math
use Rattle.model.specs.Limits.{entry_limit, slot_count}
use Rattle.shop_codes.specs.Codes.{requirement_of}
use Rattle.model.specs.Shop
use Rattle.model.specs.Shop.{item_known, req_known}
use Rattle.model.specs.Sheet
use Rattle.model.specs.Sheet.{all}
use Rattle.model.specs.Printer.{atc_entry}
use Rattle.shop.specs.declared.Sheet.{Sheet}
use Rattle.model.specs.declared.ItemId.{ItemId}
use Rattle.model.specs.declared.AtcId.{AtcId}
use Rattle.shop.specs.declared.Slot.{Slot}
use Rattle.shop.specs.declared.Shop.{Shop}
use Rattle.shop.specs.declared.Timer.{Timer}
use Rattle.shop.specs.declared.Timer.TheVariants.{Plain, Five, Ten, Fifteen}

-- n entries of an array; past its end each is code 0
unfoldable pub entries : ℕ → List ℕ → List ℕ
entries zero cs = []
entries (suc n) [] = 0 ∷ entries n []
entries (suc n) (c ∷ cs) = c ∷ entries n cs

abbrev pub item_of : Option ItemId → Math.Option ℕ
item_of None = Math.none
item_of (Some w) = Math.some w.0

unfoldable pub slot_of : Slot → Shop.Slot
slot_of x = record { item = item_of x.item; limit = x.limit; requirements = map requirement_of (entries x.len x.requirements) }

-- what check 8 asks of the entries, by their codes
abbrev pub entries_ok : Sheet.Sheet → List ℕ → Bool
entries_ok h cs = leb (length (map requirement_of cs)) entry_limit && all (req_known h) (map requirement_of cs)

-- .. and of a slot, by its item and the codes
abbrev pub parts_ok : Sheet.Sheet → Option ItemId → List ℕ → Bool
parts_ok h o cs = item_known h (item_of o) && entries_ok h cs

unfoldable pub slots_of : Shop → List Shop.Slot
slots_of s = map slot_of s.slots

-- the lent slice holds atc + 1 or 0 for each item
unfoldable pub sheet_of : List ℕ → Sheet → Sheet.Sheet
sheet_of ks h = record { atc_of = map atc_entry ks; atc_count = h.atcs; timer5 = h.timer5.0; timer10 = h.timer10.0; timer15 = h.timer15.0 }

-- the entry of an item in that slice; an item past its end has none
abbrev pub atc_at : List ℕ → ℕ → ℕ
atc_at ks i = get_or ks i 0

abbrev pub atc_is : Option AtcId → Math.Option ℕ
atc_is None = Math.none
atc_is (Some a) = Math.some a.0

abbrev pub timer_is : Timer → Shop.Timer
timer_is Plain = Shop.plain
timer_is Five = Shop.five
timer_is Ten = Shop.ten
timer_is Fifteen = Shop.fifteen

-- the rate of a timer, 0 where there is none
abbrev pub rate_word : Shop.Timer → ℕ
rate_word Shop.plain = 0
rate_word Shop.five = 200
rate_word Shop.ten = 100
rate_word Shop.fifteen = 67

-- ---- values

-- the empty slot: no item, limit 0, no requirements
abbrev pub no_slot : Slot
no_slot = record { item = None; limit = pos 0; requirements = replicate entry_limit 0; len = 0 }

abbrev pub no_shop : Shop
no_shop = record { slots = replicate slot_count no_slot }

-- slot i is x; a slot past the last is dropped
abbrev pub placed : Shop → ℕ → Slot → Shop
placed s i x = record { slots = set s.slots i x }
