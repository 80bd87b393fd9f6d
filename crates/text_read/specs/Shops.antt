-- The shop of slots that were read, as the code holds it, and what reading a text answers. Assumes nothing: these are definitions.
use Rattle.std.proofs.Math.Option.{Option, none, some}
use Rattle.std.specs.Prelude.{List, ◌++◌, map, ℕ, ◌-◌, length, replicate, Result, Ok, Err}
use Rattle.model.specs.Limits.{entry_limit}
use Rattle.model.specs.Requirement.{Requirement}
use Rattle.model.specs.Shop
use Rattle.shop_codes.specs.Codes.{code_of}
use Rattle.std.specs.Prelude as prelude
use Rattle.model.specs.declared.ItemId.{ItemId}
use Rattle.shop.specs.declared.Slot.{Slot}
use Rattle.shop.specs.declared.Shop.{Shop}
use Rattle.text_model.specs.Text.{ReadText, slots, bad}
use Rattle.text_read.specs.Faults.{fault_number}
use Rattle.text_read.specs.declared.BadLine.{BadLine}

abbrev pub item_for : Option ℕ → prelude.Option ItemId
item_for none = prelude.None
item_for (some w) = prelude.Some (record { 0 = w })

-- the codes in the order in which the requirements stand; past them every code is 0
abbrev pub row_for : List Requirement → List ℕ
row_for rs = map code_of rs ++ replicate (entry_limit - length rs) 0

abbrev pub slot_for : Shop.Slot → Slot
slot_for x = record { item = item_for x.item; limit = x.limit; requirements = row_for x.requirements; len = length x.requirements }

abbrev pub shop_for : List Shop.Slot → Shop
shop_for xs = record { slots = map slot_for xs }

-- the shop, or the line and the reason's number
pub data TextShop : Type 0 where
  whole : Shop → TextShop
  broken : ℕ → ℕ → TextShop

abbrev pub text_shop : ReadText → TextShop
text_shop (slots xs) = whole (shop_for xs)
text_shop (bad l e) = broken l e

-- .. as the code answers it
abbrev pub text_of : Result Shop BadLine → TextShop
text_of (Ok x) = whole x
text_of (Err b) = broken b.line (fault_number b.reason)
