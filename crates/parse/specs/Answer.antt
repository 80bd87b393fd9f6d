-- The value that a parse answers: the refusal, and the slots as the code keeps them. Assumes nothing: these are definitions.
use Rattle.std.specs.Prelude as Code
use Rattle.std.specs.Prelude.{◌≡◌, map, ℕ, Some, None, Result, IfOk}
use Rattle.std.proofs.Math.Option.{Option, none, some}
use Rattle.model.specs.Shop.{with_slots}
use Rattle.model.specs.Shop as Model
use Rattle.model.specs.Parse.{Parsed}
use Rattle.model.specs.Refusals.{refusal_in}
use Rattle.model.specs.declared.ItemId.{ItemId}
use Rattle.model.specs.declared.Refusal.{Refusal}
use Rattle.shop.specs.declared.Shop.{Shop}
use Rattle.shop.specs.declared.Slot.{Slot}
use Rattle.shop_codes.specs.Codes.{code_of}
use Rattle.shop.specs.Shapes.{slots_of}
use Rattle.shop.specs.Sets.{Reqs, reqs_of}
use Rattle.shop_arrays.specs.Arrays.{Arrays, shop_from, arrays_of}
use Rattle.shop.specs.Good.{GoodShop}

abbrev pub item_as : Option ℕ → Code.Option ItemId
item_as none = None
item_as (some w) = Some (record { 0 = w })

-- the codes of its requirements, past the last of them 0
abbrev pub slot_with : Model.Slot → Reqs → Slot
slot_with x s = record { item = item_as x.item; limit = x.limit; requirements = s.codes; len = s.len }

abbrev pub slot_as : Model.Slot → Slot
slot_as x = slot_with x (reqs_of (map code_of x.requirements))

-- the refusal or 0, and the slots
pub record ParsedShop : Type 0 where
  pub refusal : ℕ
  pub shop : Shop

-- a refused parse hands out nothing: every slot is empty
unfoldable pub answer_of : Parsed → ParsedShop
answer_of p = record { refusal = p.answer; shop = record { slots = map slot_as (with_slots p.slots) } }

-- the answer is that value, and its slots stand for those of the definition
pub record ParsedAs (p : Parsed) (r : ParsedShop) : Type 0 where
  pub is : r ≡ answer_of p
  pub slots : r.refusal ≡ 0 → slots_of r.shop ≡ p.slots
  pub good : GoodShop r.shop

-- what a call hands out: the refusal, and where there is none the shop of that value
pub record HandedOut (p : Parsed) (r : Result Shop Refusal) : Type 0 where
  pub refusal : refusal_in r ≡ p.answer
  pub shop : IfOk r (λ s. ParsedAs p (record { refusal = 0; shop = s }))

-- the answer with its slots in arrays: those of that value, and they stand for its slots
pub record ParsedInto (p : Parsed) (n : ℕ) (a : Arrays) : Type 0 where
  pub refusal : n ≡ (answer_of p).refusal
  pub arrays : a ≡ arrays_of (answer_of p).shop
  pub stands : ParsedAs p (record { refusal = n; shop = shop_from a })
