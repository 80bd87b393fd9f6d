-- Edits and shows of a shop as a value (01: `Shop { slots: [Slot; 20] }`): the shop after a call. Assumes nothing: these are definitions.
use Rattle.std.specs.Prelude.{cond, List, [], ◌∷◌, ℕ, zero, suc, ltb, get_or, Result, Ok, Err}
use Rattle.model.specs.Limits.{user_count}
use Rattle.model.specs.Refusal.{accepted, check, no_user}
use Rattle.model.specs.Refusals.{refusal_number}
use Rattle.model.specs.declared.Refusal.{Refusal}
use Rattle.model.specs.Sheet as Model
use Rattle.rights_model.specs.Rights.{Table, edit_refusal}
use Rattle.shop.specs.Shapes.{no_shop, no_slot, placed}
use Rattle.shop.specs.declared.Shop.{Shop}
use Rattle.shop.specs.declared.Slot.{Slot}
use Rattle.rights.specs.Values.{edit_of}
use Rattle.rights.specs.declared.Field.{Field}
use Rattle.rights.specs.declared.Field.TheVariants.{Item, Limit, Requirements}

-- the content in its field, the other fields as they were
abbrev pub changed_slot : Field → Slot → Slot → Slot
changed_slot Item x old = record { item = x.item; limit = old.limit; requirements = old.requirements; len = old.len }
changed_slot Limit x old = record { item = old.item; limit = x.limit; requirements = old.requirements; len = old.len }
changed_slot Requirements x old = record { item = old.item; limit = old.limit; requirements = x.requirements; len = x.len }

-- a call's refusal or 0, and its shop
pub record Answered : Type 0 where
  pub refusal : ℕ
  pub shop : Shop

-- what a call answers; the other shop where it is refused
abbrev pub answered_in : Shop → Result Shop Refusal → Answered
answered_in other (Ok s) = record { refusal = accepted; shop = s }
answered_in other (Err e) = record { refusal = refusal_number e; shop = other }

-- the shop of a call that is accepted, and that of one that is refused
abbrev pub answered_as : ℕ → Shop → Shop → Answered
answered_as zero new other = record { refusal = accepted; shop = new }
answered_as (suc n) new other = record { refusal = suc n; shop = other }

-- the content x at slot i, all else as it was
abbrev pub shop_with : Field → Slot → ℕ → Shop → Shop
shop_with f x i s = placed s i (changed_slot f x (get_or s.slots i no_slot))

-- refused, the shop is as it was
unfoldable pub shop_edited : Table → Model.Sheet → Shop → ℕ → ℕ → Field → Slot → Answered
shop_edited t h s u i f x = answered_as (edit_refusal t h (edit_of u i f x)) (shop_with f x i s) s

-- ---- being shown

-- the slots from number i on: with see as it stands, without, an empty one
unfoldable pub slots_shown : Table → ℕ → ℕ → List Slot → List Slot
slots_shown t u i [] = []
slots_shown t u i (x ∷ xs) = cond (t u i).see x no_slot ∷ slots_shown t u (suc i) xs

-- 20 only; refused, all slots are empty
unfoldable pub shop_shown : Table → Shop → ℕ → Answered
shop_shown t s u = answered_as (check (ltb u user_count) no_user) (record { slots = slots_shown t u 0 s.slots }) no_shop
