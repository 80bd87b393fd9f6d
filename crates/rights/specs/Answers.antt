-- The answers of the code are those of the calls' definitions. Assumes nothing.
use Rattle.std.specs.Prelude.{◌≡◌, refl, Bool, ◌&&◌, List, [], ◌∷◌, ℕ, ◌+◌, ◌*◌, ltb, get_or}
use Rattle.model.specs.Limits.{slot_count, user_count}
use Rattle.model.specs.Refusal.{bad_shop, check, first_of, no_right, no_user}
use Rattle.model.specs.Sheet as Model
use Rattle.model.specs.Sheet.{sheet_ok}
use Rattle.model.specs.Shop.{item_known}
use Rattle.rights_model.specs.Rights.{Edit, Field, Table, content_ok, edit_refusal, field_of, may_change, itemField, limitField, requirementsField}
use Rattle.shop.specs.Shapes.{entries, entries_ok, item_of, slot_of}
use Rattle.shop.specs.declared.Slot.{Slot}
use Rattle.rights.specs.Values.{bit_of, content_of, field_is, rights_of, table_of, weight_of}
use Rattle.rights.specs.declared.Field as code
use Rattle.rights.specs.declared.Field.TheVariants.{Item, Limit, Requirements}

right_is : (b : ℕ) (f : Field) → may_change (rights_of b) f ≡ bit_of b (weight_of f)
right_is b itemField = refl
right_is b limitField = refl
right_is b requirementsField = refl

-- ---- by the field that a match met

module _ (h : Model.Sheet) (f : code.Field) (x : Slot) where
  pub item_ok : f ≡ Item → (r : Bool) → r ≡ item_known h (item_of x.item) → r ≡ content_ok h (content_of f x)
  unfolding slot_of
  item_ok e r q = rw e q

  pub requirements_ok : f ≡ Requirements → (r : Bool) → r ≡ entries_ok h (entries x.len x.requirements) → r ≡ content_ok h (content_of f x)
  unfolding slot_of
  requirements_ok e r q = rw e q

content_field : (f : code.Field) (x : Slot) → field_of (content_of f x) ≡ field_is f
content_field Item x = refl
content_field Limit x = refl
content_field Requirements x = refl

-- the right that a change asks for, where it stands
pub may_bit : (bs : List ℕ) (u i : ℕ) (f : code.Field) (x : Slot) (w : ℕ) → w ≡ weight_of (field_is f) → may_change (table_of bs u i) (field_of (content_of f x)) ≡ bit_of (get_or bs (u * slot_count + i) 0) w
may_bit bs u i f x w e = rw (content_field f x, e) (right_is (get_or bs (u * slot_count + i) 0) (field_is f))

-- ---- the checks, each by its answer

pub checked_by : (t : Table) (h : Model.Sheet) (e : Edit) (a b c d f : Bool) → sheet_ok h ≡ a → ltb e.user user_count ≡ b → ltb e.slot slot_count ≡ c → may_change (t e.user e.slot) (field_of e.content) ≡ d → content_ok h e.content ≡ f
    → first_of (check a 1 ∷ check b no_user ∷ check (c && d) no_right ∷ check f bad_shop ∷ []) ≡ edit_refusal t h e
unfolding edit_refusal
checked_by t h e a b c d f p q r s w = rw (p, q, r, s, w)
