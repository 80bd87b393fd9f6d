-- Edits and shows on the arrays of a shop, where they stand: what numbers stand for, and the arrays after a call. Assumes nothing: these are definitions.
use Rattle.std.specs.Prelude.{cond, List, ℕ, zero, suc, ◌*◌, ltb, ℤ, pos, negsuc, replicate, set}
use Rattle.std.proofs.Math.Seq.{paste}
use Rattle.model.specs.Limits.{entry_limit, slot_count, user_count}
use Rattle.model.specs.Refusal.{accepted, check, no_user}
use Rattle.model.specs.Sheet as Model
use Rattle.rights_model.specs.Rights.{Rights, Table, edit_refusal}
use Rattle.shop.specs.declared.Slot.{Slot}
use Rattle.shop_arrays.specs.Arrays.{Arrays, arrays_in, slot_in}
use Rattle.shop_arrays.specs.Slots.{no_arrays}
use Rattle.rights.specs.Values.{edit_of}
use Rattle.rights.specs.declared.Field.{Field}
use Rattle.rights.specs.declared.Field.TheVariants.{Item, Limit, Requirements}

-- fields by number
unfoldable pub field_from : ℕ → Field
field_from zero = Item
field_from (suc zero) = Limit
field_from (suc (suc n)) = Requirements

-- nobody may change a field that is not there: it is answered as a slot that is not there
unfoldable pub place_for : ℕ → ℕ → ℕ
place_for zero i = i
place_for (suc zero) i = i
place_for (suc (suc zero)) i = i
place_for (suc (suc (suc n))) i = slot_count

-- the contents that are given, of which the field's counts
pub record Contents : Type 0 where
  pub item : ℤ
  pub limit : ℤ
  pub codes : List ℕ
  pub len : ℕ

abbrev pub contents : ℤ → ℤ → List ℕ → ℕ → Contents
contents z l cs n = record { item = z; limit = l; codes = cs; len = n }

abbrev pub slot_by : Contents → Slot
slot_by x = slot_in x.item x.limit x.codes x.len

-- the content at slot i, all else as it was
abbrev pub arrays_with : Field → Contents → ℕ → Arrays → Arrays
arrays_with Item x i a = arrays_in (set a.items i x.item) a.limits a.codes a.lens
arrays_with Limit x i a = arrays_in a.items (set a.limits i x.limit) a.codes a.lens
arrays_with Requirements x i a = arrays_in a.items a.limits (paste a.codes (entry_limit * i) x.codes entry_limit) (set a.lens i x.len)

-- the refusal or 0, and the arrays as they are left
pub record Answer : Type 0 where
  pub refusal : ℕ
  pub arrays : Arrays

-- refused, the arrays are as they were
abbrev pub edited_as : ℕ → Arrays → Arrays → Answer
edited_as zero new old = record { refusal = accepted; arrays = new }
edited_as (suc n) new old = record { refusal = suc n; arrays = old }

unfoldable pub arrays_edited : Table → Model.Sheet → Arrays → ℕ → ℕ → ℕ → Contents → Answer
arrays_edited t h a u i n x = edited_as (edit_refusal t h (edit_of u (place_for n i) (field_from n) (slot_by x))) (arrays_with (field_from n) x (place_for n i) a) a

-- ---- being shown

-- slot i empty, all else as it was
abbrev pub emptied : ℕ → Arrays → Arrays
emptied i a = arrays_in (set a.items i (negsuc 0)) (set a.limits i (pos 0)) (paste a.codes (entry_limit * i) (replicate entry_limit 0) entry_limit) (set a.lens i 0)

-- slot i: with see its words stay, without, they are an empty slot's
abbrev pub shown_at : Rights → ℕ → Arrays → Arrays
shown_at r i a = cond r.see a (emptied i a)

-- the first n slots are shown, the others as they stand
unfoldable pub first_shown : Table → ℕ → ℕ → Arrays → Arrays
first_shown t u zero a = a
first_shown t u (suc n) a = shown_at (t u n) n (first_shown t u n a)

-- refused, the arrays are those of the empty shop
abbrev pub shown_as : ℕ → Arrays → Answer
shown_as zero a = record { refusal = accepted; arrays = a }
shown_as (suc n) a = record { refusal = suc n; arrays = no_arrays }

-- 20 only
unfoldable pub arrays_shown : Table → Arrays → ℕ → Answer
arrays_shown t a u = shown_as (check (ltb u user_count) no_user) (first_shown t u slot_count a)
