-- An edit and a show of arrays are those of the shop that the arrays stand for: of that shop as a value, and so the definitions' calls. Assumes nothing.
use Rattle.std.specs.Prelude.{◌≡◌, Bool, true, false, cond, ltb, get_or, length}
use Rattle.std.proofs.Math.Path.{refl, ap}
use Rattle.std.proofs.Common.{sym, ◌∙◌, arith}
use mathlib.Core.List.{List}
use Prim.Native.Nat.{ℕ, zero, suc, ◌+◌, ◌≤◌, ◌<◌}
use Rattle.std.proofs.lemmas.List.{length-map}
use Rattle.model.specs.Limits.{entry_limit, slot_count, user_count}
use Rattle.model.specs.Refusal.{check, no_user}
use Rattle.model.specs.Sheet as Model
use Rattle.model.specs.Shop.{Slot}
use Rattle.rights_model.specs.Rights.{Edit, Edited, Table, edit_call, edit_refusal, show_call}
use Rattle.rights_model.proofs.Fields.{allowed}
use Rattle.shop.specs.Shapes.{no_shop, no_slot, slot_of, slots_of}
use Rattle.shop.specs.declared.Shop.{Shop}
use Rattle.shop.specs.declared.Slot as code
use Rattle.shop_arrays.specs.Arrays.{Arrays, item_from, shop_from, slot_at, slots_from}
use Rattle.shop_arrays.specs.Back.{Full}
use Rattle.shop_arrays.specs.Slots.{shop_none, slot_in_lem, slot_put, slots_long}
use Rattle.rights.specs.Values.{edit_of}
use Rattle.rights.specs.InArrays.{Answer, Contents, arrays_edited, arrays_shown, arrays_with, edited_as, field_from, first_shown, place_for, shown_as, slot_by}
use Rattle.rights.specs.InShops.{Answered, answered_as, changed_slot, shop_edited, shop_shown, shop_with, slots_shown}
use Rattle.rights.specs.ShopLaws.{edit_call_lem, edited_is, handed_out, show_call_lem}
use Rattle.rights.specs.declared.Field.{Field}
use Rattle.rights.specs.declared.Field.TheVariants.{Item, Limit, Requirements}
use Rattle.capi_rights.specs.Words.{changed_words, no_words, shown_first, with_full, with_other, with_own, words_at}

-- the shop that arrays stand for, by the definitions' slots
abbrev pub shop_in : Arrays → List Slot
shop_in a = slots_of (shop_from a)

pub shop_long : (a : Arrays) → length (shop_in a) ≡ slot_count
unfolding slots_of
shop_long a = length-map (shop_from a).slots slot_of ∙ slots_long a

-- an answer by the shop as a value
abbrev pub answered_is : Answer → Answered
answered_is r = record { refusal = r.refusal; shop = shop_from r.arrays }

slot_words : (a : Arrays) (i : ℕ) → slot_at a i ≡ slot_by (words_at a i)
unfolding slot_at
slot_words a i = refl

-- ---- an edit

-- the edit that numbers stand for
abbrev pub edit_by : ℕ → ℕ → ℕ → Contents → Edit
edit_by u i n x = edit_of u (place_for n i) (field_from n) (slot_by x)

abbrev pub answer_is : Answer → Edited
answer_is r = edited_is (answered_is r)

-- the answer is that of the checks
pub edit_answer : (t : Table) (h : Model.Sheet) (a : Arrays) (u i n : ℕ) (x : Contents) → (arrays_edited t h a u i n x).refusal ≡ edit_refusal t h (edit_by u i n x)
unfolding arrays_edited
edit_answer t h a u i n x = by (edit_refusal t h (edit_by u i n x))
  where
    by : (k : ℕ) → (edited_as k (arrays_with (field_from n) x (place_for n i) a) a).refusal ≡ k
    by zero = refl
    by (suc k) = refl

changed_words_lem : (f : Field) (x old : Contents) → slot_by (changed_words f x old) ≡ changed_slot f (slot_by x) (slot_by old)
changed_words_lem Item x old = refl
changed_words_lem Limit x old = refl
changed_words_lem Requirements x old = refl

module _ (x : Contents) (long : length x.codes ≡ entry_limit) (a : Arrays) (full : Full a) where
  with_shop : (i : ℕ) → i < slot_count → (f : Field) → shop_from (arrays_with f x i a) ≡ shop_with f (slot_by x) i (shop_from a)
  with_shop i low f = slot_put a (arrays_with f x i a) i _ low own other
    where
      own : slot_at (arrays_with f x i a) i ≡ changed_slot f (slot_by x) (get_or (shop_from a).slots i no_slot)
      own =
          slot_words (arrays_with f x i a) i ∙ ap slot_by (with_own x long a full i low f) ∙ changed_words_lem f x (words_at a i)
          ∙ ap (changed_slot f (slot_by x)) (sym (slot_in_lem a i no_slot low ∙ slot_words a i))

      other : (j : ℕ) → j < slot_count → (j ≡ i → ⊥) → slot_at (arrays_with f x i a) j ≡ slot_at a j
      other j l n = slot_words (arrays_with f x i a) j ∙ ap slot_by (with_other x long a full i low f j l n) ∙ sym (slot_words a j)

  module _ (t : Table) (h : Model.Sheet) (u i n : ℕ) where
    -- rights::edit_arrays answers as rights::edit does
    pub edit_same : answered_is (arrays_edited t h a u i n x) ≡ shop_edited t h (shop_from a) u (place_for n i) (field_from n) (slot_by x)
    unfolding arrays_edited shop_edited
    edit_same = by (edit_refusal t h (edit_by u i n x)) refl
      where
        by : (k : ℕ) → edit_refusal t h (edit_by u i n x) ≡ k
            → answered_is (edited_as k (arrays_with (field_from n) x (place_for n i) a) a) ≡ answered_as k (shop_with (field_from n) (slot_by x) (place_for n i) (shop_from a)) (shop_from a)
        by zero e = ap (λ (s : Shop). record { refusal = 0; shop = s }) (with_shop (place_for n i) (allowed t h (edit_by u i n x) e).slot (field_from n))
        by (suc k) e = refl

    pub edit_stands : answer_is (arrays_edited t h a u i n x) ≡ edit_call t h (shop_in a) (edit_by u i n x)
    edit_stands = ap edited_is edit_same ∙ edit_call_lem (shop_from a) (place_for n i) (field_from n) (slot_by x) t h u

    pub edit_full : Full (arrays_edited t h a u i n x).arrays
    unfolding arrays_edited
    edit_full = by (edit_refusal t h (edit_by u i n x)) refl
      where
        by : (k : ℕ) → edit_refusal t h (edit_by u i n x) ≡ k → Full (edited_as k (arrays_with (field_from n) x (place_for n i) a) a).arrays
        by zero e = with_full x long a full (place_for n i) (allowed t h (edit_by u i n x) e).slot (field_from n)
        by (suc k) e = full

-- ---- a show

abbrev pub shown_is : Answer → Edited
shown_is r = handed_out (answered_is r)

module _ (t : Table) (u : ℕ) (a : Arrays) (full : Full a) where
  abbrev shown : Arrays
  shown = first_shown t u slot_count a

  slot_shown : (i : ℕ) → i < slot_count → slot_at shown i ≡ cond (t u i).see (slot_at a i) no_slot
  slot_shown i l = slot_words shown i ∙ ap slot_by (shown_first t u a full slot_count i l (omega arith)) ∙ see (t u i).see
    where
      blank : slot_by no_words ≡ no_slot
      blank = unfold item_from in refl

      see : (b : Bool) → slot_by (cond b (words_at a i) no_words) ≡ cond b (slot_at a i) no_slot
      see true = sym (slot_words a i)
      see false = blank

  slots_shown_lem : (i n : ℕ) → i + n ≤ slot_count → slots_from shown i n ≡ slots_shown t u i (slots_from a i n)
  unfolding slots_from slots_shown
  slots_shown_lem i zero l = refl
  slots_shown_lem i (suc n) l = rw (slot_shown i (omega arith), slots_shown_lem (suc i) n (omega arith))

  -- rights::show_arrays answers as rights::show does
  pub show_same : answered_is (arrays_shown t a u) ≡ shop_shown t (shop_from a) u
  unfolding arrays_shown shop_shown
  show_same = by (check (ltb u user_count) no_user)
    where
      shop : shop_from shown ≡ record { slots = slots_shown t u 0 (shop_from a).slots }
      shop = unfold shop_from in ap (λ (xs : List code.Slot). record { slots = xs }) (slots_shown_lem 0 slot_count (omega arith))

      by : (k : ℕ) → answered_is (shown_as k shown) ≡ answered_as k (record { slots = slots_shown t u 0 (shop_from a).slots }) no_shop
      by zero = ap (λ (s : Shop). record { refusal = 0; shop = s }) shop
      by (suc k) = ap (λ (s : Shop). record { refusal = suc k; shop = s }) shop_none

  pub show_stands : shown_is (arrays_shown t a u) ≡ show_call t (shop_in a) u
  show_stands = ap handed_out show_same ∙ show_call_lem t u (shop_from a)
