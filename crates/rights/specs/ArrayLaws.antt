-- The calls that edit and show arrays, by the number of the field and by the answers of what they call. Assumes nothing.
use Rattle.std.specs.Prelude.{◌≡◌}
use Rattle.std.proofs.Math.Path.{refl, ap}
use Rattle.std.proofs.Common.{sym, ◌∙◌, arith, add-one}
use Prim.Native.Nat.{ℕ, zero, suc, ◌+◌, ◌≤◌, ◌<◌}
use borrow.Author.Tests.{le-ltb, lt-ltb}
use Rattle.model.specs.Limits.{slot_count, user_count}
use Rattle.model.specs.Refusal.{no_user}
use Rattle.model.specs.Sheet as Model
use Rattle.rights_model.specs.Rights.{Table, edit_refusal}
use Rattle.rights_model.proofs.Fields.{allowed}
use Rattle.shop.specs.declared.Slot.{Slot}
use Rattle.shop_arrays.specs.Arrays.{Arrays}
use Rattle.shop_arrays.specs.Slots.{no_arrays}
use Rattle.rights.specs.InArrays.{Contents, arrays_edited, arrays_shown, arrays_with, edited_as, field_from, first_shown, place_for, shown_at, slot_by}
use Rattle.rights.specs.Values.{edit_of}
use Rattle.rights.specs.declared.Field.{Field}
use Rattle.rights.specs.declared.Field.TheVariants.{Item, Limit, Requirements}

pub field_item : (n : ℕ) → n ≡ 0 → Item ≡ field_from n
unfolding field_from
field_item n e = rw e

pub field_limit : (n : ℕ) → n ≡ 1 → Limit ≡ field_from n
unfolding field_from
field_limit n e = rw e

pub field_rest : (n : ℕ) → (n ≡ 0 → ⊥) → (n ≡ 1 → ⊥) → Requirements ≡ field_from n
unfolding field_from
field_rest zero p q = absurd (p refl)
field_rest (suc zero) p q = absurd (q refl)
field_rest (suc (suc n)) p q = refl

pub place_low : (n i : ℕ) → n < 3 → i ≡ place_for n i
unfolding place_for
place_low zero i l = refl
place_low (suc zero) i l = refl
place_low (suc (suc zero)) i l = refl
place_low (suc (suc (suc n))) i l = absurd (omega arith)

pub place_high : (n i : ℕ) → 3 ≤ n → slot_count ≡ place_for n i
unfolding place_for
place_high zero i l = absurd (omega arith)
place_high (suc zero) i l = absurd (omega arith)
place_high (suc (suc zero)) i l = absurd (omega arith)
place_high (suc (suc (suc n))) i l = refl

-- the call by the answers of what it calls: the place p, the field f and the slot y
module _ (t : Table) (h : Model.Sheet) (a : Arrays) (u i n : ℕ) (x : Contents) (r p : ℕ) (f : Field) (y : Slot) (e : p ≡ place_for n i) (d : f ≡ field_from n) (g : y ≡ slot_by x) (k : r ≡ edit_refusal t h (edit_of u p f y)) where
  known : r ≡ edit_refusal t h (edit_of u (place_for n i) (field_from n) (slot_by x))
  known = k ∙ rw (e, d, g)

  pub arrays_not : (r ≡ 0 → ⊥) → record { refusal = r; arrays = a } ≡ arrays_edited t h a u i n x
  unfolding arrays_edited
  arrays_not q = by r known q
    where
      by : (m : ℕ) → m ≡ edit_refusal t h (edit_of u (place_for n i) (field_from n) (slot_by x)) → (m ≡ 0 → ⊥) → record { refusal = m; arrays = a } ≡ edited_as (edit_refusal t h (edit_of u (place_for n i) (field_from n) (slot_by x))) (arrays_with (field_from n) x (place_for n i) a) a
      by zero w q = absurd (q refl)
      by (suc m) w q = ap (λ m. edited_as m (arrays_with (field_from n) x (place_for n i) a) a) w

  pub place_inside : r ≡ 0 → p < slot_count
  place_inside q = (allowed t h (edit_of u p f y) (sym k ∙ q)).slot

  pub arrays_now : r ≡ 0 → (b : Arrays) → b ≡ arrays_with f x p a → record { refusal = 0; arrays = b } ≡ arrays_edited t h a u i n x
  unfolding arrays_edited
  arrays_now q b w =
      ap (λ (c : Arrays). record { refusal = 0; arrays = c }) (w ∙ ap (λ m. arrays_with f x m a) e ∙ ap (λ (g : Field). arrays_with g x (place_for n i) a) d)
      ∙ ap (λ m. edited_as m (arrays_with (field_from n) x (place_for n i) a) a) (sym q ∙ known)

-- ---- the loop over the slots that are shown

pub record ShownUpTo (t : Table) (u : ℕ) (first : Arrays) (i : ℕ) (out : Arrays) : Type 0 where
  pub few : i ≤ slot_count
  pub is : out ≡ first_shown t u i first

module _ (t : Table) (u : ℕ) (first : Arrays) where
  pub shown_start : ShownUpTo t u first 0 first
  unfolding first_shown
  shown_start = record { few = omega arith; is = refl }

  pub shown_more : (i : ℕ) (out : Arrays) → ShownUpTo t u first i out → i < slot_count → (r : Arrays) → r ≡ shown_at (t u i) i out → ShownUpTo t u first (i + 1) r
  unfolding first_shown
  shown_more i out k l r e = rw (add-one i) (record { few = l; is = e ∙ ap (shown_at (t u i) i) k.is })

  -- accepted
  pub shown_end : (i : ℕ) (out : Arrays) → ShownUpTo t u first i out → slot_count ≤ i → u < user_count → record { refusal = 0; arrays = out } ≡ arrays_shown t first u
  unfolding arrays_shown
  shown_end i out k l m =
      let z : i ≡ slot_count = omega (arith, k.few) in
      let d : out ≡ first_shown t u slot_count first = k.is ∙ ap (λ n. first_shown t u n first) z in
      rw (d, lt-ltb u user_count m)

  pub shown_not : (out : Arrays) → out ≡ no_arrays → user_count ≤ u → record { refusal = no_user; arrays = out } ≡ arrays_shown t first u
  unfolding arrays_shown
  shown_not out e l = rw (e, le-ltb u user_count l)
