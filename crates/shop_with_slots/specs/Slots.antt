-- The shop that the twenty stand for has the slots that were given, cut and filled up as 01 says. Assumes nothing.
use Rattle.std.specs.Prelude.{◌≡◌, length, take, drop}
use Rattle.std.proofs.Math.Path.{refl, sym, ap}
use Rattle.std.proofs.Common.{ap₂, ◌∙◌, arith, get_or-take}
use mathlib.Core.List.{List, [], ◌∷◌, map}
use Prim.Native.Nat.{ℕ, zero, suc, ◌+◌, ◌-◌, ◌*◌, ◌≤◌, ◌<◌}
use Rattle.std.proofs.Math.Decide.{dec_le}
use Rattle.std.proofs.Math.IntN.{pos, negsuc}
use Rattle.std.proofs.Math.ListN.{get_or, length-take, get_or-eq_default}
use Rattle.model.specs.Limits.{entry_limit, slot_count}
use Rattle.model.specs.Shop as Model
use Rattle.model.specs.Shop.{empty_slot, padded, with_slots}
use Rattle.model.proofs.Laws.Places.{any_default}
use Rattle.shop.specs.Shapes.{entries, slot_of, slots_of}
use Rattle.shop_arrays.specs.Arrays.{Arrays, item_from, row_at, slot_at, slots_from, shop_from}
use Rattle.shop_arrays.specs.Slots.{row_at_lem}
use Rattle.shop_with_slots.specs.Twenty.{filled, twenty, slots_in}

module _ {A : Type 0} (z : A) where
  pub filled_take : (n m : ℕ) (xs : List A) → n ≤ m → filled z n (take m xs) ≡ filled z n xs
  unfolding filled
  filled_take zero m xs h = refl
  filled_take (suc n) zero xs h = absurd (omega arith)
  filled_take (suc n) (suc m) [] h = refl
  filled_take (suc n) (suc m) (x ∷ xs) h = ap (λ l. x ∷ l) (filled_take n m xs (omega arith))

  pub get_d_filled : (n j : ℕ) (xs : List A) (d : A) → j < n → get_or (filled z n xs) j d ≡ get_or xs j z
  unfolding filled
  get_d_filled zero j xs d h = absurd (omega arith)
  get_d_filled (suc n) zero [] d h = refl
  get_d_filled (suc n) zero (x ∷ xs) d h = refl
  get_d_filled (suc n) (suc j) [] d h = get_d_filled n j [] d (omega arith)
  get_d_filled (suc n) (suc j) (x ∷ xs) d h = get_d_filled n j xs d (omega arith)

  -- of so many elements at most
  pub get_d_cut : (n k j : ℕ) (xs : List A) → j < n → j < k → get_or (filled z n (take k xs)) j z ≡ get_or xs j z
  get_d_cut n k j xs h l = get_d_filled n j (take k xs) z h ∙ get_or-take k xs j z l

  pub get_d_past : (n k j : ℕ) (xs : List A) → j < n → k ≤ j → get_or (filled z n (take k xs)) j z ≡ z
  get_d_past n k j xs h l = get_d_filled n j (take k xs) z h ∙ get_or-eq_default (take k xs) z {n = j} (omega (arith, length-take k xs))

-- ---- the slots

-- entries are told by the codes at their places
entries_same : (n : ℕ) (xs ys : List ℕ) → ((j : ℕ) → get_or xs j 0 ≡ get_or ys j 0) → entries n xs ≡ entries n ys
unfolding entries
entries_same zero xs ys h = refl
entries_same (suc n) [] [] h = refl
entries_same (suc n) [] (y ∷ ys) h = ap₂ (λ (x : ℕ) (l : List ℕ). x ∷ l) (h 0) (entries_same n [] ys (λ j. h (suc j)))
entries_same (suc n) (x ∷ xs) [] h = ap₂ (λ (x : ℕ) (l : List ℕ). x ∷ l) (h 0) (entries_same n xs [] (λ j. h (suc j)))
entries_same (suc n) (x ∷ xs) (y ∷ ys) h = ap₂ (λ (x : ℕ) (l : List ℕ). x ∷ l) (h 0) (entries_same n xs ys (λ j. h (suc j)))

module _ (a : Arrays) (i : ℕ) (h : i < slot_count) where
  abbrev k : ℕ
  k = length a.items

  row_same : i < k → (j : ℕ) → get_or (row_at (twenty a).codes i) j 0 ≡ get_or (row_at a.codes i) j 0
  unfolding twenty
  row_same l j = by (dec_le entry_limit j)
    where
      by : Dec (entry_limit ≤ j) → get_or (row_at (twenty a).codes i) j 0 ≡ get_or (row_at a.codes i) j 0
      by (yes g) =
          get_or-eq_default (row_at (twenty a).codes i) 0 {n = j} (omega (arith, length-take entry_limit (drop (entry_limit * i) (twenty a).codes)))
          ∙ sym (get_or-eq_default (row_at a.codes i) 0 {n = j} (omega (arith, length-take entry_limit (drop (entry_limit * i) a.codes))))
      by (no g) =
          row_at_lem (twenty a).codes i j (omega arith)
          ∙ get_d_cut 0 (entry_limit * slot_count) (entry_limit * k) (entry_limit * i + j) a.codes (omega arith) (omega arith)
          ∙ sym (row_at_lem a.codes i j (omega arith))

  -- a slot that was given
  slot_same : i < k → slot_of (slot_at (twenty a) i) ≡ slot_of (slot_at a i)
  unfolding twenty slot_of slot_at
  slot_same l =
      let item : get_or (twenty a).items i (pos 0) ≡ get_or a.items i (pos 0) = get_d_filled (negsuc 0) slot_count i a.items (pos 0) h ∙ any_default a.items i (negsuc 0) (pos 0) l in
      let limit : get_or (twenty a).limits i (pos 0) ≡ get_or a.limits i (pos 0) = get_d_cut (pos 0) slot_count k i a.limits h l in
      let len : get_or (twenty a).lens i 0 ≡ get_or a.lens i 0 = get_d_cut 0 slot_count k i a.lens h l in
      rw (item, limit, len, entries_same (get_or a.lens i 0) (row_at (twenty a).codes i) (row_at a.codes i) (row_same l))

  -- a missing one
  slot_empty : k ≤ i → slot_of (slot_at (twenty a) i) ≡ empty_slot
  unfolding twenty slot_of slot_at item_from entries
  slot_empty l =
      let item : get_or (twenty a).items i (pos 0) ≡ negsuc 0 = get_d_filled (negsuc 0) slot_count i a.items (pos 0) h ∙ get_or-eq_default a.items (negsuc 0) {n = i} l in
      let limit : get_or (twenty a).limits i (pos 0) ≡ pos 0 = get_d_past (pos 0) slot_count k i a.limits h l in
      let len : get_or (twenty a).lens i 0 ≡ 0 = get_d_past 0 slot_count k i a.lens h l in
      rw (item, limit, len)

-- n slots from slot i on, of which m were given
slots_from_lem : (a : Arrays) (n m i : ℕ) → i + n ≡ slot_count → m ≡ length a.items - i → map slot_of (slots_from (twenty a) i n) ≡ padded n (map slot_of (slots_from a i m))
unfolding slots_from padded
slots_from_lem a zero m i e f = refl
slots_from_lem a (suc n) zero i e f = ap₂ (λ (x : Model.Slot) (l : List Model.Slot). x ∷ l) (slot_empty a i (omega arith) (omega arith)) (slots_from_lem a n zero (suc i) (omega arith) (omega arith))
slots_from_lem a (suc n) (suc m) i e f = ap₂ (λ (x : Model.Slot) (l : List Model.Slot). x ∷ l) (slot_same a i (omega arith) (omega arith)) (slots_from_lem a n m (suc i) (omega arith) (omega arith))

-- further ones are dropped, missing ones are empty
pub slots_are : (a : Arrays) → slots_of (shop_from (twenty a)) ≡ with_slots (slots_in a)
unfolding slots_of shop_from slots_in
slots_are a = slots_from_lem a slot_count (length a.items) 0 refl (omega arith)
