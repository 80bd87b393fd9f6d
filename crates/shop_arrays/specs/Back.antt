-- The arrays of the shop that arrays stand for are those arrays, unless a slot has the item that every number which no item can have stands for. Assumes nothing.
use Rattle.std.specs.Prelude.{◌≡◌, refl, List, [], ◌++◌, map, ℕ, zero, suc, ◌+◌, ◌*◌, ◌≤◌, ◌<◌, ℤ, pos, negsuc, length, get_or, take, drop, Some}
use Rattle.std.proofs.Math.Path.{sym}
use Rattle.std.proofs.Common.{ap, ◌∙◌, arith, take-add, drop-drop, ext_get_or, lt-ltb, le-ltb}
use Rattle.std.proofs.Math.Decide.{dec_le}
use Rattle.std.proofs.lemmas.List.{length-map}
use Rattle.std.proofs.Math.ListN.{get_or-map}
use Rattle.std.proofs.Math.Seq.{take_all}
use Rattle.model.specs.Limits.{slot_count, entry_limit}
use Rattle.shop.specs.Shapes.{no_shop}
use Rattle.shop.specs.declared.Slot.{Slot}
use Rattle.shop_arrays.specs.Arrays.{Arrays, arrays_in, no_such_item, item_from, item_to, slot_at, slots_from, shop_from, rows, arrays_of}
use Rattle.shop_arrays.specs.Slots.{slots_long, slot_in_lem, no_arrays}

-- as long as the arrays of a shop
pub record Full (a : Arrays) : Type 0 where
  pub items : length a.items ≡ slot_count
  pub limits : length a.limits ≡ slot_count
  pub codes : length a.codes ≡ entry_limit * slot_count
  pub lens : length a.lens ≡ slot_count

pub none_back : no_arrays ≡ arrays_of no_shop
unfolding arrays_of
none_back = refl

number_back : (z : ℤ) → (item_from z ≡ Some (record { 0 = no_such_item }) → ⊥) → item_to (item_from z) ≡ z
unfolding item_from
number_back (pos n) d = by (dec_le n no_such_item)
  where
    by : Dec (n ≤ no_such_item) → item_to (item_from (pos n)) ≡ pos n
    by (yes l) = rw (le-ltb no_such_item n l)
    by (no l) = absurd (d (rw (lt-ltb no_such_item n (omega arith))))
number_back (negsuc zero) d = refl
number_back (negsuc (suc n)) d = absurd (d refl)

-- what a column holds past its end
past : Slot
past = record { item = Some (record { 0 = 0 }); limit = pos 0; requirements = []; len = 0 }

column : {B : Type 0} (f : Slot → B) (a : Arrays) (l : List B) → length l ≡ slot_count → ((j : ℕ) → j < slot_count → f (slot_at a j) ≡ get_or l j (f past)) → map f (shop_from a).slots ≡ l
column f a l e h =
    ext_get_or (f past) (map f (shop_from a).slots) l (length-map (shop_from a).slots f ∙ slots_long a ∙ sym e)
    (λ j k.
    let m : j < slot_count = omega (arith, length-map (shop_from a).slots f, slots_long a) in
    get_or-map f (shop_from a).slots j past ∙ ap f (slot_in_lem a j past m) ∙ h j m)

rows_from : (a : Arrays) (i n : ℕ) → rows (slots_from a i n) ≡ take (entry_limit * n) (drop (entry_limit * i) a.codes)
unfolding slots_from slot_at
rows_from a i zero = refl
rows_from a i (suc n) =
    let c = drop (entry_limit * i) a.codes in
    let e : entry_limit * suc i ≡ entry_limit * i + entry_limit = omega arith in
    let s : entry_limit + entry_limit * n ≡ entry_limit * suc n = omega arith in
    ap (λ l. take entry_limit c ++ l) (rows_from a (suc i) n ∙ ap (take (entry_limit * n)) (ap (λ k. drop k a.codes) e ∙ sym (drop-drop entry_limit (entry_limit * i) a.codes)))
    ∙ sym (take-add entry_limit (entry_limit * n) c)
    ∙ ap (λ k. take k c) s

pub same_arrays : {is js ls ms : List ℤ} {cs ds ns ps : List ℕ} → is ≡ js → ls ≡ ms → cs ≡ ds → ns ≡ ps → arrays_in is ls cs ns ≡ arrays_in js ms ds ps
same_arrays e f g h = rw (e, f, g, h)

module _ (a : Arrays) (full : Full a) where
  rows_back : rows (shop_from a).slots ≡ a.codes
  unfolding shop_from
  rows_back = rows_from a 0 slot_count ∙ take_all (entry_limit * slot_count) a.codes (omega (arith, full.codes))

  pub arrays_back : ((j : ℕ) → j < slot_count → (slot_at a j).item ≡ Some (record { 0 = no_such_item }) → ⊥) → a ≡ arrays_of (shop_from a)
  unfolding arrays_of slot_at past
  arrays_back d =
      sym
      (same_arrays (column (λ (x : Slot). item_to x.item) a a.items full.items (λ j h. number_back (get_or a.items j (pos 0)) (d j h)))
      (column (λ (x : Slot). x.limit) a a.limits full.limits (λ j h. refl)) rows_back
      (column (λ (x : Slot). x.len) a a.lens full.lens (λ j h. refl)))
