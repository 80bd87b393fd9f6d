-- The arrays of a shop word by word, and what the calls answer by what was read or printed. Assumes nothing.
use Rattle.std.proofs.Math.Path.{◌≡◌, refl, ap}
use Rattle.std.proofs.Common.{◌∙◌, arith, add-one, leb-true, length-set, take-suc, take-suc-set}
use Rattle.std.specs.Prelude.{true, false, pos, negsuc, length, take, set, Ok, Err}
use mathlib.Core.List.{List, ◌∷◌, map}
use Prim.Native.Nat.{ℕ, zero, suc, ◌+◌, ◌≤◌, ◌<◌}
use Rattle.std.proofs.Math.IntN.{ℤ}
use Rattle.std.proofs.Math.ListN.{get_or, replicate, length-replicate, get_or-map}
use Rattle.std.proofs.lemmas.List.{length-map}
use Rattle.model.specs.Limits.{slot_count, entry_limit}
use Rattle.model.proofs.Laws.Checked.{all_at}
use Rattle.model.specs.Printer.{slot_lines}
use Rattle.model.specs.Sheet.{all}
use Rattle.shop.specs.Shapes.{slots_of}
use Rattle.std.specs.Prelude as prelude
use Rattle.shop.specs.declared.Slot.{Slot}
use Rattle.shop.specs.declared.Shop.{Shop}
use Rattle.shop_arrays.specs.Arrays.{Arrays, arrays_in, item_from, item_to, slot_at, slots_from, shop_from, rows, items_of, limits_of, lens_of, arrays_of}
use Rattle.shop_arrays.specs.Back.{Full, arrays_back}
use Rattle.shop_arrays.specs.Slots.{slots_long, slot_in_lem}
use Rattle.slots_text.specs.Written.{Wrote, text_limit}
use Rattle.slots_text.specs.Lines.{beyond, FewEach, lines_space}
use Rattle.text_model.specs.Text.{ReadText, slots, bad}
use Rattle.text_read.specs.Faults.{fault_number}
use Rattle.text_read.specs.Shops.{shop_for, text_shop, text_of}
use Rattle.text_read.specs.declared.BadLine.{BadLine}
use Rattle.capi_text.specs.Calls.{read_call, few, print_call}

-- ---- items put one by one

-- the first i items are those of the shop
pub record ItemsPut (s : Shop) (is : List ℤ) (i : ℕ) : Type 0 where
  pub long : length is ≡ slot_count
  pub same : take i is ≡ take i (items_of s)

module _ (s : Shop) (is : List ℤ) (i : ℕ) (u : ItemsPut s is i) (size : length s.slots ≡ slot_count) where
  pub items_next : (d : Slot) (z : ℤ) → i < slot_count → z ≡ item_to (get_or s.slots i d).item → ItemsPut s (set is i z) (i + 1)
  items_next d z h q =
      let f : Slot → ℤ = λ x. item_to x.item in
      let l : i < length is = omega (arith, u.long) in
      let m : i < length (items_of s) = omega (arith, length-map s.slots f) in
      record {
        long = length-set is i z ∙ u.long;
        same = rw (add-one i, take-suc-set is i z l, take-suc (items_of s) i (f d) m, u.same, get_or-map f s.slots i d, q);
      }

-- ---- arrays that stand for a shop: all but the items are its words

no_items_lem : (n j : ℕ) → j < n → item_from (get_or (replicate n (negsuc 0)) j (pos 0)) ≡ prelude.None
unfolding item_from
no_items_lem zero j h = absurd (omega arith)
no_items_lem (suc n) zero h = refl
no_items_lem (suc n) (suc j) h = no_items_lem n j (omega arith)

module _ (is js ls : List ℤ) (cs ns : List ℕ) where
  same_limits : (i n : ℕ) → map (λ (x : Slot). x.limit) (slots_from (arrays_in is ls cs ns) i n) ≡ map (λ (x : Slot). x.limit) (slots_from (arrays_in js ls cs ns) i n)
  unfolding slots_from slot_at
  same_limits i zero = refl
  same_limits i (suc n) = ap (λ l. get_or ls i (pos 0) ∷ l) (same_limits (suc i) n)

  same_lens : (i n : ℕ) → map (λ (x : Slot). x.len) (slots_from (arrays_in is ls cs ns) i n) ≡ map (λ (x : Slot). x.len) (slots_from (arrays_in js ls cs ns) i n)
  unfolding slots_from slot_at
  same_lens i zero = refl
  same_lens i (suc n) = ap (λ l. get_or ns i 0 ∷ l) (same_lens (suc i) n)

  same_rows : (i n : ℕ) → rows (slots_from (arrays_in is ls cs ns) i n) ≡ rows (slots_from (arrays_in js ls cs ns) i n)
  unfolding slots_from slot_at
  same_rows i zero = refl
  same_rows i (suc n) = rw (same_rows (suc i) n)

module _ (is ls : List ℤ) (cs ns : List ℕ) (full : Full (arrays_in is ls cs ns)) where
  abbrev bare : Arrays
  bare = arrays_in (replicate slot_count (negsuc 0)) ls cs ns

  bare_back : bare ≡ arrays_of (shop_from bare)
  unfolding slot_at
  bare_back =
      arrays_back bare (record { items = length-replicate slot_count (negsuc 0); limits = full.limits; codes = full.codes; lens = full.lens })
      (λ j h e. let n = no_items_lem slot_count j h in let z : ◌≡◌ {A = ℕ} 0 1 = cc in omega arith)

  words : (s : Shop) → shop_from (arrays_in is ls cs ns) ≡ s → (ls ≡ limits_of s) × (cs ≡ rows s.slots) × (ns ≡ lens_of s)
  unfolding arrays_of shop_from
  words s e =
      let b : List ℤ = replicate slot_count (negsuc 0) in (
        ap (λ (a : Arrays). a.limits) bare_back ∙ same_limits b is ls cs ns 0 slot_count ∙ ap (λ (t : Shop). limits_of t) e,
        ap (λ (a : Arrays). a.codes) bare_back ∙ same_rows b is ls cs ns 0 slot_count ∙ ap (λ (t : Shop). rows t.slots) e,
        ap (λ (a : Arrays). a.lens) bare_back ∙ same_lens b is ls cs ns 0 slot_count ∙ ap (λ (t : Shop). lens_of t) e,
      )

  pub arrays_known : (s : Shop) (js : List ℤ) → shop_from (arrays_in is ls cs ns) ≡ s → js ≡ items_of s → arrays_in js ls cs ns ≡ arrays_of s
  unfolding arrays_of
  arrays_known s js e h = let w = words s e in rw (h, w.0, w.1, w.2)

-- ---- reading

pub read_refused : (x : ReadText) (b : BadLine) (a : Arrays) → text_of (Err b) ≡ text_shop x → record { reason = fault_number b.reason; line = b.line; arrays = a } ≡ read_call x a
read_refused (slots xs) b a e = let z : ◌≡◌ {A = ℕ} 0 1 = cc in absurd (omega arith)
read_refused (bad l n) b a e =
    let p : b.line ≡ l = cc in
    let q : fault_number b.reason ≡ n = cc in
    rw (p, q)

pub read_taken : (x : ReadText) (s : Shop) (a b : Arrays) → text_of (Ok s) ≡ text_shop x → b ≡ arrays_of s → record { reason = 0; line = 0; arrays = b } ≡ read_call x a
read_taken (slots xs) s a b e q = let f : s ≡ shop_for xs = cc in rw (q, f)
read_taken (bad l n) s a b e q = let z : ◌≡◌ {A = ℕ} 0 1 = cc in absurd (omega arith)

-- ---- printing

module _ (a : Arrays) where
  pub print_none : (out : List ℕ) → all few a.lens ≡ false → record { long = 0; out = out } ≡ print_call a out
  unfolding print_call
  print_none out h = rw h

  module _ (full : Full a) (h : all few a.lens ≡ true) (s : Shop) (same : s ≡ shop_from a) where
    pub few_slots : FewEach s
    unfolding slot_at
    few_slots = record { each = λ j l. rw (same, slot_in_lem a j beyond l) (leb-true _ entry_limit (all_at few a.lens 0 refl h j)) }

    pub text_short : length (slot_lines 0 (slots_of s)) ≤ text_limit
    text_short = let f = (lines_space s (ap (λ (t : Shop). length t.slots) same ∙ slots_long a) few_slots).fits in omega arith

    pub print_text : (out after : List ℕ) (r : ℕ) → Wrote out (slot_lines 0 (slots_of s)) after r → record { long = r; out = after } ≡ print_call a out
    unfolding print_call
    print_text out after r w = rw (h, ← same, w.is, w.long)
