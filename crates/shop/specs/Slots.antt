-- Sheets, slots and shops as values: what check 8 tells of the entries, and slots put into a shop one by one. Assumes nothing.
use Rattle.std.specs.Prelude.{◌≡◌, refl, false, cond, ◌&&◌, ltb, pos, negsuc, length, take, get_or, set}
use Rattle.std.proofs.Common.{ap, ◌∙◌}
use Rattle.std.proofs.Math.Bool.{Bool, true}
use mathlib.Core.List.{List, [], ◌∷◌, map}
use Prim.Native.Nat.{ℕ, zero, suc, ◌+◌, ◌*◌, ◌-◌, ◌/◌, ◌%◌, ◌≤◌, ◌<◌}
use native.Mathlib.Omega.{arith}
use Rattle.std.proofs.Math.Dec.{leb}
use Rattle.std.proofs.Math.ListN.{get_or-map, length-map}
use borrow.Author.Tests.{ltb-true, ltb-false, leb-true}
use Rattle.model.specs.Limits.{fewest_items, most_items, most_atcs, entry_limit, slot_count, wide, half32}
use Rattle.model.specs.Sheet as Model
use Rattle.model.specs.Sheet.{sheet_ok, timers_ok, atc_known, item_count, atc_for, all}
use Rattle.model.specs.Shop.{slot_ok, item_known, req_known, with_slots}
use Rattle.model.specs.Printer.{atc_entry}
use Rattle.model.proofs.Laws.Checks.{and_left, and_right}
use Rattle.model.proofs.Laws.Places.{padded_all}
use Rattle.shop_codes.specs.Codes.{code_of, id_of, of_kind, unshift, requirement_of, AllNarrow}
use Rattle.shop.specs.Shapes.{sheet_of, atc_at, entries, item_of, parts_ok, slot_of, slots_of, placed}
use Rattle.shop.specs.Sets.{Exact, AllExact}
use Rattle.shop_codes.specs.Laws.{shift_unshift, codes_narrow}
use Rattle.shop.specs.declared.Sheet.{Sheet}
use Rattle.shop.specs.declared.Slot.{Slot}
use Rattle.shop.specs.declared.Shop.{Shop}

-- the atc of an item, as the slice has it
pub atc_for_lem : (ks : List ℕ) (h : Sheet) (i : ℕ) → atc_for (sheet_of ks h) i ≡ atc_entry (atc_at ks i)
unfolding sheet_of
atc_for_lem ks h i = get_or-map atc_entry ks i 0

-- ---- entries

-- within the array, the entries are its first ones
pub entries_take : (n : ℕ) (cs : List ℕ) → n ≤ length cs → entries n cs ≡ take n cs
unfolding entries
entries_take zero cs h = refl
entries_take (suc n) [] h = absurd (omega arith)
entries_take (suc n) (c ∷ cs) h = ap (λ l. c ∷ l) (entries_take n cs (omega arith))

pub entries_length : (n : ℕ) (cs : List ℕ) → length (entries n cs) ≡ n
unfolding entries
entries_length zero cs = refl
entries_length (suc n) [] = ap suc (entries_length n [])
entries_length (suc n) (c ∷ cs) = ap suc (entries_length n cs)

pub slot_narrow : (x : Slot) → AllNarrow (slot_of x).requirements
unfolding slot_of
slot_narrow x = codes_narrow (entries x.len x.requirements)

-- ---- an entry on the sheet is the code of what it stands for

id_exact : (n m : ℕ) → m ≤ most_items → ltb (id_of (unshift n)) m ≡ true → id_of (unshift n) + half32 ≡ n
id_exact n m h = by (ltb n half32) refl
  where
    by : (b : Bool) → ltb n half32 ≡ b → ltb (id_of (cond b (negsuc (half32 - suc n)) (pos (n - half32)))) m ≡ true
        → id_of (cond b (negsuc (half32 - suc n)) (pos (n - half32))) + half32 ≡ n
    by true e f = absurd (omega (arith, ltb-true most_items m f))
    by false e f = omega (arith, ltb-false n half32 e)

module _ (h : Model.Sheet) (p : item_count h ≤ most_items) (q : h.atc_count ≤ most_items) where
  kind_exact : (k n : ℕ) → req_known h (of_kind k (unshift n)) ≡ true → code_of (of_kind k (unshift n)) ≡ k * wide + n
  kind_exact zero n e = omega (arith, id_exact n (item_count h) p e)
  kind_exact (suc zero) n e = omega (arith, id_exact n (item_count h) p e)
  kind_exact (suc (suc zero)) n e = omega (arith, id_exact n h.atc_count q e)
  kind_exact (suc (suc (suc zero))) n e = omega (arith, id_exact n h.atc_count q e)
  kind_exact (suc (suc (suc (suc zero)))) n e = omega (arith, shift_unshift n)
  kind_exact (suc (suc (suc (suc (suc zero))))) n e = omega (arith, shift_unshift n)
  kind_exact (suc (suc (suc (suc (suc (suc k)))))) n e = absurd (omega (arith, ltb-true most_items (item_count h) e))

  code_exact : (c : ℕ) → req_known h (requirement_of c) ≡ true → code_of (requirement_of c) ≡ c
  unfolding requirement_of
  code_exact c e = kind_exact (c / wide) (c % wide) e ∙ omega arith

  codes_exact : (cs : List ℕ) → all (req_known h) (map requirement_of cs) ≡ true → map code_of (map requirement_of cs) ≡ cs
  codes_exact [] e = refl
  codes_exact (c ∷ cs) e =
      let a = code_exact c (and_left _ _ e) in
      let b = codes_exact cs (and_right (req_known h (requirement_of c)) _ e) in
      rw (a, b)

-- check 8 of a slot by its parts
pub parts_slot : (h : Model.Sheet) (x : Slot) → parts_ok h x.item (entries x.len x.requirements) ≡ slot_ok h (slot_of x)
unfolding slot_of
parts_slot h x = refl

-- each slot of a shop that passed check 8
slots_pass : (h : Model.Sheet) (xs : List Slot) (i : ℕ) (d : Slot) → all (slot_ok h) (map slot_of xs) ≡ true → i < length xs → slot_ok h (slot_of (get_or xs i d)) ≡ true
slots_pass h [] i d f l = absurd (omega arith)
slots_pass h (x ∷ xs) zero d f l = and_left (slot_ok h (slot_of x)) _ f
slots_pass h (x ∷ xs) (suc i) d f l = slots_pass h xs i d (and_right (slot_ok h (slot_of x)) _ f) (omega arith)

pub shop_slot : (h : Model.Sheet) (s : Shop) (i : ℕ) (d : Slot) → all (slot_ok h) (slots_of s) ≡ true → i < length s.slots → slot_ok h (slot_of (get_or s.slots i d)) ≡ true
unfolding slots_of
shop_slot h s i d f l = slots_pass h s.slots i d f l

-- a sheet that passed check 1
module _ (h : Model.Sheet) (e : sheet_ok h ≡ true) where
  counts : (leb fewest_items (item_count h) && leb (item_count h) most_items) && leb h.atc_count most_atcs ≡ true
  unfolding sheet_ok
  counts = and_left _ (all (atc_known h.atc_count) h.atc_of) (and_left _ (timers_ok h) e)

  pub items_few : item_count h ≤ most_items
  items_few = leb-true (item_count h) most_items (and_right (leb fewest_items (item_count h)) _ (and_left (leb fewest_items (item_count h) && leb (item_count h) most_items) _ counts))

  pub atcs_few : h.atc_count ≤ most_atcs
  atcs_few = leb-true h.atc_count most_atcs (and_right (leb fewest_items (item_count h) && leb (item_count h) most_items) _ counts)

  -- .. and a slot that passed check 8
  pub slot_exact : (x : Slot) → slot_ok h (slot_of x) ≡ true → Exact x
  unfolding slot_of
  slot_exact x f =
      let es : List ℕ = entries x.len x.requirements in
      let few : Bool = leb (length (map requirement_of es)) entry_limit in
      let g : few && all (req_known h) (map requirement_of es) ≡ true = and_right (item_known h (item_of x.item)) _ f in
      record {
        few = omega (arith, leb-true (length (map requirement_of es)) entry_limit (and_left few _ g), length-map es requirement_of, entries_length x.len x.requirements);
        same = codes_exact h items_few (omega (arith, atcs_few)) es (and_right few _ g);
      }

  -- .. of a shop that passed it
  pub shop_exact : (s : Shop) → all (slot_ok h) (slots_of s) ≡ true → AllExact s
  shop_exact s f = record { slot = λ i d l. slot_exact (get_or s.slots i d) (shop_slot h s i d f l) }

-- ---- slots put into a shop

map_set : (l : List Slot) (i : ℕ) (x : Slot) → map slot_of (set l i x) ≡ set (map slot_of l) i (slot_of x)
map_set [] i x = refl
map_set (y ∷ l) zero x = refl
map_set (y ∷ l) (suc i) x = ap (λ t. slot_of y ∷ t) (map_set l i x)

pub slots_placed : (s : Shop) (i : ℕ) (x : Slot) → slots_of (placed s i x) ≡ set (slots_of s) i (slot_of x)
unfolding slots_of
slots_placed s i x = map_set s.slots i x

-- ---- twenty slots are neither dropped nor filled up

pub with_all : (s : Shop) → length s.slots ≡ slot_count → with_slots (slots_of s) ≡ slots_of s
unfolding slots_of
with_all s e = padded_all slot_count (slots_of s) (length-map s.slots slot_of ∙ e)
