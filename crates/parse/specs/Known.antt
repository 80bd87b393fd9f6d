-- Each item that parsing leaves in a slot is on the sheet, so the arrays that stand for the slots are those of the shop. Assumes nothing.
use Rattle.std.specs.Prelude.{Some, ◌≡◌, Bool, cond, List, [], ◌∷◌, ltb, ℤ, pos, negsuc, length, get_or, replicate}
use Rattle.std.proofs.Math.Path.{refl}
use Rattle.std.proofs.Common.{sym, ap, ◌∙◌, arith, ltb-true}
use Rattle.std.proofs.Math.Bool.{true, false}
use Rattle.std.proofs.Math.Option.{Option, none, some}
use Prim.Native.Nat.{ℕ, zero, suc, ◌≤◌, ◌<◌}
use Rattle.std.proofs.Math.ListN.{get_or-map}
use Rattle.model.specs.Limits.{slot_count, most_items}
use Rattle.model.specs.Expr.{Expr}
use Rattle.model.specs.Requirement.{Requirement}
use Rattle.model.specs.Script.{Command, Block, placeholder, code, data_block, block_at}
use Rattle.model.specs.Sheet.{Sheet, item_count}
use Rattle.model.specs.Shop.{Slot, empty_slot}
use Rattle.model.specs.Parse.{fill_item, update_slot, update_slots, State, scanned, parse_requirements, visited, passed_over, parse_block, start, parse}
use Rattle.shop.specs.Shapes.{entries, item_of, slot_of, slots_of, no_slot}
use Rattle.shop_arrays.specs.Arrays.{Arrays, no_such_item, slot_at, shop_from, arrays_of}
use Rattle.shop_arrays.specs.Slots.{slot_in_lem}
use Rattle.shop_arrays.specs.Back.{Full, arrays_back}

-- ---- the items of the slots are below n

abbrev Low : ℕ → Option ℕ → Type 0
Low n o = (k : ℕ) → o ≡ some k → k < n

abbrev Known : ℕ → List Slot → Type 0
Known n [] = Unit {0}
Known n (x ∷ xs) = Low n x.item × Known n xs

none_low : (n : ℕ) → Low n none
none_low n k e = let z : ◌≡◌ {A = ℕ} 0 1 = cc in absurd (omega arith)

fill_low : (n : ℕ) (o : Option ℕ) (k : ℕ) → Low n o → Low n (fill_item o k (ltb k n))
fill_low n (some w) k l = l
fill_low n none k l = by (ltb k n) refl
  where
    by : (b : Bool) → ltb k n ≡ b → Low n (cond b (some k) none)
    by true e = λ j q. let s : k ≡ j = cc in omega (arith, ltb-true k n e)
    by false e = none_low n

module _ (h : Sheet) where
  abbrev n : ℕ
  n = item_count h

  slot_low : (rs : List Requirement) (o c : Option ℤ) (x : Slot) → Low n x.item → Low n (update_slot h rs o c x).item
  slot_low rs o none x l = l
  slot_low rs none (some z) x l = l
  slot_low rs (some (negsuc k)) (some z) x l = l
  slot_low rs (some (pos k)) (some z) x l = fill_low n x.item k l

  slots_known : (rs : List Requirement) (ms cs : List (Option ℤ)) (xs : List Slot) → Known n xs → Known n (update_slots h rs ms cs xs)
  slots_known rs [] cs xs l = l
  slots_known rs (a ∷ ms) [] xs l = l
  slots_known rs (a ∷ ms) (b ∷ cs) [] l = l
  slots_known rs (a ∷ ms) (b ∷ cs) (x ∷ xs) l = (slot_low rs a b x l.0, slots_known rs ms cs xs l.1)

  visit_known : (b : ℕ) (c : Option Expr) (cs : List Command) (st : State) → Known n st.slots → Known n (visited h b c cs st).slots
  unfolding visited
  visit_known b c cs st l = slots_known (parse_requirements h c) (scanned c cs st).items (scanned c cs st).counts st.slots l

  module _ (bs : List Block) where
    block_known : (f b : ℕ) (c : Option Expr) (st : State) → Known n st.slots → Known n (parse_block h bs f b c st).slots
    unfolding parse_block
    block_known zero b c st l = l
    block_known (suc f) b c st l = by (λ k d t. block_known f k d t) (passed_over st b) refl (block_at bs b) refl
      where
        by : ((k : ℕ) (d : Option Expr) (t : State) → Known n t.slots → Known n (parse_block h bs f k d t).slots) → (p : Bool) → passed_over st b ≡ p
            → (x : Block) → block_at bs b ≡ x → Known n (parse_block h bs (suc f) b c st).slots
        by ih true z x q = rw (z, parse_block) l
        by ih false z placeholder q = rw (z, q, parse_block) l
        by ih false z data_block q = rw (z, q, parse_block) l
        by ih false z (code cs none el) q = rw (z, q, parse_block) (visit_known b c cs st l)
        by ih false z (code cs (some k) none) q = rw (z, q, parse_block) (ih k (scanned c cs st).on_next (visited h b c cs st) (visit_known b c cs st l))
        by ih false z (code cs (some k) (some j)) q =
            rw (z, q, parse_block)
            (ih j (scanned c cs st).on_else (parse_block h bs f k (scanned c cs st).on_next (visited h b c cs st)) (ih k (scanned c cs st).on_next (visited h b c cs st) (visit_known b c cs st l)))

    empties_known : (k : ℕ) → Known n (replicate k empty_slot)
    empties_known zero = tt
    empties_known (suc k) = (none_low n, empties_known k)

    parse_known : (b : ℕ) → Known n (parse h bs b).slots
    unfolding parse
    parse_known b = block_known (suc (length bs)) b none (start bs) (empties_known slot_count)

-- ---- so none of them is the item that no sheet has

known_at : (n : ℕ) (xs : List Slot) (j : ℕ) → Known n xs → Low n (get_or xs j empty_slot).item
known_at n [] j l = none_low n
known_at n (x ∷ xs) zero l = l.0
known_at n (x ∷ xs) (suc j) l = known_at n xs j l.1

pub slots_arrays : (h : Sheet) (bs : List Block) (b : ℕ) (a : Arrays) → Full a → item_count h ≤ most_items → slots_of (shop_from a) ≡ (parse h bs b).slots → a ≡ arrays_of (shop_from a)
unfolding slots_of slot_of entries
slots_arrays h bs b a full few e = arrays_back a full below
  where
    below : (j : ℕ) → j < slot_count → (slot_at a j).item ≡ Some (record { 0 = no_such_item }) → ⊥
    below j k i =
        let s : (get_or (parse h bs b).slots j empty_slot).item ≡ some no_such_item =
        ap (λ (xs : List Slot). (get_or xs j empty_slot).item) (sym e) ∙ ap (λ (x : Slot). x.item) (get_or-map slot_of (shop_from a).slots j no_slot) ∙ ap (λ x. (slot_of x).item) (slot_in_lem a j no_slot k) ∙ ap item_of i in
        omega (arith, known_at (item_count h) (parse h bs b).slots j (parse_known h bs b) no_such_item s)
