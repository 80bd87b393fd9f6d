-- One more in the bag (02, A.14) as a tool asks it, without compiling: lk_preview of one shop under two saves alike but for one item, by its promise. Assumes nothing.
use Rattle.std.specs.Prelude.{◌≡◌, refl, false, List, [], ◌∷◌, map, ℕ, zero, suc, ℤ, pos, negsuc, get_or, length}
use Rattle.std.proofs.Common.{sym, ◌∙◌, arith}
use Rattle.std.proofs.Math.Path.{ap}
use Rattle.std.proofs.lemmas.List.{length-map}
use Rattle.std.proofs.Math.ListN.{get_or-map}
use Rattle.model.specs.Limits.{slot_count}
use Rattle.model.specs.Refusal.{first_of}
use Rattle.model.specs.Save.{Save}
use Rattle.model.specs.Sheet.{Sheet, save_refusal, sheet_refusal}
use Rattle.model.specs.Shop.{Slot, empty_slot, shop_refusal, with_slots}
use Rattle.model.specs.Flags.{flag_answer}
use Rattle.model.specs.Meaning.{Meaning, hidden, meaning_of, temp_after}
use Rattle.model.specs.Preview.{preview_call, preview_of}
use Rattle.preview.specs.Shown.{Answer, meanings_of, previewed_of}
use Rattle.preview.specs.Accepted.{counts_are, items_are, with_all}
use Rattle.shop_arrays.specs.Arrays.{Arrays}
use Rattle.capi.specs.declared.Previewed.{Previewed}
use Rattle.capi.specs.Answers.{previewed_as}
use Rattle.library.specs.Delivered.{shop_of}
use Rattle.library.proofs.Delivered.{shop_long}
use Rattle.moves_model.specs.OneMore.{Lower, OneMore, same, stocks}
use Rattle.moves_model.proofs.Held.{after_lower, slot_near}

-- what may differ between the answers of two previews, -1 standing where there is no item: of a slot of the item with limit above 1 the count, which is lower by 0 or 1, and variable 0 likewise
pub record PreviewsDiffer (h : Sheet) (w : ℕ) (xs : List Slot) (p q : Previewed) : Type 0 where
  pub items : (i : ℕ) → get_or p.items i (negsuc 0) ≡ get_or q.items i (negsuc 0)
  pub rest : (i : ℕ) → stocks h w (get_or xs i empty_slot) ≡ false → get_or p.counts i (pos 0) ≡ get_or q.counts i (pos 0)
  pub counts : (i : ℕ) → Lower (get_or p.counts i (pos 0)) (get_or q.counts i (pos 0))
  pub first : Lower p.temp q.temp

-- one that is not refused has the meanings of the slots
meanings : (h : Sheet) (a : Arrays) (s : Save) → (preview_call h (shop_of a) s).answer ≡ 0 → preview_call h (shop_of a) s ≡ meanings_of h (shop_of a) s
unfolding preview_call
meanings h a s e = by (first_of (sheet_refusal h ∷ shop_refusal h (shop_of a) ∷ save_refusal h s ∷ flag_answer (with_slots (shop_of a)) ∷ [])) e ∙ ap (λ (xs : List Slot). meanings_of h xs s) (with_all (shop_of a) (shop_long a))
  where
    by : (n : ℕ) → (preview_of n (map (meaning_of h s) (with_slots (shop_of a))) (temp_after h s (with_slots (shop_of a)) (get_or s.variables 0 (pos 0))) (get_or s.variables 0 (pos 0))).answer ≡ 0
        → preview_of n (map (meaning_of h s) (with_slots (shop_of a))) (temp_after h s (with_slots (shop_of a)) (get_or s.variables 0 (pos 0))) (get_or s.variables 0 (pos 0)) ≡ meanings_of h (with_slots (shop_of a)) s
    by zero z = refl
    by (suc n) z = absurd (omega arith)

module _ (h : Sheet) (a : Arrays) (s : Save) (p : Previewed) (promised : previewed_as p ≡ previewed_of (preview_call h (shop_of a) s)) (fine : p.refusal ≡ 0) where
  is : preview_call h (shop_of a) s ≡ meanings_of h (shop_of a) s
  unfolding previewed_of
  is = meanings h a s (sym (ap (λ (x : Answer). x.refusal) promised) ∙ fine)

  shown : previewed_as p ≡ previewed_of (meanings_of h (shop_of a) s)
  shown = promised ∙ ap previewed_of is

  twenty : length (meanings_of h (shop_of a) s).slots ≡ slot_count
  twenty = length-map (shop_of a) (meaning_of h s) ∙ shop_long a

  slots_are : (i : ℕ) → get_or (meanings_of h (shop_of a) s).slots i hidden ≡ meaning_of h s (get_or (shop_of a) i empty_slot)
  unfolding meaning_of
  slots_are i = get_or-map (meaning_of h s) (shop_of a) i empty_slot

  item_is : (i : ℕ) → get_or p.items i (negsuc 0) ≡ (meaning_of h s (get_or (shop_of a) i empty_slot)).item
  item_is i =
      let m = meanings_of h (shop_of a) s in
      ap (λ (x : Answer). get_or x.items i (negsuc 0)) shown
      ∙ ap (λ (zs : List ℤ). get_or zs i (negsuc 0)) (items_are m twenty) ∙ get_or-map (λ (x : Meaning). x.item) m.slots i hidden ∙ ap (λ (x : Meaning). x.item) (slots_are i)

  count_is : (i : ℕ) → get_or p.counts i (pos 0) ≡ (meaning_of h s (get_or (shop_of a) i empty_slot)).count
  count_is i =
      let m = meanings_of h (shop_of a) s in
      ap (λ (x : Answer). get_or x.counts i (pos 0)) shown
      ∙ ap (λ (zs : List ℤ). get_or zs i (pos 0)) (counts_are m twenty) ∙ get_or-map (λ (x : Meaning). x.count) m.slots i hidden ∙ ap (λ (x : Meaning). x.count) (slots_are i)

  temp_is : p.temp ≡ temp_after h s (shop_of a) (get_or s.variables 0 (pos 0))
  unfolding previewed_of
  temp_is = ap (λ (x : Answer). x.temp) shown

-- neither of the two is refused
pub previews_differ : (h : Sheet) (a : Arrays) (w n : ℕ) (s t : Save) → OneMore w n s t
    → (p q : Previewed) → previewed_as p ≡ previewed_of (preview_call h (shop_of a) s) → previewed_as q ≡ previewed_of (preview_call h (shop_of a) t) → p.refusal ≡ 0 → q.refusal ≡ 0
    → PreviewsDiffer h w (shop_of a) p q
previews_differ h a w n s t m p q e e' z z' =
    let near : (i : ℕ) → _ = λ i. slot_near w n s t m h (get_or (shop_of a) i empty_slot) in
    record {
      items = λ i. item_is h a s p e z i ∙ (near i).item ∙ sym (item_is h a t q e' z' i);
      rest = λ i c. count_is h a s p e z i ∙ ap (λ (x : Meaning). x.count) ((near i).shut c) ∙ sym (count_is h a t q e' z' i);
      counts = λ i. rw (count_is h a s p e z i, count_is h a t q e' z' i) (near i).count;
      first =
          let v : get_or s.variables 0 (pos 0) ≡ get_or t.variables 0 (pos 0) = ap (λ (l : List ℤ). get_or l 0 (pos 0)) m.variables in
          rw (temp_is h a s p e z, temp_is h a t q e' z', v) (after_lower w n s t m h (shop_of a) _ _ same);
    }
