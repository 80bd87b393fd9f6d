-- What a shop means under two saves alike but for one item, held once more in the second, in the variables that runs leave (02, A.14). Assumes nothing.
use Rattle.std.specs.Prelude.{◌≡◌, refl, ◌≢◌, Bool, true, false, cond, List, [], ◌∷◌, ℕ, zero, suc, ◌+◌, ◌-◌, ◌≤◌, ◌<◌, ℤ, pos, get_or, length}
use Rattle.std.proofs.Common.{sym, ap, ◌∙◌, arith}
use Rattle.std.proofs.Math.Decide.{dec_le}
use Rattle.model.specs.Limits.{slot_count, item_first, count_first}
use Rattle.model.specs.Save.{Save}
use Rattle.model.specs.Sheet.{Sheet}
use Rattle.model.specs.Shop.{Slot, empty_slot}
use Rattle.model.specs.Flags.{slot_inside, until_outside}
use Rattle.model.specs.Meaning.{Means}
use Rattle.model.specs.Run.{Ran}
use Rattle.model.proofs.Laws.RunsAll.{until_short}
use Rattle.moves_model.specs.OneMore.{OneMore, stocks, Lower, same, Differ}
use Rattle.moves_model.proofs.Held.{after_lower, slot_near}

-- what the first slots mean; the slots after them, if any, were not reached
module _ (h : Sheet) (w n : ℕ) (s t : Save) (m : OneMore w n s t) (ys : List Slot) (len : length ys ≤ slot_count) (u v : List ℤ) (a : Means h s ys s.variables u) (b : Means h t ys t.variables v) where
  abbrev slot : ℕ → Slot
  slot i = get_or ys i empty_slot

  items_same : (i : ℕ) → i < length ys → get_or u (item_first + i) (pos 0) ≡ get_or v (item_first + i) (pos 0)
  items_same i l = a.items i l ∙ (slot_near w n s t m h (slot i)).item ∙ sym (b.items i l)

  counts_same : (i : ℕ) → i < length ys → stocks h w (slot i) ≡ false → get_or u (count_first + i) (pos 0) ≡ get_or v (count_first + i) (pos 0)
  counts_same i l p = a.counts i l ∙ ap (λ f. f.count) ((slot_near w n s t m h (slot i)).shut p) ∙ sym (b.counts i l)

  counts_lower : (i : ℕ) → i < length ys → Lower (get_or u (count_first + i) (pos 0)) (get_or v (count_first + i) (pos 0))
  counts_lower i l = rw (a.counts i l, b.counts i l) (slot_near w n s t m h (slot i)).count

  first_lower : Lower (get_or u 0 (pos 0)) (get_or v 0 (pos 0))
  first_lower =
      let e : get_or s.variables 0 (pos 0) ≡ get_or t.variables 0 (pos 0) = ap (λ l. get_or l 0 (pos 0)) m.variables in
      rw (a.first, b.first, e) (after_lower w n s t m h ys _ _ same)

  rest_same : (j : ℕ) → j ≢ 0 → ((i : ℕ) → i < length ys → stocks h w (slot i) ≡ true → j ≢ count_first + i) → get_or u j (pos 0) ≡ get_or v j (pos 0)
  rest_same j z out = by (dec_le item_first j) (dec_le (item_first + length ys) j) (dec_le count_first j) (dec_le (count_first + length ys) j)
    where
      apart : ((i : ℕ) → i < length ys → (j ≢ item_first + i) × (j ≢ count_first + i)) → get_or u j (pos 0) ≡ get_or v j (pos 0)
      apart f = a.others j z f ∙ ap (λ l. get_or l j (pos 0)) m.variables ∙ sym (b.others j z f)

      count : (i : ℕ) → i < length ys → j ≡ count_first + i → (x : Bool) → stocks h w (slot i) ≡ x → get_or u j (pos 0) ≡ get_or v j (pos 0)
      count i l e true p = absurd (out i l p e)
      count i l e false p = rw e (counts_same i l p)

      by : Dec (item_first ≤ j) → Dec (item_first + length ys ≤ j) → Dec (count_first ≤ j) → Dec (count_first + length ys ≤ j) → get_or u j (pos 0) ≡ get_or v j (pos 0)
      by (no p) c d e = apart (λ i l. (omega arith, omega arith))
      by (yes p) (no c) d e =
          let i : j ≡ item_first + (j - item_first) = omega arith in
          rw i (items_same (j - item_first) (omega arith))
      by (yes p) (yes c) (no d) e = apart (λ i l. (omega arith, omega arith))
      by (yes p) (yes c) (yes d) (no e) =
          let i : j ≡ count_first + (j - count_first) = omega arith in
          count (j - count_first) (omega arith) i (stocks h w (slot (j - count_first))) refl
      by (yes p) (yes c) (yes d) (yes e) = apart (λ i l. (omega arith, omega arith))

-- the first slots of a shop are slots of it
prefix_slot : (xs : List Slot) (i : ℕ) → i < length (until_outside xs) → get_or (until_outside xs) i empty_slot ≡ get_or xs i empty_slot
prefix_slot [] i l = refl
prefix_slot (x ∷ xs) i l = by (slot_inside x) i l (prefix_slot xs)
  where
    by : (b : Bool) (i : ℕ) → i < length (cond b (x ∷ until_outside xs) []) → ((i : ℕ) → i < length (until_outside xs) → get_or (until_outside xs) i empty_slot ≡ get_or xs i empty_slot)
        → get_or (cond b (x ∷ until_outside xs) []) i empty_slot ≡ get_or (x ∷ xs) i empty_slot
    by true zero l ih = refl
    by true (suc i) l ih = ih i (omega arith)
    by false i l ih = absurd (omega arith)

-- two runs of a shop that are answered alike and leave what the slots mean that come before the first with a flag outside the save (A.10), each under its own save
module _ (h : Sheet) (w n : ℕ) (s t : Save) (m : OneMore w n s t) (xs : List Slot) (len : length xs ≡ slot_count) (r q : Ran) (same_answer : r.answer ≡ q.answer)
    (a : Means h s (until_outside xs) s.variables r.variables) (b : Means h t (until_outside xs) t.variables q.variables) where
  abbrev ys : List Slot
  ys = until_outside xs

  few : length (until_outside xs) ≤ slot_count
  few = omega (arith, until_short xs)

  -- a slot that was not reached
  count_past : (i : ℕ) → i < slot_count → length (until_outside xs) ≤ i → get_or r.variables (count_first + i) (pos 0) ≡ get_or q.variables (count_first + i) (pos 0)
  count_past i l p = rest_same h w n s t m ys few r.variables q.variables a b (count_first + i) (omega arith) (λ k k< c. omega arith)

  counts_all : (i : ℕ) → i < slot_count → Lower (get_or r.variables (count_first + i) (pos 0)) (get_or q.variables (count_first + i) (pos 0))
  counts_all i l = by (dec_le (length (until_outside xs)) i)
    where
      by : Dec (length (until_outside xs) ≤ i) → Lower (get_or r.variables (count_first + i) (pos 0)) (get_or q.variables (count_first + i) (pos 0))
      by (yes p) = rw (count_past i l p) same
      by (no p) = counts_lower h w n s t m ys few r.variables q.variables a b i (omega arith)

  pub means_differ : Differ h w xs r q
  means_differ = record {
    answer = same_answer;
    rest = λ j z out. rest_same h w n s t m ys few r.variables q.variables a b j z (λ i l c. out i (omega (arith, few)) (ap (stocks h w) (sym (prefix_slot xs i l)) ∙ c));
    counts = λ i l c. counts_all i l;
    first = first_lower h w n s t m ys few r.variables q.variables a b;
    long = a.long ∙ ap length m.variables ∙ sym b.long;
  }
