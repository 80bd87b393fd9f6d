-- The preview of a shop and a run that leaves what the shop means agree, also where the run is stopped by a flag outside the save. Assumes nothing.
use Rattle.std.specs.Prelude.{◌≡◌, refl, Bool, true, false, List, ℕ, ◌+◌, ◌<◌, ℤ, pos, negsuc, get_or, length}
use Rattle.std.proofs.Common.{sym, ap, ◌∙◌, subst, arith}
use Rattle.std.proofs.lemmas.List.{length-map}
use Rattle.std.proofs.Math.ListN.{get_or-map}
use Rattle.model.specs.Limits.{slot_count, item_first, count_first}
use Rattle.model.specs.Refusal.{check, no_flag}
use Rattle.model.specs.Save.{Save}
use Rattle.model.specs.Sheet.{Sheet, all, save_refusal, sheet_refusal}
use Rattle.model.specs.Shop.{Slot, empty_slot, slot_ok, shop_refusal}
use Rattle.model.specs.Meaning.{hidden, meaning_of, Means}
use Rattle.model.specs.Flags.{flag_answer, shop_inside, until_outside}
use Rattle.model.proofs.Laws.RunsAll.{until_all}
use Rattle.model.specs.Preview.{Preview, preview_call}
use Rattle.preview.specs.Shown.{Answer, meanings_of, previewed_of}
use Rattle.preview.specs.Accepted.{with_all, accepted_preview, items_are, counts_are}

-- the variables v hold what the preview answers
pub record Shows (p : Preview) (v : List ℤ) : Type 0 where
  pub long : length p.slots ≡ slot_count
  pub items : (i : ℕ) → i < slot_count → get_or v (item_first + i) (pos 0) ≡ (get_or p.slots i hidden).item
  pub counts : (i : ℕ) → i < slot_count → get_or v (count_first + i) (pos 0) ≡ (get_or p.slots i hidden).count
  pub first : get_or v 0 (pos 0) ≡ p.temp

-- of a run that was answered n and left v: the preview is answered the same, and where that is no refusal v holds what it shows
pub record Agrees (p : Preview) (n : ℕ) (v : List ℤ) : Type 0 where
  pub answer : p.answer ≡ n
  pub shows : n ≡ 0 → Shows p v

means_shows : (h : Sheet) (s : Save) (xs : List Slot) (v : List ℤ) → length xs ≡ slot_count → Means h s xs s.variables v → Shows (meanings_of h xs s) v
unfolding meaning_of
means_shows h s xs v e m = record {
  long = length-map xs (meaning_of h s) ∙ e;
  items = λ i l. m.items i (omega arith) ∙ sym (ap (λ r. r.item) (get_or-map (meaning_of h s) xs i empty_slot));
  counts = λ i l. m.counts i (omega arith) ∙ sym (ap (λ r. r.count) (get_or-map (meaning_of h s) xs i empty_slot));
  first = m.first;
}

outside_preview : (h : Sheet) (xs : List Slot) (s : Save) → length xs ≡ slot_count → sheet_refusal h ≡ 0 → shop_refusal h xs ≡ 0 → save_refusal h s ≡ 0 → shop_inside xs ≡ false → (preview_call h xs s).answer ≡ no_flag
unfolding preview_call
outside_preview h xs s e a b d p = rw (a, b, d, with_all xs e, p)

-- of a shop that passed 1 and 8, under a save that fits the sheet, and variables as the run of the compiled shop leaves them
pub preview_agrees : (h : Sheet) (xs : List Slot) → sheet_refusal h ≡ 0 → length xs ≡ slot_count → all (slot_ok h) xs ≡ true
    → (s : Save) → save_refusal h s ≡ 0 → (v : List ℤ) → Means h s (until_outside xs) s.variables v → Agrees (preview_call h xs s) (flag_answer xs) v
preview_agrees h xs g n ok s f v m = by (shop_inside xs) refl
  where
    shop : shop_refusal h xs ≡ 0
    shop = ap (λ ys. check (all (slot_ok h) ys) 8) (with_all xs n) ∙ ap (λ t. check t 8) ok

    by : (b : Bool) → shop_inside xs ≡ b → Agrees (preview_call h xs s) (check b no_flag) v
    by true p =
        let e = accepted_preview h xs s n g shop f p in
        record {
          answer = ap (λ (q : Preview). q.answer) e;
          shows = λ z. rw e (means_shows h s xs v n (subst (λ (ys : List Slot). Means h s ys s.variables v) (until_all xs p) m));
        }
    by false p = record { answer = outside_preview h xs s n g shop f p; shows = λ z. absurd (omega arith) }

-- ---- the same of what the call hands out

-- -1 stands where there is no item, below the twenty nowhere
pub record ShowsCall (r : Answer) (v : List ℤ) : Type 0 where
  pub items : (i : ℕ) → i < slot_count → get_or v (item_first + i) (pos 0) ≡ get_or r.items i (negsuc 0)
  pub counts : (i : ℕ) → i < slot_count → get_or v (count_first + i) (pos 0) ≡ get_or r.counts i (pos 0)
  pub first : get_or v 0 (pos 0) ≡ r.temp

pub record AgreesCall (r : Answer) (n : ℕ) (v : List ℤ) : Type 0 where
  pub answer : r.refusal ≡ n
  pub shows : n ≡ 0 → ShowsCall r v

pub call_agrees : (p : Preview) (n : ℕ) (v : List ℤ) → Agrees p n v → AgreesCall (previewed_of p) n v
unfolding previewed_of
call_agrees p n v a = record {
  answer = a.answer;
  shows = λ z.
      let b = a.shows z in
      record {
        items = λ i l. b.items i l ∙ sym (ap (λ zs. get_or zs i (negsuc 0)) (items_are p b.long) ∙ get_or-map (λ m. m.item) p.slots i hidden);
        counts = λ i l. b.counts i l ∙ sym (ap (λ zs. get_or zs i (pos 0)) (counts_are p b.long) ∙ get_or-map (λ m. m.count) p.slots i hidden);
        first = b.first;
      };
}
