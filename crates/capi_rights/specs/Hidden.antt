-- What lk_show leaves in memory tells nothing of a slot that the user may not see: two starts with the same_arrays words in the slots that the user sees are shown in the same_arrays words after the same_arrays edits. Assumes nothing.
use Rattle.std.specs.Prelude.{◌≡◌, Bool, true, false, cond, List, [], ◌∷◌, map, ℕ, zero, suc, ◌+◌, ◌*◌, ◌/◌, ◌%◌, ◌<◌, pos, drop, get_or, length}
use Rattle.std.proofs.Math.Path.{refl, sym, ap}
use Rattle.std.proofs.Common.{◌∙◌, arith, ext_get_or}
use Rattle.std.proofs.Math.Decide.{ℕ_discrete}
use Rattle.model.specs.Limits.{entry_limit, slot_count}
use Rattle.model.specs.Sheet as Model
use Rattle.rights_model.specs.Rights.{Table, edit_refusal}
use Rattle.rights_model.proofs.Fields.{allowed}
use Rattle.shop_arrays.specs.Arrays.{Arrays}
use Rattle.shop_arrays.specs.Back.{Full, same_arrays}
use Rattle.shop_arrays.specs.Slots.{row_at_lem}
use Rattle.rights.specs.InArrays.{Answer, Contents, arrays_edited, arrays_shown, arrays_with, edited_as, field_from, first_shown, place_for}
use Rattle.capi_rights.specs.Words.{changed_words, no_words, shown_first, shown_full, with_other, with_own, words_at}
use Rattle.capi_rights.specs.Stands.{edit_full, edit_by}
use Rattle.capi_rights.specs.Calls.{AsPromised, Asked, Made, left_by, sheet, table}

-- alike word for word in the slots that user u may see
pub record AlikeWords (t : Table) (u : ℕ) (a b : Arrays) : Type 0 where
  pub full : Full a
  pub full' : Full b
  pub alike : (i : ℕ) → i < slot_count → (t u i).see ≡ true → words_at a i ≡ words_at b i

-- ---- arrays with the same_arrays words are the same_arrays

arrays_same : (a b : Arrays) → Full a → Full b → ((i : ℕ) → i < slot_count → words_at a i ≡ words_at b i) → a ≡ b
arrays_same a b f g h =
    same_arrays
    (ext_get_or (pos 0) a.items b.items (f.items ∙ sym g.items) (λ i l. ap (λ (x : Contents). x.item) (h i (omega (arith, f.items)))))
    (ext_get_or (pos 0) a.limits b.limits (f.limits ∙ sym g.limits) (λ i l. ap (λ (x : Contents). x.limit) (h i (omega (arith, f.limits)))))
    (ext_get_or 0 a.codes b.codes (f.codes ∙ sym g.codes) (λ k l. code k (omega (arith, f.codes))))
    (ext_get_or 0 a.lens b.lens (f.lens ∙ sym g.lens) (λ i l. ap (λ (x : Contents). x.len) (h i (omega (arith, f.lens)))))
  where
    code : (k : ℕ) → k < entry_limit * slot_count → get_or a.codes k 0 ≡ get_or b.codes k 0
    code k l =
        let i = k / entry_limit in
        let j = k % entry_limit in
        let e : k ≡ entry_limit * (k / entry_limit) + k % entry_limit = omega arith in
        ap (λ n. get_or a.codes n 0) e ∙ sym (row_at_lem a.codes i j (omega arith)) ∙ ap (λ (x : Contents). get_or x.codes j 0) (h i (omega arith))
        ∙ row_at_lem b.codes i j (omega arith) ∙ ap (λ n. get_or b.codes n 0) (sym e)

-- ---- words that are alike stay alike under one edit, and are shown alike

module _ (t : Table) (h : Model.Sheet) (u i n : ℕ) (x : Contents) (long : length x.codes ≡ entry_limit) (a b : Arrays) (full : Full a) (full' : Full b) where
  words_stay : (j : ℕ) → j < slot_count → words_at a j ≡ words_at b j → words_at (arrays_edited t h a u i n x).arrays j ≡ words_at (arrays_edited t h b u i n x).arrays j
  unfolding arrays_edited
  words_stay j l e = by (edit_refusal t h (edit_by u i n x)) refl
    where
      here : Dec (j ≡ place_for n i) → place_for n i < slot_count → words_at (arrays_with (field_from n) x (place_for n i) a) j ≡ words_at (arrays_with (field_from n) x (place_for n i) b) j
      here (yes p) low =
          let d : words_at a (place_for n i) ≡ words_at b (place_for n i) = rw p at e in
          rw p (with_own x long a full (place_for n i) low (field_from n) ∙ ap (changed_words (field_from n) x) d ∙ sym (with_own x long b full' (place_for n i) low (field_from n)))
      here (no p) low = with_other x long a full (place_for n i) low (field_from n) j l p ∙ e ∙ sym (with_other x long b full' (place_for n i) low (field_from n) j l p)

      by : (k : ℕ) → edit_refusal t h (edit_by u i n x) ≡ k → words_at (edited_as k (arrays_with (field_from n) x (place_for n i) a) a).arrays j ≡ words_at (edited_as k (arrays_with (field_from n) x (place_for n i) b) b).arrays j
      by zero q = here (ℕ_discrete j (place_for n i)) (allowed t h (edit_by u i n x) q).slot
      by (suc k) q = e

shown_words : (t : Table) (u : ℕ) (a b : Arrays) → AlikeWords t u a b → arrays_shown t a u ≡ arrays_shown t b u
unfolding arrays_shown
shown_words t u a b l = rw (arrays_same (first_shown t u slot_count a) (first_shown t u slot_count b) (shown_full t u a l.full slot_count (omega arith)) (shown_full t u b l.full' slot_count (omega arith)) each)
  where
    see : (c : Bool) (i : ℕ) → i < slot_count → (t u i).see ≡ c → cond c (words_at a i) no_words ≡ cond c (words_at b i) no_words
    see true i m s = l.alike i m s
    see false i m s = refl

    each : (i : ℕ) → i < slot_count → words_at (first_shown t u slot_count a) i ≡ words_at (first_shown t u slot_count b) i
    each i m = shown_first t u a l.full slot_count i m (omega arith) ∙ see (t u i).see i m refl ∙ sym (shown_first t u b l.full' slot_count i m (omega arith))

-- ---- over the calls

module _ (rights attached : List ℕ) (atcs five ten fifteen : ℕ) where
  abbrev t : Table
  t = table rights attached atcs five ten fifteen

  abbrev h : Model.Sheet
  h = sheet rights attached atcs five ten fifteen

  one_alike : (u : ℕ) (a b : Arrays) (q : Asked) → length q.content.codes ≡ entry_limit → AlikeWords t u a b
      → AlikeWords t u (arrays_edited t h a q.user q.slot q.field q.content).arrays (arrays_edited t h b q.user q.slot q.field q.content).arrays
  one_alike u a b q long l = record {
    full = edit_full q.content long a l.full t h q.user q.slot q.field;
    full' = edit_full q.content long b l.full' t h q.user q.slot q.field;
    alike = λ i m s. words_stay t h q.user q.slot q.field q.content long a b l.full l.full' i m (l.alike i m s);
  }

  left_alike : (u : ℕ) (ms ms' : List Made) (a a' : Arrays) → AsPromised rights attached atcs five ten fifteen a ms → AsPromised rights attached atcs five ten fifteen a' ms'
      → map (λ m. m.asked) ms ≡ map (λ m. m.asked) ms' → AlikeWords t u a a' → AlikeWords t u (left_by a ms) (left_by a' ms')
  left_alike u [] [] a a' p p' g l = l
  left_alike u [] (m ∷ ms) a a' p p' g l = let z : 0 ≡ suc (length (map (λ (k : Made). k.asked) ms)) = ap length g in absurd (omega arith)
  left_alike u (m ∷ ms) [] a a' p p' g l = let z : suc (length (map (λ (k : Made). k.asked) ms)) ≡ 0 = ap length g in absurd (omega arith)
  left_alike u (m ∷ ms) (k ∷ ks) a a' p p' g l =
      let e : m.asked ≡ k.asked = ap (λ qs. get_or qs 0 m.asked) g in
      left_alike u ms ks m.answer.arrays k.answer.arrays p.1 p'.1 (ap (drop 1) g)
      (rw (p.0.is, p'.0.is, ← e) (one_alike u a a' m.asked p.0.row l))

  -- the answer and every word that lk_show leaves
  pub words_alike : (u : ℕ) (a a' : Arrays) (ms ms' : List Made) → AsPromised rights attached atcs five ten fifteen a ms → AsPromised rights attached atcs five ten fifteen a' ms'
      → map (λ m. m.asked) ms ≡ map (λ m. m.asked) ms' → AlikeWords t u a a'
      → (r r' : Answer) → r ≡ arrays_shown t (left_by a ms) u → r' ≡ arrays_shown t (left_by a' ms') u → r ≡ r'
  words_alike u a a' ms ms' p p' g l r r' e e' = e ∙ shown_words t u (left_by a ms) (left_by a' ms') (left_alike u ms ms' a a' p p' g l) ∙ sym e'
