-- Who may edit what, over the calls of the library: any list of lk_edit as they were made and answered, and lk_show after them. Each call comes in by its own promise. Assumes nothing.
use Rattle.std.specs.Prelude.{◌≡◌, true, not, ℕ, zero, suc, ◌<◌, drop, get_or, length}
use Rattle.std.proofs.Math.Path.{refl, ap}
use Rattle.std.proofs.Common.{sym, ◌∙◌, subst, arith}
use mathlib.Core.List.{List, [], ◌∷◌, ◌++◌, map}
use Rattle.model.specs.Limits.{entry_limit, slot_count, user_count}
use Rattle.model.specs.Sheet as Model
use Rattle.model.specs.Sheet.{all}
use Rattle.rights_model.specs.Rights.{Edit, Field, LastEdit, Table, after_edits, answers, edit_call, edit_refusal, field_of, may_change, show_call, touches}
use Rattle.rights_model.proofs.Fields.{allowed}
use Rattle.rights_model.proofs.Changed.{changed, held_in}
use Rattle.rights_model.proofs.Seen.{AlikeTo, answers_same, seen_same}
use Rattle.shop.specs.Shapes.{sheet_of}
use Rattle.shop_arrays.specs.Arrays.{Arrays}
use Rattle.shop_arrays.specs.Back.{Full}
use Rattle.rights.specs.Values.{table_of}
use Rattle.rights.specs.InArrays.{Answer, Contents, arrays_edited, arrays_shown, place_for}
use Rattle.capi_values.specs.Values.{sheet_by}
use Rattle.capi_rights.specs.Stands.{answer_is, edit_answer, edit_full, edit_stands, edit_by, shop_long, shop_in, show_stands, shown_is}

-- what lk_edit was given beside the sheet, the rights and the arrays
pub record Asked : Type 0 where
  pub user : ℕ
  pub slot : ℕ
  pub field : ℕ
  pub content : Contents

-- lk_edit as it was made: what it was given, what it answered and what it left in the arrays
pub record Made : Type 0 where
  pub asked : Asked
  pub answer : Answer

-- the arrays after them
abbrev pub left_by : Arrays → List Made → Arrays
left_by a [] = a
left_by a (m ∷ ms) = left_by m.answer.arrays ms

abbrev pub edit_in : Asked → Edit
edit_in q = edit_by q.user q.slot q.field q.content

abbrev pub edits_in : List Made → List Edit
edits_in ms = map (λ m. edit_in m.asked) ms

abbrev pub refusals_in : List Made → List ℕ
refusals_in ms = map (λ m. m.answer.refusal) ms

-- a slot that is there is the one that was named
place_own : (n i : ℕ) → place_for n i < slot_count → place_for n i ≡ i
unfolding place_for
place_own zero i l = refl
place_own (suc zero) i l = refl
place_own (suc (suc zero)) i l = refl
place_own (suc (suc (suc n))) i l = absurd (omega arith)

-- the rights and the sheet that all of them were given: bytes, the lent slice and the four numbers
module _ (rights attached : List ℕ) (atcs five ten fifteen : ℕ) where
  abbrev pub table : Table
  table = table_of rights

  abbrev pub sheet : Model.Sheet
  sheet = sheet_of attached (sheet_by atcs five ten fifteen)

  -- m got the arrays a and answered as lk_edit promises; row: the length of its row of codes, which the type of the call says
  pub record Promised (a : Arrays) (m : Made) : Type 0 where
    pub row : length m.asked.content.codes ≡ entry_limit
    pub is : m.answer ≡ arrays_edited table sheet a m.asked.user m.asked.slot m.asked.field m.asked.content

  -- each got the arrays as the one before left them
  abbrev pub AsPromised : Arrays → List Made → Type 0
  AsPromised a [] = Unit {0}
  AsPromised a (m ∷ ms) = Promised a m × AsPromised m.answer.arrays ms

  -- a call of the list that was accepted, of that slot and field and by a user with that right, and none after it is such a call
  pub record LastCall (i : ℕ) (f : Field) (ms : List Made) (m : Made) : Type 0 where
    pub earlier : List Made
    pub later : List Made
    pub inside : ms ≡ earlier ++ m ∷ later
    pub accepted : m.answer.refusal ≡ 0
    pub slot : m.asked.slot ≡ i
    pub field : field_of (edit_in m.asked).content ≡ f
    pub user : m.asked.user < user_count
    pub right : may_change (table m.asked.user i) f ≡ true
    pub last : all (λ d. not (touches table sheet i f d)) (edits_in later) ≡ true

  -- ---- as the edits of the definitions

  one : (a : Arrays) (m : Made) → Full a → Promised a m → answer_is m.answer ≡ edit_call table sheet (shop_in a) (edit_in m.asked)
  one a m full p = ap answer_is p.is ∙ edit_stands m.asked.content p.row a full table sheet m.asked.user m.asked.slot m.asked.field

  one_full : (a : Arrays) (m : Made) → Full a → Promised a m → Full m.answer.arrays
  one_full a m full p = rw p.is (edit_full m.asked.content p.row a full table sheet m.asked.user m.asked.slot m.asked.field)

  left_full : (ms : List Made) (a : Arrays) → Full a → AsPromised a ms → Full (left_by a ms)
  left_full [] a full p = full
  left_full (m ∷ ms) a full p = left_full ms m.answer.arrays (one_full a m full p.0) p.1

  left_is : (ms : List Made) (a : Arrays) → Full a → AsPromised a ms → shop_in (left_by a ms) ≡ after_edits table sheet (edits_in ms) (shop_in a)
  unfolding after_edits
  left_is [] a full p = refl
  left_is (m ∷ ms) a full p = left_is ms m.answer.arrays (one_full a m full p.0) p.1 ∙ ap (λ r. after_edits table sheet (edits_in ms) r.slots) (one a m full p.0)

  refusals_are : (ms : List Made) (a : Arrays) → Full a → AsPromised a ms → refusals_in ms ≡ answers table sheet (edits_in ms) (shop_in a)
  unfolding answers
  refusals_are [] a full p = refl
  refusals_are (m ∷ ms) a full p =
      rw (refusals_are ms m.answer.arrays (one_full a m full p.0) p.1) (ap (λ r. r.answer ∷ answers table sheet (edits_in ms) r.slots) (one a m full p.0))

  -- ---- the call that an edit of the list is

  record Place (ms : List Made) (e : Edit) (es : List Edit) : Type 0 where
    earlier : List Made
    call : Made
    later : List Made
    inside : ms ≡ earlier ++ call ∷ later
    is : edit_in call.asked ≡ e
    after : edits_in later ≡ es

  place : (ms : List Made) (ds : List Edit) (e : Edit) (es : List Edit) → edits_in ms ≡ ds ++ e ∷ es → Place ms e es
  place [] [] e es p = let z : 0 ≡ suc (length es) = ap length p in absurd (omega arith)
  place [] (d ∷ ds) e es p = let z : 0 ≡ suc (length (ds ++ e ∷ es)) = ap length p in absurd (omega arith)
  place (m ∷ ms) [] e es p = record { earlier = []; call = m; later = ms; inside = refl; is = ap (λ l. get_or l 0 e) p; after = ap (drop 1) p }
  place (m ∷ ms) (d ∷ ds) e es p =
      let k = place ms ds e es (ap (drop 1) p) in
      record { earlier = m ∷ k.earlier; call = k.call; later = k.later; inside = ap (λ l. m ∷ l) k.inside; is = k.is; after = k.after }

  answered : (ds : List Made) (m : Made) (ms : List Made) (a : Arrays) → AsPromised a (ds ++ m ∷ ms) → m.answer.refusal ≡ edit_refusal table sheet (edit_in m.asked)
  answered [] m ms a p = ap (λ r. r.refusal) p.0.is ∙ edit_answer table sheet a m.asked.user m.asked.slot m.asked.field m.asked.content
  answered (d ∷ ds) m ms a p = answered ds m ms d.answer.arrays p.1

  last_call : (i : ℕ) (f : Field) (ms : List Made) (a : Arrays) → AsPromised a ms → (e : Edit) → LastEdit table sheet (edits_in ms) i f e → (m : Made) × LastCall i f ms m × (edit_in m.asked ≡ e)
  last_call i f ms a p e k =
      let q = place ms k.earlier e k.later k.inside in
      let m = q.call in (
        m,
        record {
          earlier = q.earlier;
          later = q.later;
          inside = q.inside;
          accepted = answered q.earlier m q.later a (subst (AsPromised a) q.inside p) ∙ ap (edit_refusal table sheet) q.is ∙ k.accepted;
          slot = sym (place_own m.asked.field m.asked.slot (subst (λ (d : Edit). d.slot < slot_count) (sym q.is) (allowed table sheet e k.accepted).slot)) ∙ ap (λ (d : Edit). d.slot) q.is ∙ k.slot;
          field = ap (λ (d : Edit). field_of d.content) q.is ∙ k.field;
          user = subst (λ (d : Edit). d.user < user_count) (sym q.is) k.user;
          right = ap (λ (d : Edit). may_change (table d.user i) f) q.is ∙ k.right;
          last = ap (λ es. all (λ d. not (touches table sheet i f d)) es) q.after ∙ k.last;
        },
        q.is,
      )

  -- ---- the two theorems. Full: the lengths of the arrays, which the types of the calls say; nothing is asked of what they hold

  -- a field that differs from the start was changed by an accepted lk_edit of a user with that right, and holds the last such call's content
  pub changed_by : (i : ℕ) (f : Field) (a : Arrays) (ms : List Made) → Full a → AsPromised a ms
      → (held_in table sheet i f (shop_in (left_by a ms)) ≡ held_in table sheet i f (shop_in a) → ⊥)
      → (m : Made) × LastCall i f ms m × (held_in table sheet i f (shop_in (left_by a ms)) ≡ (edit_in m.asked).content)
  changed_by i f a ms full p d =
      let same = left_is ms a full p in
      let k = changed table sheet i f (edits_in ms) (shop_in a) (shop_long a) (λ e. d (ap (held_in table sheet i f) same ∙ e)) in
      let q = last_call i f ms a p k.0 k.1 in
      (q.0, q.1, ap (held_in table sheet i f) same ∙ k.2 ∙ sym (ap (λ (e : Edit). e.content) q.2))

  -- two starts whose shops are alike in the slots that a user may see: after the same edits lk_show answers that user alike, and the edits were answered alike
  pub seen_alike : (u : ℕ) (a a' : Arrays) (ms ms' : List Made) → Full a → Full a' → AsPromised a ms → AsPromised a' ms'
      → map (λ m. m.asked) ms ≡ map (λ m. m.asked) ms' → AlikeTo table u (shop_in a) (shop_in a')
      → (r r' : Answer) → r ≡ arrays_shown table (left_by a ms) u → r' ≡ arrays_shown table (left_by a' ms') u
      → (shown_is r ≡ shown_is r') × (refusals_in ms ≡ refusals_in ms')
  seen_alike u a a' ms ms' full full' p p' g l r r' e e' = (
    shown a ms full p r e ∙ seen_same table sheet u (edits_in ms) (shop_in a) (shop_in a') l ∙ ap (λ es. show_call table (after_edits table sheet es (shop_in a')) u) same ∙ sym (shown a' ms' full' p' r' e'),
    refusals_are ms a full p ∙ answers_same table sheet (edits_in ms) (shop_in a) (shop_in a') ∙ ap (λ es. answers table sheet es (shop_in a')) same ∙ sym (refusals_are ms' a' full' p'),
  )
    where
      asked_edits : (ks : List Made) → edits_in ks ≡ map edit_in (map (λ m. m.asked) ks)
      asked_edits [] = refl
      asked_edits (k ∷ ks) = ap (λ l. edit_in k.asked ∷ l) (asked_edits ks)

      same : edits_in ms ≡ edits_in ms'
      same = asked_edits ms ∙ ap (map edit_in) g ∙ sym (asked_edits ms')

      shown : (b : Arrays) (ks : List Made) → Full b → AsPromised b ks → (s : Answer) → s ≡ arrays_shown table (left_by b ks) u → shown_is s ≡ show_call table (after_edits table sheet (edits_in ks) (shop_in b)) u
      shown b ks f q s d = ap shown_is d ∙ show_stands table u (left_by b ks) (left_full ks b f q) ∙ ap (λ xs. show_call table xs u) (left_is ks b f q)
