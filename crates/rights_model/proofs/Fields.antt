-- What one edit does to the fields of a shop. Assumes nothing.
use Rattle.std.specs.Prelude.{◌≡◌, true, ◌&&◌, List, [], ◌∷◌, ltb, get_or, set}
use Rattle.std.proofs.Math.Path.{refl}
use Rattle.std.proofs.Common.{sym, true≢false, arith, get_or-set_other}
use Rattle.std.proofs.Math.Bool.{cond}
use Prim.Native.Nat.{ℕ, zero, suc, ◌<◌}
use Rattle.std.proofs.Math.Decide.{ℕ_discrete}
use Rattle.std.proofs.Math.Dec.{eqb}
use borrow.Author.Tests.{eq-eqb, ne_eqb, ltb-true}
use Rattle.std.proofs.Math.ListN.{length, length-set}
use Rattle.std.proofs.Math.Seq.{get_or-set_same}
use Rattle.model.specs.Limits.{slot_count, user_count}
use Rattle.model.specs.Refusal.{check, first_of, no_user}
use Rattle.model.specs.Sheet.{Sheet, sheet_refusal}
use Rattle.model.specs.Shop.{Slot, empty_slot}
use Rattle.model.proofs.Laws.Checks.{and_left, and_right, first_passed, passed}
use Rattle.rights_model.specs.Rights.{Content, Edit, Field, Table, new_item, new_limit, new_requirements, itemField, limitField, requirementsField, content_check, edit_call, edit_refusal, edited_of, right_check, field_code, field_in, field_of, may_change, put, touches}

-- ---- the field that is put, and the others

put_field : (c : Content) (f : Field) (x : Slot) → field_in f (put c x) ≡ cond (eqb (field_code (field_of c)) (field_code f)) c (field_in f x)
put_field (new_item o) itemField x = refl
put_field (new_item o) limitField x = refl
put_field (new_item o) requirementsField x = refl
put_field (new_limit z) itemField x = refl
put_field (new_limit z) limitField x = refl
put_field (new_limit z) requirementsField x = refl
put_field (new_requirements rs) itemField x = refl
put_field (new_requirements rs) limitField x = refl
put_field (new_requirements rs) requirementsField x = refl

pub field_is_lem : (f g : Field) → eqb (field_code f) (field_code g) ≡ true → f ≡ g
field_is_lem itemField itemField e = refl
field_is_lem itemField limitField e = absurd (true≢false (sym e))
field_is_lem itemField requirementsField e = absurd (true≢false (sym e))
field_is_lem limitField itemField e = absurd (true≢false (sym e))
field_is_lem limitField limitField e = refl
field_is_lem limitField requirementsField e = absurd (true≢false (sym e))
field_is_lem requirementsField itemField e = absurd (true≢false (sym e))
field_is_lem requirementsField limitField e = absurd (true≢false (sym e))
field_is_lem requirementsField requirementsField e = refl

-- ---- an accepted edit

pub record Allowed (t : Table) (e : Edit) : Type 0 where
  pub user : e.user < user_count
  pub slot : e.slot < slot_count
  pub right : may_change (t e.user e.slot) (field_of e.content) ≡ true

four : (a b c d : ℕ) → first_of (a ∷ b ∷ c ∷ d ∷ []) ≡ 0 → (b ≡ 0) × (c ≡ 0)
four a b c d e =
    let p = first_passed a (b ∷ c ∷ d ∷ []) e in
    let q = first_passed b (c ∷ d ∷ []) p.1 in
    (q.0, (first_passed c (d ∷ []) q.1).0)

pub allowed : (t : Table) (h : Sheet) (e : Edit) → edit_refusal t h e ≡ 0 → Allowed t e
unfolding edit_refusal
allowed t h e a =
    let may = ltb e.slot slot_count && may_change (t e.user e.slot) (field_of e.content) in
    let p = four (sheet_refusal h) (check (ltb e.user user_count) no_user) (right_check t e) (content_check h e) a in
    let s = passed may 20 p.1 in
    record {
      user = ltb-true _ _ (passed (ltb e.user user_count) 19 p.0);
      slot = ltb-true _ _ (and_left (ltb e.slot slot_count) _ s);
      right = and_right (ltb e.slot slot_count) _ s;
    }

-- ---- the shop after one edit

module _ (t : Table) (h : Sheet) (xs : List Slot) (e : Edit) where
  abbrev new : List Slot
  new = set xs e.slot (put e.content (get_or xs e.slot empty_slot))

  -- the answer is that of the checks
  pub call_answer : (edit_call t h xs e).answer ≡ edit_refusal t h e
  unfolding edit_call
  call_answer = by (edit_refusal t h e)
    where
      by : (n : ℕ) → (edited_of n new xs).answer ≡ n
      by zero = refl
      by (suc n) = refl

  pub call_long : length (edit_call t h xs e).slots ≡ length xs
  unfolding edit_call
  call_long = by (edit_refusal t h e)
    where
      by : (n : ℕ) → length (edited_of n new xs).slots ≡ length xs
      by zero = length-set xs e.slot _
      by (suc n) = refl

  -- refused, it changes nothing
  pub call_refused : (n : ℕ) → edit_refusal t h e ≡ suc n → (edit_call t h xs e).slots ≡ xs
  unfolding edit_call
  call_refused n p = rw p

  pub call_accepted : edit_refusal t h e ≡ 0 → (edit_call t h xs e).slots ≡ new
  unfolding edit_call
  call_accepted p = rw p

  -- accepted, it puts that content in that field and changes nothing else: of every field of every slot
  pub call_field : length xs ≡ slot_count → (i : ℕ) (f : Field) → field_in f (get_or (edit_call t h xs e).slots i empty_slot) ≡ cond (touches t h i f e) e.content (field_in f (get_or xs i empty_slot))
  unfolding touches
  call_field long i f = by (edit_refusal t h e) refl
    where
      here : (d : Dec (i ≡ e.slot)) → e.slot < length xs → field_in f (get_or new i empty_slot) ≡ cond (eqb e.slot i && eqb (field_code (field_of e.content)) (field_code f)) e.content (field_in f (get_or xs i empty_slot))
      here (yes p) l = rw (p, get_or-set_same xs e.slot (put e.content (get_or xs e.slot empty_slot)) empty_slot l, eq-eqb e.slot e.slot refl) (put_field e.content f (get_or xs e.slot empty_slot))
      here (no p) l = rw (get_or-set_other xs e.slot i (put e.content (get_or xs e.slot empty_slot)) empty_slot p, ne_eqb e.slot i (λ q. p (sym q)))

      by : (n : ℕ) → edit_refusal t h e ≡ n → field_in f (get_or (edit_call t h xs e).slots i empty_slot) ≡ cond (eqb n 0 && (eqb e.slot i && eqb (field_code (field_of e.content)) (field_code f))) e.content (field_in f (get_or xs i empty_slot))
      by zero p = rw (call_accepted p) (here (ℕ_discrete i e.slot) (omega (arith, (allowed t h e p).slot)))
      by (suc n) p = rw (call_refused n p, ne_eqb (suc n) 0 (λ q. omega arith))
