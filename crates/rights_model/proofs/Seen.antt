-- Two start shops alike in the slots a user may see are shown alike to that user after the same edits, and the edits are answered alike. Assumes nothing.
use Rattle.std.specs.Prelude.{◌≡◌, refl, Bool, true, false, cond, List, [], ◌∷◌, ℕ, zero, suc, ◌+◌, ◌<◌, get_or, set, length}
use Rattle.std.proofs.Common.{sym, ap, ◌∙◌, arith, get_or-set_same, get_or-set_other}
use Rattle.std.proofs.Math.Decide.{ℕ_discrete}
use Rattle.model.specs.Limits.{slot_count}
use Rattle.model.specs.Sheet.{Sheet}
use Rattle.model.specs.Shop.{Slot, empty_slot}
use Rattle.rights_model.specs.Rights.{Edit, Table, after_edits, answers, edit_call, edit_refusal, put, show_call, shown_from}
use Rattle.rights_model.proofs.Fields.{allowed, call_accepted, call_answer, call_long, call_refused}

-- alike in the slots that user u may see
pub record AlikeTo (t : Table) (u : ℕ) (xs ys : List Slot) : Type 0 where
  pub long : length xs ≡ slot_count
  pub long' : length ys ≡ slot_count
  pub alike : (i : ℕ) → i < slot_count → (t u i).see ≡ true → get_or xs i empty_slot ≡ get_or ys i empty_slot

-- an edit's answer does not depend on the shop
pub answers_same : (t : Table) (h : Sheet) (es : List Edit) (xs ys : List Slot) → answers t h es xs ≡ answers t h es ys
unfolding answers
answers_same t h [] xs ys = refl
answers_same t h (e ∷ es) xs ys = rw (call_answer t h xs e, call_answer t h ys e, answers_same t h es (edit_call t h xs e).slots (edit_call t h ys e).slots)

-- slots that are alike stay alike under one edit
slot_stays : (t : Table) (h : Sheet) (e : Edit) (xs ys : List Slot) → length xs ≡ slot_count → length ys ≡ slot_count → (i : ℕ) → get_or xs i empty_slot ≡ get_or ys i empty_slot
    → get_or (edit_call t h xs e).slots i empty_slot ≡ get_or (edit_call t h ys e).slots i empty_slot
slot_stays t h e xs ys l m i a = by (edit_refusal t h e) refl
  where
    here : Dec (i ≡ e.slot) → e.slot < slot_count → get_or (set xs e.slot (put e.content (get_or xs e.slot empty_slot))) i empty_slot ≡ get_or (set ys e.slot (put e.content (get_or ys e.slot empty_slot))) i empty_slot
    here (yes p) k =
        let b : get_or xs e.slot empty_slot ≡ get_or ys e.slot empty_slot = rw p at a in
        rw (p, get_or-set_same xs e.slot (put e.content (get_or xs e.slot empty_slot)) empty_slot (omega arith), get_or-set_same ys e.slot (put e.content (get_or ys e.slot empty_slot)) empty_slot (omega arith))
        (ap (put e.content) b)
    here (no p) k =
        get_or-set_other xs e.slot i (put e.content (get_or xs e.slot empty_slot)) empty_slot p ∙ a ∙ sym (get_or-set_other ys e.slot i (put e.content (get_or ys e.slot empty_slot)) empty_slot p)

    by : (n : ℕ) → edit_refusal t h e ≡ n → get_or (edit_call t h xs e).slots i empty_slot ≡ get_or (edit_call t h ys e).slots i empty_slot
    by zero p = rw (call_accepted t h xs e p, call_accepted t h ys e p) (here (ℕ_discrete i e.slot) (allowed t h e p).slot)
    by (suc n) p = rw (call_refused t h xs e n p, call_refused t h ys e n p) a

alike_after : (t : Table) (h : Sheet) (u : ℕ) (es : List Edit) (xs ys : List Slot) → AlikeTo t u xs ys → AlikeTo t u (after_edits t h es xs) (after_edits t h es ys)
unfolding after_edits
alike_after t h u [] xs ys a = a
alike_after t h u (e ∷ es) xs ys a = alike_after t h u es (edit_call t h xs e).slots (edit_call t h ys e).slots (record {
  long = call_long t h xs e ∙ a.long;
  long' = call_long t h ys e ∙ a.long';
  alike = λ i l s. slot_stays t h e xs ys a.long a.long' i (a.alike i l s);
})

-- shown alike, slot by slot
shown_same : (t : Table) (u k : ℕ) (xs ys : List Slot) → length xs ≡ length ys → ((i : ℕ) → i < length xs → (t u (k + i)).see ≡ true → get_or xs i empty_slot ≡ get_or ys i empty_slot) → shown_from t u k xs ≡ shown_from t u k ys
unfolding shown_from
shown_same t u k [] [] l a = refl
shown_same t u k [] (y ∷ ys) l a = absurd (omega arith)
shown_same t u k (x ∷ xs) [] l a = absurd (omega arith)
shown_same t u k (x ∷ xs) (y ∷ ys) l a = rw (first (t u k).see refl, shown_same t u (suc k) xs ys (omega arith) (λ i m s. a (suc i) (omega arith) (next i s)))
  where
    start : k + 0 ≡ k
    start = omega arith

    first : (b : Bool) → (t u k).see ≡ b → cond b x empty_slot ≡ cond b y empty_slot
    first true s = a 0 (omega arith) (rw start s)
    first false s = refl

    next : (i : ℕ) → (t u (suc k + i)).see ≡ true → (t u (k + suc i)).see ≡ true
    next i s = let z : k + suc i ≡ suc k + i = omega arith in rw z s

pub shows_same : (t : Table) (u : ℕ) (xs ys : List Slot) → AlikeTo t u xs ys → show_call t xs u ≡ show_call t ys u
unfolding show_call
shows_same t u xs ys a = rw (shown_same t u 0 xs ys (omega (arith, a.long, a.long')) (λ i l s. a.alike i (omega (arith, a.long)) (at i s)))
  where
    at : (i : ℕ) → (t u (0 + i)).see ≡ true → (t u i).see ≡ true
    at i s = let z : i ≡ 0 + i = omega arith in rw z s

-- (ii)
pub seen_same : (t : Table) (h : Sheet) (u : ℕ) (es : List Edit) (xs ys : List Slot) → AlikeTo t u xs ys → show_call t (after_edits t h es xs) u ≡ show_call t (after_edits t h es ys) u
seen_same t h u es xs ys a = shows_same t u (after_edits t h es xs) (after_edits t h es ys) (alike_after t h u es xs ys a)
