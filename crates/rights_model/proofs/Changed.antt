-- A slot's field differs from the start only if somebody with that right changed it, and then it holds the last such edit's content. Assumes nothing.
use Rattle.std.specs.Prelude.{◌≡◌, Bool, ◌&&◌, ℕ, get_or, length}
use Rattle.std.proofs.Math.Path.{refl}
use Rattle.std.proofs.Common.{sym, ap, ◌∙◌, true≢false}
use Rattle.std.proofs.Math.Bool.{true, false, not, cond}
use mathlib.Core.List.{List, [], ◌∷◌, ◌++◌}
use Rattle.std.proofs.Math.Dec.{eqb}
use borrow.Author.Tests.{eq-eqb, eqb-true}
use Rattle.model.specs.Limits.{slot_count}
use Rattle.model.specs.Sheet.{Sheet, all}
use Rattle.model.specs.Shop.{Slot, empty_slot}
use Rattle.model.proofs.Laws.Checks.{and_left, and_right}
use Rattle.rights_model.specs.Rights.{Content, Edit, Field, LastEdit, Table, after_edits, edit_call, edit_refusal, field_code, field_in, field_of, touches}
use Rattle.rights_model.proofs.Fields.{allowed, call_field, call_long, field_is_lem}

module _ (t : Table) (h : Sheet) (i : ℕ) (f : Field) where
  abbrev pub held_in : List Slot → Content
  held_in xs = field_in f (get_or xs i empty_slot)

  abbrev pub untouched : List Edit → Bool
  untouched es = all (λ d. not (touches t h i f d)) es

  -- nobody touched it: it is as at the start
  pub kept : (es : List Edit) (xs : List Slot) → length xs ≡ slot_count → untouched es ≡ true → held_in (after_edits t h es xs) ≡ held_in xs
  unfolding after_edits
  kept [] xs l u = refl
  kept (e ∷ es) xs l u =
      kept es (edit_call t h xs e).slots (call_long t h xs e ∙ l) (and_right (not (touches t h i f e)) _ u)
      ∙ call_field t h xs e l i f ∙ by (touches t h i f e) (and_left (not (touches t h i f e)) _ u)
    where
      by : (b : Bool) → not b ≡ true → cond b e.content (held_in xs) ≡ held_in xs
      by true p = absurd (true≢false (sym p))
      by false p = refl

  -- an edit that touches it, and none after it
  after_last : (ds : List Edit) (e : Edit) (es : List Edit) (xs : List Slot) → length xs ≡ slot_count → touches t h i f e ≡ true → untouched es ≡ true → held_in (after_edits t h (ds ++ e ∷ es) xs) ≡ e.content
  unfolding after_edits
  after_last [] e es xs l p q = kept es (edit_call t h xs e).slots (call_long t h xs e ∙ l) q ∙ call_field t h xs e l i f ∙ rw p
  after_last (d ∷ ds) e es xs l p q = after_last ds e es (edit_call t h xs d).slots (call_long t h xs d ∙ l) p q

  -- it holds the content of the last edit that touched it
  pub holds_last : (es : List Edit) (xs : List Slot) → length xs ≡ slot_count → (e : Edit) → LastEdit t h es i f e → held_in (after_edits t h es xs) ≡ e.content
  unfolding touches
  holds_last es xs l e k = rw k.inside (after_last k.earlier e k.later xs l (rw (k.accepted, k.slot, k.field) (same i f)) k.last)
    where
      same : (j : ℕ) (g : Field) → eqb j j && eqb (field_code g) (field_code g) ≡ true
      same j g = rw (eq-eqb j j refl, eq-eqb (field_code g) (field_code g) refl)

  -- the last edit that touched it, where one did
  find_last : (es : List Edit) → untouched es ≡ false → (e : Edit) × LastEdit t h es i f e
  find_last [] u = absurd (true≢false u)
  find_last (e ∷ es) u = by (untouched es) (touches t h i f e) refl refl u (find_last es)
    where
      made : touches t h i f e ≡ true → untouched es ≡ true → LastEdit t h (e ∷ es) i f e
      made p q =
          let a = eqb-true (edit_refusal t h e) 0 (unfold touches in and_left (eqb (edit_refusal t h e) 0) _ p) in
          let r : eqb e.slot i && eqb (field_code (field_of e.content)) (field_code f) ≡ true = unfold touches in and_right (eqb (edit_refusal t h e) 0) _ p in
          let s = eqb-true e.slot i (and_left (eqb e.slot i) _ r) in
          let g = field_is_lem (field_of e.content) f (and_right (eqb e.slot i) _ r) in
          let w = allowed t h e a in
          record { earlier = []; later = es; inside = refl; accepted = a; slot = s; field = g; user = w.user; right = rw (s, g) at w.right; last = q }

      later_one : (d : Edit) × LastEdit t h es i f d → (d : Edit) × LastEdit t h (e ∷ es) i f d
      later_one k = (
        k.0,
        record {
          earlier = e ∷ k.1.earlier;
          later = k.1.later;
          inside = ap (λ l. e ∷ l) k.1.inside;
          accepted = k.1.accepted;
          slot = k.1.slot;
          field = k.1.field;
          user = k.1.user;
          right = k.1.right;
          last = k.1.last;
        },
      )

      by : (a b : Bool) → untouched es ≡ a → touches t h i f e ≡ b → not b && a ≡ false → (untouched es ≡ false → (d : Edit) × LastEdit t h es i f d) → (d : Edit) × LastEdit t h (e ∷ es) i f d
      by true true p q u ih = (e, made q p)
      by true false p q u ih = absurd (true≢false u)
      by false b p q u ih = later_one (ih p)

  -- (i) a field that differs was changed by an accepted edit of a user with that right, and holds the last such edit's content
  pub changed : (es : List Edit) (xs : List Slot) → length xs ≡ slot_count → (held_in (after_edits t h es xs) ≡ held_in xs → ⊥)
      → (e : Edit) × LastEdit t h es i f e × (held_in (after_edits t h es xs) ≡ e.content)
  changed es xs l d = by (untouched es) refl
    where
      by : (b : Bool) → untouched es ≡ b → (e : Edit) × LastEdit t h es i f e × (held_in (after_edits t h es xs) ≡ e.content)
      by true p = absurd (d (kept es xs l p))
      by false p = let k = find_last es p in (k.0, k.1, holds_last es xs l k.0 k.1)
