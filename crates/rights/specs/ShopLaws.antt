-- The calls that edit and show a shop as a value: by the answers of what they call, and that they are the definitions' calls. Assumes nothing.
use Rattle.std.specs.Prelude.{◌≡◌, Bool, eqb, ltb, get_or, length}
use Rattle.std.proofs.Math.Path.{refl, ap}
use Rattle.std.proofs.Common.{sym, ◌∙◌, add-one}
use Rattle.std.proofs.Math.Bool.{true, false, cond}
use mathlib.Core.List.{List, [], ◌∷◌, map}
use Prim.Native.Nat.{ℕ, zero, suc, ◌+◌, ◌≤◌, ◌<◌}
use native.Mathlib.Omega.{arith}
use borrow.Author.Tests.{le-ltb, lt-ltb, ne_eqb}
use Rattle.std.proofs.Math.ListN.{set, get_or-map}
use Rattle.model.specs.Limits.{slot_count, user_count}
use Rattle.model.specs.Refusal.{check, no_user}
use Rattle.model.specs.Sheet as Model
use Rattle.model.specs.Shop as Shops
use Rattle.model.specs.Shop.{empty_slot}
use Rattle.rights_model.specs.Rights.{Edited, Table, edit_call, edit_refusal, edited_of, put, show_call, shown_from, shown_of}
use Rattle.shop.specs.Shapes.{entries, no_shop, no_slot, placed, slot_of, slots_of}
use Rattle.shop.specs.declared.Shop.{Shop}
use Rattle.shop.specs.declared.Slot.{Slot}
use Rattle.rights.specs.InShops.{Answered, answered_as, changed_slot, shop_edited, shop_shown, shop_with, slots_shown}
use Rattle.rights.specs.Values.{content_of, edit_of}
use Rattle.rights.specs.declared.Field.{Field}
use Rattle.rights.specs.declared.Field.TheVariants.{Item, Limit, Requirements}

-- ---- an edit

module _ (t : Table) (h : Model.Sheet) (s : Shop) (u i : ℕ) (f : Field) (x : Slot) where
  pub edited_not : (n : ℕ) → n ≡ edit_refusal t h (edit_of u i f x) → (n ≡ 0 → ⊥) → record { refusal = n; shop = s } ≡ shop_edited t h s u i f x
  unfolding shop_edited
  edited_not zero p q = absurd (q refl)
  edited_not (suc n) p q = ap (λ k. answered_as k (shop_with f x i s) s) p

  pub edited_now : 0 ≡ edit_refusal t h (edit_of u i f x) → record { refusal = 0; shop = shop_with f x i s } ≡ shop_edited t h s u i f x
  unfolding shop_edited
  edited_now p = ap (λ k. answered_as k (shop_with f x i s) s) p

-- ---- the loop over the slots that are shown

module _ (t : Table) (u : ℕ) where
  -- from number k on n slots are shown, the rest stands as it is
  unfoldable pub passed : ℕ → ℕ → List Slot → List Slot
  passed k zero xs = xs
  passed k (suc n) [] = []
  passed k (suc n) (x ∷ xs) = cond (t u k).see x no_slot ∷ passed (suc k) n xs

  passed_more : (k n : ℕ) (xs : List Slot) → cond (t u (k + n)).see (passed k n xs) (set (passed k n xs) n no_slot) ≡ passed k (suc n) xs
  unfolding passed
  passed_more k zero [] = by (t u (k + 0)).see
    where
      by : (b : Bool) → cond b [] (set [] 0 no_slot) ≡ []
      by true = refl
      by false = refl
  passed_more k zero (x ∷ xs) = let z : k + 0 ≡ k = omega arith in rw z (by (t u k).see)
    where
      by : (b : Bool) → cond b (x ∷ xs) (no_slot ∷ xs) ≡ cond b x no_slot ∷ xs
      by true = refl
      by false = refl
  passed_more k (suc n) [] = by (t u (k + suc n)).see
    where
      by : (b : Bool) → cond b [] (set [] (suc n) no_slot) ≡ []
      by true = refl
      by false = refl
  passed_more k (suc n) (x ∷ xs) =
      let z : k + suc n ≡ suc k + n = omega arith in
      rw z (by (t u (suc k + n)).see (passed (suc k) n xs) ∙ ap (λ l. cond (t u k).see x no_slot ∷ l) (passed_more (suc k) n xs))
    where
      by : (b : Bool) (l : List Slot) → cond b (cond (t u k).see x no_slot ∷ l) (cond (t u k).see x no_slot ∷ set l n no_slot) ≡ cond (t u k).see x no_slot ∷ cond b l (set l n no_slot)
      by true l = refl
      by false l = refl

  passed_all : (k n : ℕ) (xs : List Slot) → length xs ≤ n → passed k n xs ≡ slots_shown t u k xs
  unfolding passed slots_shown
  passed_all k zero [] l = refl
  passed_all k zero (x ∷ xs) l = absurd (omega arith)
  passed_all k (suc n) [] l = refl
  passed_all k (suc n) (x ∷ xs) l = ap (λ l. cond (t u k).see x no_slot ∷ l) (passed_all (suc k) n xs (omega arith))

  pub record ShownUpTo (first : Shop) (i : ℕ) (out : Shop) : Type 0 where
    pub few : i ≤ slot_count
    pub is : out.slots ≡ passed 0 i first.slots

  module _ (first : Shop) where
    pub shown_start : ShownUpTo first 0 first
    unfolding passed
    shown_start = record { few = omega arith; is = refl }

    pub shown_more : (i : ℕ) (out : Shop) → ShownUpTo first i out → i < slot_count → (r : Shop) → r ≡ cond (t u i).see out (placed out i no_slot) → ShownUpTo first (i + 1) r
    shown_more i out k l r e =
        let z : 0 + i ≡ i = omega arith in
        rw (add-one i) (record { few = l; is = ap (λ s. s.slots) e ∙ by (t u i).see ∙ rw k.is (rw z at (passed_more 0 i first.slots)) })
      where
        by : (b : Bool) → (cond b out (placed out i no_slot)).slots ≡ cond b out.slots (set out.slots i no_slot)
        by true = refl
        by false = refl

    -- accepted
    pub shown_end : (i : ℕ) (out : Shop) → ShownUpTo first i out → slot_count ≤ i → length first.slots ≡ slot_count → u < user_count → record { refusal = 0; shop = out } ≡ shop_shown t first u
    unfolding shop_shown
    shown_end i out k l long m =
        let d : out.slots ≡ slots_shown t u 0 first.slots = k.is ∙ passed_all 0 i first.slots (omega (arith, long)) in
        rw (lt-ltb u user_count m) (ap (λ (xs : List Slot). record { refusal = 0; shop = record { slots = xs } }) d)

    pub shown_not : (out : Shop) → out ≡ no_shop → user_count ≤ u → record { refusal = no_user; shop = out } ≡ shop_shown t first u
    unfolding shop_shown
    shown_not out e l = rw (e, le-ltb u user_count l)

-- ---- the definitions' edit

abbrev pub edited_is : Answered → Edited
edited_is r = record { answer = r.refusal; slots = slots_of r.shop }

map_set : (f : Slot → Shops.Slot) (l : List Slot) (i : ℕ) (x : Slot) → map f (set l i x) ≡ set (map f l) i (f x)
map_set f [] i x = refl
map_set f (y ∷ ys) zero x = refl
map_set f (y ∷ ys) (suc i) x = ap (λ l. f y ∷ l) (map_set f ys i x)

slot_at_lem : (s : Shop) (i : ℕ) → get_or (slots_of s) i empty_slot ≡ slot_of (get_or s.slots i no_slot)
unfolding slots_of slot_of entries
slot_at_lem s i = get_or-map slot_of s.slots i no_slot

slot_changed : (f : Field) (x old : Slot) → slot_of (changed_slot f x old) ≡ put (content_of f x) (slot_of old)
unfolding slot_of
slot_changed Item x old = refl
slot_changed Limit x old = refl
slot_changed Requirements x old = refl

module _ (s : Shop) (i : ℕ) (f : Field) (x : Slot) where
  shop_with_lem : slots_of (shop_with f x i s) ≡ set (slots_of s) i (put (content_of f x) (get_or (slots_of s) i empty_slot))
  unfolding slots_of
  shop_with_lem = map_set slot_of s.slots i _ ∙ ap (set (map slot_of s.slots) i) (slot_changed f x (get_or s.slots i no_slot) ∙ ap (put (content_of f x)) (sym (slot_at_lem s i)))

  pub edit_call_lem : (t : Table) (h : Model.Sheet) (u : ℕ) → edited_is (shop_edited t h s u i f x) ≡ edit_call t h (slots_of s) (edit_of u i f x)
  unfolding shop_edited edit_call
  edit_call_lem t h u = by (edit_refusal t h (edit_of u i f x))
    where
      by : (n : ℕ) → edited_is (answered_as n (shop_with f x i s) s) ≡ edited_of n (set (slots_of s) i (put (content_of f x) (get_or (slots_of s) i empty_slot))) (slots_of s)
      by zero = rw shop_with_lem
      by (suc n) = refl

-- ---- and the definitions' show

-- a refusal hands out nothing
abbrev pub handed_out : Answered → Edited
handed_out r = record { answer = r.refusal; slots = cond (eqb r.refusal 0) (slots_of r.shop) [] }

module _ (t : Table) (u : ℕ) where
  slots_shown_lem : (i : ℕ) (xs : List Slot) → map slot_of (slots_shown t u i xs) ≡ shown_from t u i (map slot_of xs)
  unfolding slots_shown shown_from
  slots_shown_lem i [] = refl
  slots_shown_lem i (x ∷ xs) = rw (slots_shown_lem (suc i) xs, see (t u i).see)
    where
      blank : slot_of no_slot ≡ empty_slot
      blank = unfold slot_of entries in refl

      see : (b : Bool) → slot_of (cond b x no_slot) ≡ cond b (slot_of x) empty_slot
      see true = refl
      see false = blank

  pub show_call_lem : (s : Shop) → handed_out (shop_shown t s u) ≡ show_call t (slots_of s) u
  unfolding shop_shown show_call slots_of
  show_call_lem s = by (check (ltb u user_count) no_user)
    where
      by : (n : ℕ) → handed_out (answered_as n (record { slots = slots_shown t u 0 s.slots }) no_shop) ≡ shown_of n (shown_from t u 0 (map slot_of s.slots))
      by zero = rw (slots_shown_lem 0 s.slots)
      by (suc n) = rw (ne_eqb (suc n) 0 (λ q. omega arith))
