-- The pair of a slot with an item, and the pairs of all slots one after the other. Assumes nothing.
use mathlib.Core.Path.{◌≡◌, refl, sym, ap, ◌∙◌}
use mathlib.Core.Bool.{Bool}
use mathlib.Core.Option.{some}
use mathlib.Core.List.{List, [], ◌∷◌, map}
use Prim.Native.Nat.{ℕ, suc, ◌+◌, ◌≤◌, ◌<◌}
use native.Mathlib.Numerals.{add-one}
use native.Mathlib.Omega.{arith}
use lib.IntN.{ℤ, pos}
use borrow.Author.Tests.{le-leb, lt-leb}
use lib.ListN.{length, get_or, drop, drop_of_length-le}
use lib.Seq.{drop-cons, sets}
use Rattle.model.specs.Save.{Save}
use Rattle.model.specs.Sheet as Model
use Rattle.model.specs.Shop as Shops
use Rattle.model.specs.Shop.{limit_of}
use Rattle.model.specs.Meaning as Meanings
use Rattle.model.specs.Meaning.{all_hold, acquired, unique_meaning, limit_meaning, filled_meaning, meaning_of, temp_after}
use Rattle.shop.specs.Shapes.{slot_of}
use Rattle.shop.specs.declared.Slot.{Slot}
use Rattle.std.specs.Prelude.{Some}
use Rattle.model.specs.declared.ItemId.{ItemId}
use Rattle.preview.specs.Shown.{accepted_as, blank_of, shown, meanings_of, previewed_of}
use Rattle.preview.specs.declared.Previewed.{Previewed}

-- ---- the pair of a slot with an item

abbrev pub kept : ℕ → ℤ → Meanings.Meaning
kept w z = record { item = pos w; count = z; temp = some z }

module _ (h : Model.Sheet) (s : Save) (x : Slot) (w : ItemId) (p : x.item ≡ Some w) (r : Bool) (q : r ≡ all_hold s (slot_of x).requirements) (l : ℕ) (e : l ≡ limit_of h w.0 x.limit) where
  filled_by_lem : meaning_of h s (slot_of x) ≡ filled_meaning h s w.0 l r
  unfolding meaning_of slot_of
  filled_by_lem = rw (p, q, e)

  -- m is what was answered
  pub meaning_unique : l ≤ 1 → {m : Meanings.Meaning} → m ≡ unique_meaning h s w.0 (acquired h s w.0) r → m ≡ meaning_of h s (slot_of x)
  meaning_unique k e = e ∙ sym (filled_by_lem ∙ rw (le-leb l 1 k))

  pub meaning_limit : 1 < l → {m : Meanings.Meaning} → m ≡ limit_meaning s w.0 l r → m ≡ meaning_of h s (slot_of x)
  meaning_limit k e = e ∙ sym (filled_by_lem ∙ rw (lt-leb l 1 k))

-- ---- the pairs, from slot i on

abbrev pub shown_from : ℕ → List Meanings.Meaning → Previewed → Previewed
shown_from i [] p = p
shown_from i (m ∷ ms) p = shown_from (suc i) ms (shown p i m)

module _ (h : Model.Sheet) (s : Save) where
  -- p with the pairs of the slots xs in the places from i on
  abbrev filled : ℕ → List Shops.Slot → Previewed → Previewed
  filled i xs p = record {
    items = sets p.items i (map (λ m. m.item) (map (meaning_of h s) xs));
    counts = sets p.counts i (map (λ m. m.count) (map (meaning_of h s) xs));
    temp = temp_after h s xs p.temp;
  }

  shown_filled : (i : ℕ) (xs : List Shops.Slot) (p : Previewed) → shown_from i (map (meaning_of h s) xs) p ≡ filled i xs p
  unfolding temp_after
  shown_filled i [] p = refl
  shown_filled i (x ∷ xs) p = shown_filled (suc i) xs (shown p i (meaning_of h s x))

  pub shown_all : (xs : List Shops.Slot) → accepted_as (shown_from 0 (map (meaning_of h s) xs) (blank_of (get_or s.variables 0 (pos 0)))) ≡ previewed_of (meanings_of h xs s)
  unfolding previewed_of
  shown_all xs = ap accepted_as (shown_filled 0 xs (blank_of (get_or s.variables 0 (pos 0))))

  -- what is left to show once p has the pairs of the slots below i
  pub record ShownTo (xs : List Slot) (i : ℕ) (p : Previewed) : Type 0 where
    pub low : i ≤ length xs
    pub is : accepted_as (shown_from i (map (meaning_of h s) (map slot_of (drop i xs))) p) ≡ previewed_of (meanings_of h (map slot_of xs) s)

  pub shown_start : (xs : List Slot) (p : Previewed) → p ≡ blank_of (get_or s.variables 0 (pos 0)) → ShownTo xs 0 p
  shown_start xs p e = record { low = omega arith; is = rw e (shown_all (map slot_of xs)) }

  pub shown_more : (xs : List Slot) (i : ℕ) (p : Previewed) → ShownTo xs i p → (d : Slot) → i < length xs
      → (x : Slot) → get_or xs i d ≡ x → (y : Slot) → y ≡ x → (m : Meanings.Meaning) → m ≡ meaning_of h s (slot_of y) → (q : Previewed) → q ≡ shown p i m → ShownTo xs (i + 1) q
  shown_more xs i p t d l x k y j m e q f = record {
    low = omega arith;
    is = rw (f, e, j, ← k, add-one i) (sym (ap (λ ys. accepted_as (shown_from i (map (meaning_of h s) (map slot_of ys)) p)) (drop-cons xs i d l)) ∙ t.is);
  }

  pub shown_end : (xs : List Slot) (i : ℕ) (p : Previewed) → ShownTo xs i p → length xs ≤ i → accepted_as p ≡ previewed_of (meanings_of h (map slot_of xs) s)
  shown_end xs i p t l = sym (ap (λ ys. accepted_as (shown_from i (map (meaning_of h s) (map slot_of ys)) p)) (drop_of_length-le xs l)) ∙ t.is
