-- Marking entries or_move after the other, and taking marks away. Assumes nothing.
use mathlib.Core.Path.{◌≡◌, refl, ap, ◌∙◌}
use mathlib.Core.Bool.{Bool, true, false, not, ◌&&◌, ◌||◌, or_comm}
use mathlib.Core.List.{List, [], ◌∷◌, ◌++◌, map-append}
use Prim.Native.Nat.{ℕ, ◌+◌, ◌-◌, ◌≤◌, ◌<◌}
use native.Mathlib.Omega.{arith}
use native.Mathlib.Numerals.{add-one}
use lib.Dec.{eqb}
use lib.ListN.{get_or, length, set, take, length-append, length-map}
use lib.Seq.{slice, slice_empty, length-slice, take-suc, take-suc-set, drop-append-le, length-take-le, get_or-set_same, get_or-set_other}
use borrow.Author.Tests.{eqb-true, eqb-false}
use Rattle.model.proofs.Laws.Bools.{or_move}
use Rattle.parse_filter.specs.Chains.{signed_entry, signed_part, has}
use Rattle.parse_filter.proofs.Members.{has_append}
use Rattle.parse_filter.specs.Marks.{Part, Marks, Unmarks}

-- ---- a part of the list

pub part_none : (cs list : List ℕ) (n : Bool) (f : ℕ) → signed_part cs list n f f ≡ []
part_none cs list n f = rw (slice_empty f list)

pub part_on : (cs list : List ℕ) (n : Bool) (f j : ℕ) → f ≤ j → j < length list → signed_part cs list n f (j + 1) ≡ signed_part cs list n f j ++ signed_entry cs n (get_or list j 0) ∷ []
part_on cs list n f j l h =
    rw (add-one j, take-suc list j 0 h, drop-append-le f (take j list) (get_or list j 0 ∷ []) (rw (length-take-le j list (omega arith)) l))
    (map-append (signed_entry cs n) (slice f j list) (get_or list j 0 ∷ []))

pub part_length : (cs list : List ℕ) (n : Bool) (f t : ℕ) → t ≤ length list → length (signed_part cs list n f t) ≡ t - f
part_length cs list n f t h = length-map (slice f t list) (signed_entry cs n) ∙ length-slice f t list h

-- ---- marks

pub marks_none : (s : List Bool) (al : List ℕ) (a : ℕ) → Marks s al a [] s al a
unfolding has
marks_none s al a = record { marks = λ e. refl; looked = λ e. refl; up = omega arith; most = omega arith }

pub marks_join : (s t u : List Bool) (al bl cl : List ℕ) (a b c : ℕ) (xs ys zs : List ℕ)
    → ((e : ℕ) → has e zs ≡ has e xs || has e ys) → length zs ≡ length xs + length ys → Marks s al a xs t bl b → Marks t bl b ys u cl c → Marks s al a zs u cl c
marks_join s t u al bl cl a b c xs ys zs f l p q = record {
  marks = λ e. q.marks e ∙ rw (p.marks e, f e) (or_move (has e xs) (has e ys) (get_or s e false));
  looked = λ e. q.looked e ∙ rw (p.looked e, p.marks e, f e) (two (has e xs) (has e ys) (get_or s e false) (has e (take a al)));
  up = omega (arith, p.up, q.up);
  most = omega (arith, p.most, q.most);
}
  where
    two : (x y m o : Bool) → (y && not (x || m)) || ((x && not m) || o) ≡ ((x || y) && not m) || o
    two true true true o = refl
    two true true false o = refl
    two true false true o = refl
    two true false false o = refl
    two false true true o = refl
    two false true false o = refl
    two false false m o = refl

pub marks_append : (s t u : List Bool) (al bl cl : List ℕ) (a b c : ℕ) (xs ys : List ℕ) → Marks s al a xs t bl b → Marks t bl b ys u cl c → Marks s al a (xs ++ ys) u cl c
marks_append s t u al bl cl a b c xs ys p q = marks_join s t u al bl cl a b c xs ys (xs ++ ys) (λ e. has_append e xs ys) (length-append xs ys) p q

pub marks_before : (s t u : List Bool) (al bl cl : List ℕ) (a b c : ℕ) (xs ys : List ℕ) → Marks s al a xs t bl b → Marks t bl b ys u cl c → Marks s al a (ys ++ xs) u cl c
marks_before s t u al bl cl a b c xs ys p q = marks_join s t u al bl cl a b c xs ys (ys ++ xs) (λ e. has_append e ys xs ∙ or_comm (has e ys) (has e xs)) (omega (arith, length-append ys xs)) p q

module _ (s : List Bool) (al : List ℕ) (a e : ℕ) where
  pub entry_seen : get_or s e false ≡ true → Marks s al a (e ∷ []) s al a
  unfolding has
  entry_seen h = record { marks = λ x. or_move (eqb x e) x refl; looked = λ x. two (eqb x e) x refl; up = omega arith; most = omega arith }
    where
      or_move : (t : Bool) (x : ℕ) → eqb x e ≡ t → get_or s x false ≡ (t || false) || get_or s x false
      or_move true x q = ap (λ y. get_or s y false) (eqb-true x e q) ∙ h
      or_move false x q = refl

      two : (t : Bool) (x : ℕ) → eqb x e ≡ t → has x (take a al) ≡ ((t || false) && not (get_or s x false)) || has x (take a al)
      two true x q = let z : get_or s x false ≡ true = ap (λ y. get_or s y false) (eqb-true x e q) ∙ h in rw z
      two false x q = refl

  pub entry_new : get_or s e false ≡ false → e < length s → a < length al → Marks s al a (e ∷ []) (set s e true) (set al a e) (a + 1)
  unfolding has
  entry_new h l k = record {
    marks = λ x. or_move (eqb x e) x refl;
    looked = λ x. rw (add-one a, take-suc-set al a e k, has_append x (take a al) (e ∷ [])) (two (eqb x e) x refl);
    up = omega arith;
    most = omega arith;
  }
    where
      or_move : (t : Bool) (x : ℕ) → eqb x e ≡ t → get_or (set s e true) x false ≡ (t || false) || get_or s x false
      or_move true x q = ap (λ y. get_or (set s e true) y false) (eqb-true x e q) ∙ get_or-set_same s e true false l
      or_move false x q = get_or-set_other s e x true false (eqb-false x e q)

      two : (t : Bool) (x : ℕ) → eqb x e ≡ t → has x (take a al) || (t || false) ≡ ((t || false) && not (get_or s x false)) || has x (take a al)
      two true x q = let z : get_or s x false ≡ false = ap (λ y. get_or s y false) (eqb-true x e q) ∙ h in rw z (or_comm (has x (take a al)) true)
      two false x q = or_comm (has x (take a al)) false

-- ---- marks taken away

pub unmarks_none : (s : List Bool) → Unmarks s [] s
unfolding has
unmarks_none s = record { marks = λ e. refl }

unmarks_join : (s t u : List Bool) (xs ys zs : List ℕ) → ((e : ℕ) → has e zs ≡ has e xs || has e ys) → Unmarks s xs t → Unmarks t ys u → Unmarks s zs u
unmarks_join s t u xs ys zs f p q = record { marks = λ e. q.marks e ∙ rw (p.marks e, f e) (or_move (has e xs) (has e ys) (get_or s e false)) }
  where
    or_move : (x y m : Bool) → not y && (not x && m) ≡ not (x || y) && m
    or_move true true m = refl
    or_move true false m = refl
    or_move false true m = refl
    or_move false false m = refl

pub unmarks_append : (s t u : List Bool) (xs ys : List ℕ) → Unmarks s xs t → Unmarks t ys u → Unmarks s (xs ++ ys) u
unmarks_append s t u xs ys p q = unmarks_join s t u xs ys (xs ++ ys) (λ e. has_append e xs ys) p q

pub unmarks_before : (s t u : List Bool) (xs ys : List ℕ) → Unmarks s xs t → Unmarks t ys u → Unmarks s (ys ++ xs) u
unmarks_before s t u xs ys p q = unmarks_join s t u xs ys (ys ++ xs) (λ e. has_append e ys xs ∙ or_comm (has e ys) (has e xs)) p q

pub unmarks_one : (s : List Bool) (e : ℕ) → e < length s → Unmarks s (e ∷ []) (set s e false)
unfolding has
unmarks_one s e l = record { marks = λ x. or_move (eqb x e) x refl }
  where
    or_move : (t : Bool) (x : ℕ) → eqb x e ≡ t → get_or (set s e false) x false ≡ not (t || false) && get_or s x false
    or_move true x q = ap (λ y. get_or (set s e false) y false) (eqb-true x e q) ∙ get_or-set_same s e false false l
    or_move false x q = get_or-set_other s e x false false (eqb-false x e q)

-- ---- the loops over a part of the list

module _ (cs list : List ℕ) (size from to : ℕ) (n : Bool) (j : ℕ) (p : Part cs list size from to) (l : from ≤ j) (h : j < to) where
  pub signed_place : signed_entry cs n (get_or list j 0) < size
  signed_place = by n
    where
      by : (t : Bool) → signed_entry cs t (get_or list j 0) < size
      by true = p.companion j l h
      by false = p.place j l h

module _ (cs list : List ℕ) (s : List Bool) (from to : ℕ) (n : Bool) (j : ℕ) (p : Part cs list (length s) from to) (l : from ≤ j) (h : j < to) where
  pub cleared_on : (t : List Bool) → length t ≡ length s → Unmarks s (signed_part cs list n from j) t
      → Unmarks s (signed_part cs list n from (j + 1)) (set t (signed_entry cs n (get_or list j 0)) false)
  cleared_on t e u =
      rw (part_on cs list n from j l (omega (arith, p.high)))
      (unmarks_append s t (set t (signed_entry cs n (get_or list j 0)) false) (signed_part cs list n from j) (signed_entry cs n (get_or list j 0) ∷ []) u
      (unmarks_one t (signed_entry cs n (get_or list j 0)) (rw e (signed_place cs list (length s) from to n j p l h))))

module _ (cs list : List ℕ) (s : List Bool) (al : List ℕ) (from to : ℕ) (n : Bool) (a₀ j : ℕ) (p : Part cs list (length s) from to) (l : from ≤ j) (h : j < to) where
  pub marked_room : a₀ + (to - from) ≤ length al → (t : List Bool) (bl : List ℕ) (a : ℕ) → Marks s al a₀ (signed_part cs list n from j) t bl a → a < length al
  marked_room r t bl a m = omega (arith, m.most, part_length cs list n from j (omega (arith, p.high)))

  pub marked_on : (t : List Bool) (bl : List ℕ) (a : ℕ) → Marks s al a₀ (signed_part cs list n from j) t bl a → (e : ℕ) → e ≡ signed_entry cs n (get_or list j 0)
      → (u : List Bool) (cl : List ℕ) (b : ℕ) → Marks t bl a (e ∷ []) u cl b → Marks s al a₀ (signed_part cs list n from (j + 1)) u cl b
  marked_on t bl a m e f u cl b k =
      rw (part_on cs list n from j l (omega (arith, p.high)), ← f) (marks_append s t u al bl cl a₀ a b (signed_part cs list n from j) (e ∷ []) m k)
