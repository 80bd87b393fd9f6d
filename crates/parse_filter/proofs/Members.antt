-- Membership in lists of entries, and that a set of codes does not depend on the order in which they came. Assumes nothing.
use Rattle.std.specs.Prelude.{◌≡◌, Bool, true, false, cond, ◌&&◌, ◌||◌, ℕ, zero, suc, ◌≤◌, ◌<◌, eqb, ltb, get_or, length}
use Rattle.std.proofs.Math.Path.{refl}
use Rattle.std.proofs.Common.{sym, ap, ◌∙◌, true≢false, arith, eqb-true, eq-eqb}
use Rattle.std.proofs.Math.Bool.{or_comm, or_assoc, and-false}
use mathlib.Core.List.{List, [], ◌∷◌, ◌++◌, map}
use Rattle.model.specs.Requirement.{Requirement, haveItem, missingItem, haveAtc, missingAtc, haveFlag, missingFlag, insert, sorted, member, same_req}
use Rattle.model.proofs.Laws.Sets.{sorted_sorted, ext, member_sorted}
use Rattle.shop.specs.Sets.{insert_code, sorted_codes}
use Rattle.shop.specs.SetLaws.{insert_more}
use Rattle.parse_filter.specs.Chains.{has}
use Rattle.parse_filter.specs.Filter.{stay}
use Rattle.model.proofs.Laws.Normal.{both_ways_lem}
use Rattle.model.proofs.Laws.Bools.{or_cases, or_left, or_right}

-- ---- membership

pub has_append : (e : ℕ) (xs ys : List ℕ) → has e (xs ++ ys) ≡ has e xs || has e ys
unfolding has
has_append e [] ys = refl
has_append e (x ∷ xs) ys = rw (has_append e xs ys) (sym (or_assoc (eqb e x) (has e xs) (has e ys)))

pub has_stay : (p : ℕ → Bool) (e : ℕ) (xs : List ℕ) → has e (stay p xs) ≡ p e && has e xs
unfolding has stay
has_stay p e [] = sym (and-false (p e))
has_stay p e (x ∷ xs) = by (eqb e x) (p x) refl refl (has_stay p e xs)
  where
    by : (s t : Bool) → eqb e x ≡ s → p x ≡ t → has e (stay p xs) ≡ p e && has e xs → has e (cond t (x ∷ stay p xs) (stay p xs)) ≡ p e && (s || has e xs)
    by true true a b ih = let q : p e ≡ true = ap p (eqb-true e x a) ∙ b in rw (a, q)
    by true false a b ih = let q : p e ≡ false = ap p (eqb-true e x a) ∙ b in ih ∙ rw q
    by false true a b ih = rw a ih
    by false false a b ih = ih

pub stay_append : (p : ℕ → Bool) (xs ys : List ℕ) → stay p (xs ++ ys) ≡ stay p xs ++ stay p ys
unfolding stay
stay_append p [] ys = refl
stay_append p (x ∷ xs) ys = by (p x) (stay_append p xs ys)
  where
    by : (t : Bool) → stay p (xs ++ ys) ≡ stay p xs ++ stay p ys → cond t (x ∷ stay p (xs ++ ys)) (stay p (xs ++ ys)) ≡ cond t (x ∷ stay p xs) (stay p xs) ++ stay p ys
    by true e = rw e
    by false e = e

-- an entry of xs that f takes to y
pub record From (f : ℕ → ℕ) (xs : List ℕ) (y : ℕ) : Type 0 where
  pub at : ℕ
  pub held : has at xs ≡ true
  pub is : f at ≡ y

pub has_self : (e : ℕ) (xs : List ℕ) → has e (e ∷ xs) ≡ true
unfolding has
has_self e xs = rw (eq-eqb e e refl)

pub has_later : (e x : ℕ) (xs : List ℕ) → has e xs ≡ true → has e (x ∷ xs) ≡ true
unfolding has
has_later e x xs h = or_right (eqb e x) (has e xs) h

pub map_from : (f : ℕ → ℕ) (y : ℕ) (xs : List ℕ) → has y (map f xs) ≡ true → From f xs y
unfolding has
map_from f y [] e = absurd (true≢false (sym e))
map_from f y (x ∷ xs) e = or_cases (eqb y (f x)) (has y (map f xs)) e
    (λ h. record { at = x; held = has_self x xs; is = sym (eqb-true y (f x) h) })
    (λ h. let w = map_from f y xs h in record { at = w.at; held = has_later w.at x xs w.held; is = w.is })

pub map_has : (f : ℕ → ℕ) (e : ℕ) (xs : List ℕ) → has e xs ≡ true → has (f e) (map f xs) ≡ true
unfolding has
map_has f e [] h = absurd (true≢false (sym h))
map_has f e (x ∷ xs) h = or_cases (eqb e x) (has e xs) h
    (λ a. or_left (eqb (f e) (f x)) (has (f e) (map f xs)) (eq-eqb (f e) (f x) (ap f (eqb-true e x a))))
    (λ a. or_right (eqb (f e) (f x)) (has (f e) (map f xs)) (map_has f e xs a))

-- where it stands
pub record Place (l : List ℕ) (x : ℕ) : Type 0 where
  pub at : ℕ
  pub low : at < length l
  pub is : get_or l at 0 ≡ x

pub has_place : (x : ℕ) (l : List ℕ) → has x l ≡ true → Place l x
unfolding has
has_place x [] e = absurd (true≢false (sym e))
has_place x (y ∷ l) e = or_cases (eqb x y) (has x l) e
    (λ h. record { at = 0; low = omega arith; is = sym (eqb-true x y h) })
    (λ h. let w = has_place x l h in record { at = suc w.at; low = omega (arith, w.low); is = w.is })

pub place_has : (l : List ℕ) (i : ℕ) → i < length l → has (get_or l i 0) l ≡ true
place_has [] i h = absurd (omega arith)
place_has (x ∷ l) zero h = has_self x l
place_has (x ∷ l) (suc i) h = has_later (get_or l i 0) x l (place_has l i (omega arith))

-- ---- sets of codes: as items they are sets of requirements, for which order is known not to matter

item_insert : (c : ℕ) (l : List ℕ) → map haveItem (insert_code c l) ≡ insert (haveItem c) (map haveItem l)
unfolding insert_code insert
item_insert c [] = refl
item_insert c (y ∷ ys) = by (eqb c y) (ltb c y) (item_insert c ys)
  where
    by : (s t : Bool) → map haveItem (insert_code c ys) ≡ insert (haveItem c) (map haveItem ys)
        → map haveItem (cond s (y ∷ ys) (cond t (c ∷ y ∷ ys) (y ∷ insert_code c ys)))
        ≡ cond s (haveItem y ∷ map haveItem ys) (cond t (haveItem c ∷ haveItem y ∷ map haveItem ys) (haveItem y ∷ insert (haveItem c) (map haveItem ys)))
    by true t e = refl
    by false true e = refl
    by false false e = rw e

item_sorted : (l : List ℕ) → map haveItem (sorted_codes l) ≡ sorted (map haveItem l)
unfolding sorted_codes sorted
item_sorted [] = refl
item_sorted (c ∷ cs) = item_insert c (sorted_codes cs) ∙ ap (insert (haveItem c)) (item_sorted cs)

item_member : (e : ℕ) (xs : List ℕ) → member (haveItem e) (map haveItem xs) ≡ has e xs
unfolding member has
item_member e [] = refl
item_member e (x ∷ xs) = ap (λ t. eqb e x || t) (item_member e xs)

module _ (xs ys : List ℕ) (same : (e : ℕ) → has e xs ≡ has e ys) where
  no_other : (q : Requirement) → ((n : ℕ) → same_req q (haveItem n) ≡ false) → (l : List ℕ) → member q (map haveItem l) ≡ false
  unfolding member
  no_other q f [] = refl
  no_other q f (x ∷ l) = rw (f x, no_other q f l)

  apart : (q : Requirement) → ((n : ℕ) → same_req q (haveItem n) ≡ false) → member q (map haveItem xs) ≡ member q (map haveItem ys)
  apart q f = no_other q f xs ∙ sym (no_other q f ys)

  same_items : (q : Requirement) → member q (map haveItem xs) ≡ member q (map haveItem ys)
  same_items (haveItem e) = item_member e xs ∙ same e ∙ sym (item_member e ys)
  same_items (missingItem n) = apart (missingItem n) (λ k. refl)
  same_items (haveAtc n) = apart (haveAtc n) (λ k. refl)
  same_items (missingAtc n) = apart (missingAtc n) (λ k. refl)
  same_items (haveFlag n) = apart (haveFlag n) (λ k. refl)
  same_items (missingFlag n) = apart (missingFlag n) (λ k. refl)

  items_back : (l m : List ℕ) → map haveItem l ≡ map haveItem m → l ≡ m
  items_back [] [] e = refl
  items_back [] (y ∷ m) e = cc
  items_back (x ∷ l) [] e = cc
  items_back (x ∷ l) (y ∷ m) e =
      let p : x ≡ y = cc in
      let q : map haveItem l ≡ map haveItem m = cc in
      rw (p, items_back l m q)

  pub same_set : sorted_codes xs ≡ sorted_codes ys
  same_set =
      items_back (sorted_codes xs) (sorted_codes ys)
      (item_sorted xs
      ∙ ext (sorted (map haveItem xs)) (sorted (map haveItem ys)) (sorted_sorted (map haveItem xs)) (sorted_sorted (map haveItem ys))
      (λ q. member_sorted q (map haveItem xs) ∙ same_items q ∙ sym (member_sorted q (map haveItem ys)))
      ∙ sym (item_sorted ys))

-- f of the same entries
pub map_same : (f : ℕ → ℕ) (xs ys : List ℕ) → ((e : ℕ) → has e xs ≡ has e ys) → (y : ℕ) → has y (map f xs) ≡ has y (map f ys)
map_same f xs ys same y = both_ways_lem (has y (map f xs)) (has y (map f ys)) (go xs ys (λ e h. sym (same e) ∙ h)) (go ys xs (λ e h. same e ∙ h))
  where
    go : (l m : List ℕ) → ((e : ℕ) → has e l ≡ true → has e m ≡ true) → has y (map f l) ≡ true → has y (map f m) ≡ true
    go l m t h = let w = map_from f y l h in rw w.is at (map_has f w.at m (t w.at w.held))

-- a set grows where codes join it
joined_more : (xs ys : List ℕ) → length (sorted_codes xs) ≤ length (sorted_codes (ys ++ xs))
unfolding sorted_codes
joined_more xs [] = omega arith
joined_more xs (y ∷ ys) = omega (arith, joined_more xs ys, (insert_more y (sorted_codes (ys ++ xs))).0)

pub sorted_more : (xs ys : List ℕ) → length (sorted_codes xs) ≤ length (sorted_codes (xs ++ ys))
sorted_more xs ys = rw (same_set (xs ++ ys) (ys ++ xs) (λ e. has_append e xs ys ∙ or_comm (has e xs) (has e ys) ∙ sym (has_append e ys xs))) (joined_more xs ys)

-- one code more, wherever it stands
pub sorted_on : (xs : List ℕ) (x : ℕ) → sorted_codes (xs ++ x ∷ []) ≡ insert_code x (sorted_codes xs)
unfolding sorted_codes
sorted_on xs x = same_set (xs ++ x ∷ []) (x ∷ xs) (λ e. has_append e xs (x ∷ []) ∙ or_comm (has e xs) (has e (x ∷ [])) ∙ sym (has_append e (x ∷ []) xs))
