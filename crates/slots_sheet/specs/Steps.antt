-- The steps of reading a sheet: one number judged as read, the items' atcs one by one, the three timers. Assumes nothing.
use Rattle.std.specs.Prelude.{◌≡◌, refl, Bool, true, false, not, ◌&&◌, leb, eqb, length, take, set, Result, Ok, Err, Some, None}
use Rattle.std.specs.Prelude as prelude
use Rattle.std.proofs.Math.Option.{Option}
use Rattle.std.proofs.Common.{ap, sym, ◌∙◌, add-one, le-leb, lt-ltb, le-ltb, ltb-true, leb-true, eq-eqb, ne_eqb, length-set, take-suc-set, drop-set-lt, drop-drop}
use Rattle.std.proofs.Math.Path.{subst}
use mathlib.Core.List.{List, [], ◌∷◌, ◌++◌, map, append-nil, map-append}
use Prim.Native.Nat.{ℕ, suc, ◌+◌, ◌-◌, ◌≤◌, ◌<◌}
use native.Mathlib.Omega.{arith}
use Rattle.std.proofs.lemmas.Bool.{lt-leb}
use Rattle.std.proofs.Math.Dec.{ltb, leb-zero}
use Rattle.std.proofs.Math.ListN.{drop}
use Rattle.model.specs.Limits.{most_items, wide}
use Rattle.model.specs.Refusal.{bad_sheet, bad_image}
use Rattle.model.specs.Refusals.{refusal_number}
use Rattle.model.specs.declared.Refusal.{Refusal}
use Rattle.model.specs.Reading.{Answer, got, refused, onward, number}
use Rattle.model.proofs.Laws.Reading.{refused≢got}
use Rattle.model.proofs.Laws.Checks.{and_right}
use Rattle.model.specs.Sheet
use Rattle.model.specs.Printer.{must, atc_entry, read_atcs, read_timers}
use Rattle.image_numbers.specs.Told.{Told}
use Rattle.image_numbers.specs.Answers.{seen_more, seen_none}
use Rattle.slots_sheet.specs.Told.{within, timer, judged, Passed, SetupRead, ToldSetup, ToldEntry, AtcsRead, TimersRead}

-- ---- one number

-- a number as image_numbers tells it
module _ (s : List ℕ) (at : ℕ) {r : prelude.Option (ℕ × ℕ)} (t : Told s r (number wide (drop at s))) where
  pub number_found : {x : ℕ × ℕ} → r ≡ Some x → SetupRead s at x.0 x.1
  unfolding Told
  number_found w = let u = rw w at t in record { read = u.0; place = u.1 }

  pub number_bad : r ≡ None → number wide (drop at s) ≡ refused bad_image
  unfolding Told
  number_bad w = rw w at t

-- a number as it was told: read, or refused
module _ (s : List ℕ) (at : ℕ) {r : Result (ℕ × ℕ) Refusal} (t : ToldSetup s at r) where
  pub number_read : {x : ℕ × ℕ} → r ≡ Ok x → SetupRead s at x.0 x.1
  number_read w = rw w at t

  pub number_refused : {e : Refusal} → r ≡ Err e → number wide (drop at s) ≡ refused (refusal_number e)
  number_refused w = rw w at t

  pub judged_refused : (ok : ℕ → Bool) {e : Refusal} → r ≡ Err e → judged ok (drop at s) ≡ refused (refusal_number e)
  judged_refused ok w = rw (number_refused w)

  pub entry_no : (ok : ℕ → Bool) {x : ℕ × ℕ} → r ≡ Ok x → ok x.0 ≡ false → judged ok (drop at s) ≡ refused bad_sheet
  entry_no ok w h = rw ((number_read w).read, h)

  pub entry_got : (ok : ℕ → Bool) {x : ℕ × ℕ} → r ≡ Ok x → ok x.0 ≡ true → Passed s at ok x.0 x.1
  entry_got ok w h = let u = number_read w in record { read = u.read; good = h; place = u.place }

module _ (s : List ℕ) (at : ℕ) (ok : ℕ → Bool) {r : Result (ℕ × ℕ) Refusal} (t : ToldEntry s at ok r) where
  pub entry_read : {x : ℕ × ℕ} → r ≡ Ok x → Passed s at ok x.0 x.1
  entry_read w = rw w at t

  pub entry_refused : {e : Refusal} → r ≡ Err e → judged ok (drop at s) ≡ refused (refusal_number e)
  entry_refused w = rw w at t

-- what the tests of the definitions are, for a number that was read
pub within_low : (a b v : ℕ) → v < a → within a b v ≡ false
within_low a b v h = rw (lt-leb a v h)

pub within_high : (a b v : ℕ) → b < v → within a b v ≡ false
within_high a b v h = by (leb a v)
  where
    by : (t : Bool) → t && leb v b ≡ false
    by true = lt-leb v b h
    by false = refl

pub within_in : (a b v : ℕ) → a ≤ v → v ≤ b → within a b v ≡ true
within_in a b v g h = rw (le-leb a v g, le-leb v b h)

pub within_most : (a b k : ℕ) → within a b k ≡ true → k ≤ b
within_most a b k h = leb-true k b (and_right (leb a k) (leb k b) h)

pub timer_out : (n a b v : ℕ) → n ≤ v → timer n a b v ≡ false
timer_out n a b v h = rw (le-ltb v n h)

pub timer_first : (n a b v : ℕ) → v < n → v ≡ a → timer n a b v ≡ false
timer_first n a b v h e = rw (lt-ltb v n h, eq-eqb v a e)

pub timer_second : (n a b v : ℕ) → v < n → (v ≡ a → ⊥) → v ≡ b → timer n a b v ≡ false
timer_second n a b v h d e = rw (lt-ltb v n h, ne_eqb v a d, eq-eqb v b e)

pub timer_in : (n a b v : ℕ) → v < n → (v ≡ a → ⊥) → (v ≡ b → ⊥) → timer n a b v ≡ true
timer_in n a b v h d e = rw (lt-ltb v n h, ne_eqb v a d, ne_eqb v b e)

-- reading on from a number, by any test that says the same
module _ {B : Type 0} (ok ok' : ℕ → Bool) (same : (k : ℕ) → ok k ≡ ok' k) (f : ℕ → List ℕ → Answer B) where
  pub passed_on : {s : List ℕ} {at v p : ℕ} → Passed s at ok v p → onward (number wide (drop at s)) (λ k r. must (ok' k) (f k r)) ≡ f v (drop p s)
  passed_on {v = v} x = let e : ok' v ≡ true = sym (same v) ∙ x.good in rw (x.read, e)

  refused_on : (a : Answer ℕ) (e : ℕ) → onward a (λ k r. must (ok k) (got k r)) ≡ refused e → onward a (λ k r. must (ok' k) (f k r)) ≡ refused e
  refused_on (got k r) e h = by (ok' k) (rw (same k) at h)
    where
      by : (t : Bool) → must t (got k r) ≡ refused e → must t (f k r) ≡ refused e
      by true g = absurd (refused≢got (sym g))
      by false g = let q : bad_sheet ≡ e = cc in ap refused q
  refused_on (refused n) e h = let q : n ≡ e = cc in ap refused q

  pub judged_on : (s : List ℕ) (e : ℕ) → judged ok s ≡ refused e → onward (number wide s) (λ k r. must (ok' k) (f k r)) ≡ refused e
  judged_on s e h = refused_on (number wide s) e h

-- ---- the atcs of n items

pub from_zero : (m k : ℕ) → within 0 m k ≡ leb k m
from_zero m k = rw (leb-zero k)

-- of n items the first i have been read
pub record AtcsPart (s : List ℕ) (at n m : ℕ) (ks : List ℕ) (i p : ℕ) (ks' : List ℕ) : Type 0 where
  pub read : read_atcs n m (drop at s) ≡ onward (read_atcs (n - i) m (drop p s)) (λ ys r. got (map atc_entry (take i ks') ++ ys) r)
  pub rest : drop i ks' ≡ drop i ks
  pub place : p ≤ length s
  pub size : length ks' ≡ most_items

module _ (s : List ℕ) (at n m : ℕ) (ks : List ℕ) where
  pub atcs_start : at ≤ length s → length ks ≡ most_items → AtcsPart s at n m ks 0 at ks
  atcs_start h e =
      let z : n - 0 ≡ n = omega arith in
      record { read = rw z (seen_none (read_atcs n m (drop at s))); rest = refl; place = h; size = e }

  module _ (i p : ℕ) (ks' : List ℕ) (u : AtcsPart s at n m ks i p ks') where
    one_more_lem : i < n → read_atcs (n - i) m (drop p s) ≡ onward (number wide (drop p s)) (λ k r. must (leb k m) (onward (read_atcs (n - (i + 1)) m r) (λ xs t. got (atc_entry k ∷ xs) t)))
    unfolding read_atcs
    one_more_lem h = let e : n - i ≡ suc (n - (i + 1)) = omega arith in rw e

    pub atcs_no : i < n → (e : ℕ) → judged (within 0 m) (drop p s) ≡ refused e → read_atcs n m (drop at s) ≡ refused e
    atcs_no h e j =
        let f = one_more_lem h ∙ judged_on (within 0 m) (λ k. leb k m) (from_zero m) (λ k r. onward (read_atcs (n - (i + 1)) m r) (λ xs t. got (atc_entry k ∷ xs) t)) (drop p s) e j in
        u.read ∙ rw f

    pub atcs_next : i < n → n ≤ most_items → (v q : ℕ) → Passed s p (within 0 m) v q → AtcsPart s at n m ks (i + 1) q (set ks' i v)
    atcs_next h few v q x =
        let f = one_more_lem h ∙ passed_on (within 0 m) (λ k. leb k m) (from_zero m) (λ k r. onward (read_atcs (n - (i + 1)) m r) (λ xs t. got (atc_entry k ∷ xs) t)) x in
        let l : i < length ks' = omega (arith, u.size) in
        let g : map atc_entry (take i ks') ++ atc_entry v ∷ [] ≡ map atc_entry (take (i + 1) (set ks' i v)) = rw (add-one, take-suc-set ks' i v l) (sym (map-append atc_entry (take i ks') (v ∷ []))) in
        record {
          read = u.read ∙ rw f (seen_more (read_atcs (n - (i + 1)) m (drop q s)) (map atc_entry (take i ks')) (atc_entry v) ∙ rw g);
          rest = drop-set-lt (i + 1) ks' i v (omega arith) ∙ sym (drop-drop 1 i ks') ∙ ap (drop 1) u.rest ∙ drop-drop 1 i ks;
          place = x.place;
          size = length-set ks' i v ∙ u.size;
        }

    pub atcs_done : n ≤ i → i ≤ n → n ≤ most_items → AtcsRead s at n m ks p ks'
    unfolding read_atcs
    atcs_done h g few =
        let e : i ≡ n = omega arith in
        let z : n - i ≡ 0 = omega arith in
        record {
          read = u.read ∙ rw (z, append-nil, e);
          rest = subst (λ (k : ℕ). drop k ks' ≡ drop k ks) e u.rest;
          place = u.place;
          size = omega (arith, u.size);
        }

-- ---- three timers

module _ (xs : List (Option ℕ)) (n : ℕ) (size : length xs ≡ n) where
  pub five_same : (k : ℕ) → timer n n n k ≡ ltb k (length xs)
  five_same k = rw size (by (ltb k n) refl)
    where
      by : (t : Bool) → ltb k n ≡ t → t && (not (eqb k n) && not (eqb k n)) ≡ t
      by true h = let d : k < n = ltb-true k n h in rw (ne_eqb k n (λ e. omega arith))
      by false h = refl

  pub ten_same : (a k : ℕ) → timer n a n k ≡ ltb k (length xs) && not (eqb k a)
  ten_same a k = rw size (by (ltb k n) (not (eqb k a)) refl)
    where
      by : (t u : Bool) → ltb k n ≡ t → t && (u && not (eqb k n)) ≡ t && u
      by true true h = let d : k < n = ltb-true k n h in rw (ne_eqb k n (λ e. omega arith))
      by true false h = refl
      by false u h = refl

  pub fifteen_same : (a b k : ℕ) → timer n a b k ≡ ltb k (length xs) && (not (eqb k a) && not (eqb k b))
  fifteen_same a b k = rw size

-- what is left to read after Timer5, and after Timer10
abbrev from15 : List (Option ℕ) → ℕ → ℕ → ℕ → List ℕ → Answer Sheet.Sheet
from15 xs m t5 t10 s =
    onward (number wide s) (λ t15 u. must (ltb t15 (length xs) && (not (eqb t15 t5) && not (eqb t15 t10)))
    (got (record { atc_of = xs; atc_count = m; timer5 = t5; timer10 = t10; timer15 = t15 }) u))

abbrev from10 : List (Option ℕ) → ℕ → ℕ → List ℕ → Answer Sheet.Sheet
from10 xs m t5 s = onward (number wide s) (λ t10 t. must (ltb t10 (length xs) && not (eqb t10 t5)) (from15 xs m t5 t10 t))

module _ (s : List ℕ) (at n : ℕ) where
  pub five_no : (e : ℕ) → judged (timer n n n) (drop at s) ≡ refused e → (xs : List (Option ℕ)) (m : ℕ) → length xs ≡ n → read_timers xs m (drop at s) ≡ refused e
  unfolding read_timers
  five_no e h xs m l = judged_on (timer n n n) (λ k. ltb k (length xs)) (five_same xs n l) (from10 xs m) (drop at s) e h

  module _ (a p : ℕ) (x : Passed s at (timer n n n) a p) where
    at_five : (xs : List (Option ℕ)) (m : ℕ) → length xs ≡ n → read_timers xs m (drop at s) ≡ from10 xs m a (drop p s)
    unfolding read_timers
    at_five xs m l = passed_on (timer n n n) (λ k. ltb k (length xs)) (five_same xs n l) (from10 xs m) x

    pub ten_no : (e : ℕ) → judged (timer n a n) (drop p s) ≡ refused e → (xs : List (Option ℕ)) (m : ℕ) → length xs ≡ n → read_timers xs m (drop at s) ≡ refused e
    ten_no e h xs m l = at_five xs m l ∙ judged_on (timer n a n) (λ k. ltb k (length xs) && not (eqb k a)) (ten_same xs n l a) (from15 xs m a) (drop p s) e h

    module _ (b q : ℕ) (y : Passed s p (timer n a n) b q) where
      at_ten : (xs : List (Option ℕ)) (m : ℕ) → length xs ≡ n → read_timers xs m (drop at s) ≡ from15 xs m a b (drop q s)
      at_ten xs m l = at_five xs m l ∙ passed_on (timer n a n) (λ k. ltb k (length xs) && not (eqb k a)) (ten_same xs n l a) (from15 xs m a) y

      pub fifteen_no : (e : ℕ) → judged (timer n a b) (drop q s) ≡ refused e → (xs : List (Option ℕ)) (m : ℕ) → length xs ≡ n → read_timers xs m (drop at s) ≡ refused e
      fifteen_no e h xs m l =
          at_ten xs m l
          ∙ judged_on (timer n a b) (λ k. ltb k (length xs) && (not (eqb k a) && not (eqb k b))) (fifteen_same xs n l a b) (λ k u. got (record { atc_of = xs; atc_count = m; timer5 = a; timer10 = b; timer15 = k }) u) (drop q s) e h

      pub timers_got : (c r : ℕ) → Passed s q (timer n a b) c r → TimersRead s at n (record { timer5 = a; timer10 = b; timer15 = c; at = r })
      timers_got c r z = record {
        read = λ xs m l. at_ten xs m l ∙ passed_on (timer n a b) (λ k. ltb k (length xs) && (not (eqb k a) && not (eqb k b))) (fifteen_same xs n l a b) (λ k u. got (record { atc_of = xs; atc_count = m; timer5 = a; timer10 = b; timer15 = k }) u) z;
        place = z.place;
      }
