-- The first place in a list at which a test holds. Assumes nothing.
use Rattle.std.specs.Prelude.{◌≡◌, Bool, ◌&&◌, get_or, length}
use Rattle.std.proofs.Math.Path.{refl}
use Rattle.std.proofs.Common.{ap, ◌∙◌, true≢false}
use Rattle.std.proofs.Math.Bool.{true, false, not, cond}
use Rattle.std.proofs.Math.Option.{Option, none, some}
use mathlib.Core.List.{List, [], ◌∷◌}
use Prim.Native.Nat.{ℕ, zero, suc, ◌<◌}
use native.Mathlib.Omega.{arith}
use Rattle.model.specs.Sheet.{all}
use Rattle.signed_model.specs.Findings.{first_place, later}

abbrev pub is_none : Option ℕ → Bool
is_none none = true
is_none (some i) = false

later_none : (o : Option ℕ) → is_none (later o) ≡ is_none o
later_none none = refl
later_none (some i) = refl

pub not_some : {C : Type 0} {i : ℕ} → none ≡ some i → C
not_some e = absurd (true≢false (ap is_none e))

-- the entry at i passes the test, and none before it does
pub record First {A : Type 0} (p : A → Bool) (xs : List A) (i : ℕ) : Type 0 where
  pub low : i < length xs
  pub is : (d : A) → p (get_or xs i d) ≡ true
  pub none_before : (j : ℕ) (d : A) → j < i → p (get_or xs j d) ≡ false

module _ {A : Type 0} (p : A → Bool) where
  pub place_all : (xs : List A) → is_none (first_place p xs) ≡ all (λ x. not (p x)) xs
  unfolding first_place
  place_all [] = refl
  place_all (x ∷ xs) = by (p x) (place_all xs)
    where
      by : (b : Bool) → is_none (first_place p xs) ≡ all (λ y. not (p y)) xs → is_none (cond b (some 0) (later (first_place p xs))) ≡ not b && all (λ y. not (p y)) xs
      by true e = refl
      by false e = later_none (first_place p xs) ∙ e

  first_here : (x : A) (xs : List A) → p x ≡ true → First p (x ∷ xs) 0
  first_here x xs e = record { low = omega arith; is = λ d. e; none_before = λ j d l. absurd (omega arith) }

  first_later : (x : A) (xs : List A) (i : ℕ) → p x ≡ false → First p xs i → First p (x ∷ xs) (suc i)
  first_later x xs i e f = record { low = omega (arith, f.low); is = f.is; none_before = before }
    where
      before : (j : ℕ) (d : A) → j < suc i → p (get_or (x ∷ xs) j d) ≡ false
      before zero d l = e
      before (suc j) d l = f.none_before j d (omega arith)

  pub place_first : (xs : List A) (i : ℕ) → first_place p xs ≡ some i → First p xs i
  unfolding first_place
  place_first [] i e = not_some e
  place_first (x ∷ xs) i e = by (p x) refl (first_place p xs) (place_first xs) i e
    where
      by : (b : Bool) → p x ≡ b → (o : Option ℕ) → ((i : ℕ) → o ≡ some i → First p xs i) → (i : ℕ) → cond b (some 0) (later o) ≡ some i → First p (x ∷ xs) i
      by true f o g zero e = first_here x xs f
      by true f o g (suc i) e = let z : 0 ≡ suc i = cc in absurd (omega arith)
      by false f none g i e = not_some e
      by false f (some j) g zero e = let z : suc j ≡ 0 = cc in absurd (omega arith)
      by false f (some j) g (suc i) e = let z : suc j ≡ suc i = cc in let y : j ≡ i = omega arith in first_later x xs i f (g i (ap some y))

  -- .. and it is the only such place
  pub first_place_lem : (xs : List A) (i : ℕ) → First p xs i → first_place p xs ≡ some i
  unfolding first_place
  first_place_lem [] i f = absurd (omega (arith, f.low))
  first_place_lem (x ∷ xs) zero f = rw (f.is x)
  first_place_lem (x ∷ xs) (suc i) f = rw (f.none_before 0 x (omega arith), first_place_lem xs i (record { low = omega (arith, f.low); is = f.is; none_before = λ j d l. f.none_before (suc j) d (omega arith) }))
