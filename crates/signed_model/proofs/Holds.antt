-- Requirements that all hold under a save, what a list fails by, and lists made by a function. Assumes nothing.
use Rattle.std.specs.Prelude.{◌≡◌, Bool, true, false, not, ◌&&◌, ℕ, zero, suc, ◌<◌, get_or, length, pos}
use Rattle.std.proofs.Math.Path.{refl, sym, ap}
use Rattle.std.proofs.Common.{◌∙◌, true≢false, arith}
use Rattle.std.proofs.Math.Bool.{or-true, not-not}
use mathlib.Core.List.{List, [], ◌∷◌}
use Rattle.model.specs.Signed.{is_zero}
use Rattle.model.specs.Save.{Save, nat_at}
use Rattle.model.specs.Sheet.{all}
use Rattle.model.specs.Requirement.{Requirement, haveItem, missingItem, haveAtc, missingAtc, haveFlag, missingFlag, negate_req, same_req, member}
use Rattle.model.specs.Meaning.{held, holds, all_hold}
use Rattle.model.proofs.Laws.Sets.{same_refl}
use Rattle.faithful_model.specs.Lists.{all_member, all_of}
use Rattle.signed_model.specs.Saves.{table}

-- if not of all, then there is one of which it does not hold
pub record Without (p : Requirement → Bool) (xs : List Requirement) : Type 0 where
  pub which : Requirement
  pub inside : member which xs ≡ true
  pub fails : p which ≡ false

pub find : (p : Requirement → Bool) (xs : List Requirement) → all p xs ≡ false → Without p xs
unfolding member
find p [] a = absurd (true≢false a)
find p (x ∷ xs) a = by (p x) refl a (find p xs)
  where
    by : (b : Bool) → p x ≡ b → b && all p xs ≡ false → (all p xs ≡ false → Without p xs) → Without p (x ∷ xs)
    by true e a ih = let w = ih a in record { which = w.which; inside = rw w.inside (or-true (same_req w.which x)); fails = w.fails }
    by false e a ih = record { which = x; inside = rw (same_refl x); fails = e }

module _ (s : Save) where
  pub holds_neg : (r : Requirement) → holds s (negate_req r) ≡ not (holds s r)
  unfolding holds
  holds_neg (haveItem i) = sym (not-not (is_zero (held s i)))
  holds_neg (missingItem i) = refl
  holds_neg (haveAtc a) = sym (not-not (is_zero (nat_at s.atcs (pos a))))
  holds_neg (missingAtc a) = refl
  holds_neg (haveFlag f) = sym (not-not (is_zero (nat_at s.flags f)))
  holds_neg (missingFlag f) = refl

  pub hold_all : (xs : List Requirement) → all_hold s xs ≡ all (holds s) xs
  unfolding all_hold
  hold_all [] = refl
  hold_all (x ∷ xs) = ap (λ b. holds s x && b) (hold_all xs)

  pub hold_member : (r : Requirement) (xs : List Requirement) → all_hold s xs ≡ true → member r xs ≡ true → holds s r ≡ true
  hold_member r xs a m = all_member (holds s) r xs (sym (hold_all xs) ∙ a) m

  pub hold_of : (xs : List Requirement) → ((r : Requirement) → member r xs ≡ true → holds s r ≡ true) → all_hold s xs ≡ true
  hold_of xs f = hold_all xs ∙ all_of (holds s) xs f

  -- one that fails makes all fail
  pub hold_fails : (r : Requirement) (xs : List Requirement) → member r xs ≡ true → holds s r ≡ false → all_hold s xs ≡ false
  hold_fails r xs m e = by (all_hold s xs) refl
    where
      by : (b : Bool) → all_hold s xs ≡ b → b ≡ false
      by true a = absurd (true≢false (sym (hold_member r xs a m) ∙ e))
      by false a = refl

-- ---- lists made by a function

pub table_length : {A : Type 0} (f : ℕ → A) (n : ℕ) → length (table f n) ≡ n
unfolding table
table_length f zero = refl
table_length f (suc n) = ap suc (table_length (λ i. f (suc i)) n)

pub table_all : {A : Type 0} (p : A → Bool) (f : ℕ → A) (n : ℕ) → ((i : ℕ) → p (f i) ≡ true) → all p (table f n) ≡ true
unfolding table
table_all p f zero e = refl
table_all p f (suc n) e = rw (e 0) (table_all p (λ i. f (suc i)) n (λ i. e (suc i)))

pub table_at : {A : Type 0} (f : ℕ → A) (n i : ℕ) (d : A) → i < n → get_or (table f n) i d ≡ f i
unfolding table
table_at f zero i d l = absurd (omega arith)
table_at f (suc n) zero d l = refl
table_at f (suc n) (suc i) d l = table_at (λ j. f (suc j)) n i d (omega arith)

-- where the function gives the default, so does the list, also past its end
pub table_default : {A : Type 0} (f : ℕ → A) (n i : ℕ) (d : A) → f i ≡ d → get_or (table f n) i d ≡ d
unfolding table
table_default f zero i d e = refl
table_default f (suc n) zero d e = e
table_default f (suc n) (suc i) d e = table_default (λ j. f (suc j)) n i d e
