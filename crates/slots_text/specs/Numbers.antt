-- The text of a number: its digits one by one, and its sign. Assumes nothing.
use Rattle.std.proofs.lemmas.Int.{ints}
use Rattle.std.specs.Prelude.{◌≡◌, refl, List, [], ◌∷◌, ◌++◌, ℕ, zero, suc, ◌+◌, ◌-◌, ◌/◌, ◌%◌, ◌≤◌, ◌<◌, ℤ, pos, negsuc, unsigned_abs, ◌<ℤ◌}
use Rattle.std.proofs.Common.{sym, arith, SFits, to_z, of_z, to_z-of_z, length-append}
use Rattle.std.proofs.Math.Path.{subst}
use borrow.Author.Tests.{lt-ltb, le-ltb}
use Rattle.std.specs.Int.{w16, w32}
use Rattle.std.proofs.Math.Facts.{sfits_widen}
use Rattle.model.specs.Printer.{digits_to, decimal, signed_decimal}
use Rattle.image_numbers.specs.Stored.{Stored, stored_none, stored_on, stored_as}
use Rattle.slots_text.specs.Written.{text_limit, Space, space_as}

-- ---- digits

pub digits_none : {xs : List ℕ} {at f : ℕ} (n : ℕ) → f ≡ 0 → Stored xs at (digits_to f n) xs at
unfolding digits_to
digits_none n e = rw e stored_none

module _ (f n : ℕ) (some : f ≡ 0 → ⊥) where
  is_suc : f ≡ suc (f - 1)
  is_suc = let h : 0 < f = by f some in omega arith
    where
      by : (g : ℕ) → (g ≡ 0 → ⊥) → 0 < g
      by zero h = absurd (h refl)
      by (suc g) h = omega arith

  last_digit : n < 10 → digits_to f n ≡ (48 + n) ∷ []
  unfolding digits_to
  last_digit h = rw (is_suc, lt-ltb n 10 h)

  digits_more : 10 ≤ n → digits_to f n ≡ digits_to (f - 1) (n / 10) ++ (48 + n % 10) ∷ []
  unfolding digits_to
  digits_more h = subst (λ (g : ℕ). digits_to g n ≡ digits_to (f - 1) (n / 10) ++ (48 + n % 10) ∷ []) (sym is_suc) (rw (le-ltb n 10 h))

  module _ {at : ℕ} (h : Space at (digits_to f n)) where
    pub digit_space : n < 10 → at < text_limit
    digit_space l = let s = (space_as (last_digit l) h).fits in omega arith

    pub high_space : 10 ≤ n → Space at (digits_to (f - 1) (n / 10))
    high_space l =
        let s = (space_as (digits_more l) h).fits in
        record { fits = omega (arith, length-append (digits_to (f - 1) (n / 10)) ((48 + n % 10) ∷ [])) }

    pub low_space : {xs ys : List ℕ} {p : ℕ} → 10 ≤ n → Stored xs at (digits_to (f - 1) (n / 10)) ys p → p < text_limit
    low_space l u =
        let s = (space_as (digits_more l) h).fits in
        omega (arith, u.place, length-append (digits_to (f - 1) (n / 10)) ((48 + n % 10) ∷ []))

  pub one_digit : {xs ys : List ℕ} {at r x : ℕ} → n < 10 → x ≡ 48 + n → Stored xs at (x ∷ []) ys r → Stored xs at (digits_to f n) ys r
  one_digit l e u = stored_as (last_digit l) (rw e at u)

  pub all_digits : {xs ys zs : List ℕ} {at p r x : ℕ} → 10 ≤ n → x ≡ 48 + n % 10 → Stored xs at (digits_to (f - 1) (n / 10)) ys p → Stored ys p (x ∷ []) zs r → Stored xs at (digits_to f n) zs r
  all_digits l e u v = stored_as (digits_more l) (stored_on u (rw e at v))

-- ---- signs

-- the digits of a number are those of its size
pub signed_below : (z : ℤ) (m : ℕ) → m ≡ unsigned_abs z → z <ℤ pos 0 → signed_decimal z ≡ 45 ∷ decimal m
unfolding signed_decimal
signed_below (pos n) m e h = absurd (omega (arith, ints))
signed_below (negsuc n) m e h = rw e

pub signed_above : (z : ℤ) (m : ℕ) → m ≡ unsigned_abs z → (z <ℤ pos 0 → ⊥) → signed_decimal z ≡ decimal m
unfolding signed_decimal
signed_above (pos n) m e h = rw e
signed_above (negsuc n) m e h = absurd (h (omega (arith, ints)))

-- a limit as an i32 holds it
pub limit_is : (z : ℤ) → SFits w16 z → to_z w32 (of_z w32 (to_z w16 (of_z w16 z))) ≡ z
limit_is z f = let g = sfits_widen {w' = w32} tt f in simp to_z-of_z refl
