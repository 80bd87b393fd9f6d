-- Numbers: what was printed reads back, and what was read prints as it was. Assumes nothing.
use Rattle.std.proofs.Math.Path.{◌≡◌, refl, ap}
use Rattle.std.proofs.Common.{◌∙◌}
use Rattle.std.specs.Prelude.{Bool, leb, ℤ, pos, negsuc}
use Rattle.std.proofs.Math.Bool.{true, false, cond}
use mathlib.Core.List.{List, [], ◌∷◌, ◌++◌, append_assoc}
use Prim.Native.Nat.{ℕ, zero, suc, ◌+◌, ◌-◌, ◌*◌, ◌/◌, ◌%◌, ◌≤◌, ◌<◌}
use native.Mathlib.Omega.{arith}
use Rattle.std.proofs.Math.Dec.{ltb, eqb}
use borrow.Author.Tests.{ltb-true, ltb-false, leb-true, lt-ltb, le-ltb, le-leb, ne_eqb, eqb-true, eqb-false}
use Rattle.std.specs.Int.Signed.{mag}
use Rattle.model.specs.Reading.{Answer, got, refused, onward}
use Rattle.model.specs.Printer.{digits_to, decimal, signed_decimal}
use Rattle.model.proofs.Laws.Checks.{and_left, and_right}
use Rattle.model.proofs.Laws.Reading.{along, refused≢got, split}
use Rattle.text_model.specs.Text.{is_digit, negative, read_digits, read_natural, read_signed}

-- ---- digits

-- what f digits hold
abbrev pub tens : ℕ → ℕ
tens zero = 1
tens (suc f) = 10 * tens f

-- a text that goes on with no digit
abbrev pub NoDigit : List ℕ → Type 0
NoDigit [] = Unit {0}
NoDigit (c ∷ s) = is_digit c ≡ false

pub is_digit_lem : (d : ℕ) → d < 10 → is_digit (48 + d) ≡ true
is_digit_lem d l = rw (le-leb 48 (48 + d) (omega arith), le-leb (48 + d) 57 (omega arith))

digit_in : (c : ℕ) → is_digit c ≡ true → (48 ≤ c) × (c ≤ 57)
digit_in c h = (leb-true 48 c (and_left (leb 48 c) (leb c 57) h), leb-true c 57 (and_right (leb 48 c) (leb c 57) h))

-- a digit more is not needed
digits_more : (f n : ℕ) → n < tens (suc f) → digits_to (suc f) n ≡ digits_to (suc (suc f)) n
unfolding digits_to
digits_more zero n l = rw (lt-ltb n 10 (omega arith))
digits_more (suc f) n l = ap (λ (t : List ℕ). cond (ltb n 10) ((48 + n) ∷ []) (t ++ (48 + n % 10) ∷ [])) (digits_more f (n / 10) (omega arith))

-- the printed form of a number with a digit behind it
decimal_then : (n d : ℕ) → 0 < n → d < 10 → 10 * n + d < tens 10 → (s : List ℕ) → decimal n ++ (48 + d) ∷ s ≡ decimal (10 * n + d) ++ s
unfolding decimal digits_to
decimal_then n d p l h s =
    let a : (10 * n + d) / 10 ≡ n = omega arith in
    let b : (10 * n + d) % 10 ≡ d = omega arith in
    rw (le-ltb (10 * n + d) 10 (omega arith), a, b, ← digits_more 8 n (omega arith), append_assoc (digits_to 9 n) ((48 + d) ∷ []) s)

decimal_low : (n : ℕ) (s : List ℕ) → n < 10 → (48 + n) ∷ s ≡ decimal n ++ s
unfolding decimal digits_to
decimal_low n s l = rw (lt-ltb n 10 l)

-- ---- what was printed reads back

module _ (e b : ℕ) where
  stops : (n : ℕ) (s : List ℕ) → NoDigit s → read_digits e b n s ≡ got n s
  unfolding read_digits
  stops n [] h = refl
  stops n (c ∷ s) h = rw h

  one_more_lem : (n d : ℕ) (s : List ℕ) → d < 10 → 10 * n + d < b → read_digits e b n ((48 + d) ∷ s) ≡ read_digits e b (10 * n + d) s
  unfolding read_digits
  one_more_lem n d s l h =
      let a : 48 + d - 48 ≡ d = omega arith in
      rw (is_digit_lem d l, a, lt-ltb (10 * n + d) b h)

  digits_read : (f n : ℕ) (s : List ℕ) → 0 < n → n < tens f → n < b → read_natural e b (digits_to f n ++ s) ≡ read_digits e b n s
  unfolding read_natural digits_to
  digits_read zero n s p l h = absurd (omega arith)
  digits_read (suc f) n s p l h = by (ltb n 10) refl (λ q. digits_read f (n / 10) ((48 + n % 10) ∷ s) q (omega arith) (omega arith))
    where
      by : (t : Bool) → ltb n 10 ≡ t → (0 < n / 10 → read_natural e b (digits_to f (n / 10) ++ (48 + n % 10) ∷ s) ≡ read_digits e b (n / 10) ((48 + n % 10) ∷ s))
          → read_natural e b (cond t ((48 + n) ∷ []) (digits_to f (n / 10) ++ (48 + n % 10) ∷ []) ++ s) ≡ read_digits e b n s
      by true k ih =
          let a : 48 + n - 48 ≡ n = omega arith in
          rw (ne_eqb (48 + n) 48 (omega arith), is_digit_lem n (ltb-true n 10 k), a)
      by false k ih =
          let m = ltb-false n 10 k in
          let a : 10 * (n / 10) + n % 10 ≡ n = omega arith in
          rw append_assoc (ih (omega arith) ∙ one_more_lem (n / 10) (n % 10) s (omega arith) (omega arith) ∙ ap (λ (x : ℕ). read_digits e b x s) a)

  pub natural_printed : (n : ℕ) (s : List ℕ) → n < b → b ≤ tens 10 → NoDigit s → read_natural e b (decimal n ++ s) ≡ got n s
  unfolding decimal read_natural
  natural_printed zero s l m h = unfold digits_to in refl
  natural_printed (suc n) s l m h = digits_read 10 (suc n) s (omega arith) (omega arith) l ∙ stops (suc n) s h

  -- ---- what was read prints as it was

  digits_took : (n : ℕ) (s : List ℕ) (m : ℕ) (r : List ℕ) → 0 < n → n < b → b ≤ tens 10 → read_digits e b n s ≡ got m r → (decimal n ++ s ≡ decimal m ++ r) × (m < b)
  unfolding read_digits
  digits_took n [] m r p l h q = along (λ x t. (decimal n ++ [] ≡ decimal x ++ t) × (x < b)) q (refl, l)
  digits_took n (c ∷ s) m r p l h q = by (is_digit c) (ltb (10 * n + (c - 48)) b) refl refl (λ k. digits_took (10 * n + (c - 48)) s m r (omega arith) k h) q
    where
      by : (t u : Bool) → is_digit c ≡ t → ltb (10 * n + (c - 48)) b ≡ u
          → (10 * n + (c - 48) < b → read_digits e b (10 * n + (c - 48)) s ≡ got m r → (decimal (10 * n + (c - 48)) ++ s ≡ decimal m ++ r) × (m < b))
          → cond t (cond u (read_digits e b (10 * n + (c - 48)) s) (refused e)) (got n (c ∷ s)) ≡ got m r
          → (decimal n ++ c ∷ s ≡ decimal m ++ r) × (m < b)
      by true true d k ih g =
          let i = digit_in c d in
          let f = ltb-true (10 * n + (c - 48)) b k in
          let j = ih f g in
          let a : 48 + (c - 48) ≡ c = omega arith in
          let x : decimal n ++ c ∷ s ≡ decimal (10 * n + (c - 48)) ++ s = rw a at (decimal_then n (c - 48) p (omega arith) (omega arith) s) in
          (x ∙ j.0, j.1)
      by true false d k ih g = absurd (refused≢got g)
      by false u d k ih g = along (λ x t. (decimal n ++ c ∷ s ≡ decimal x ++ t) × (x < b)) g (refl, l)

  pub natural_took : (s : List ℕ) (n : ℕ) (r : List ℕ) → 10 ≤ b → b ≤ tens 10 → read_natural e b s ≡ got n r → (s ≡ decimal n ++ r) × (n < b)
  unfolding read_natural
  natural_took [] n r l h q = absurd (refused≢got q)
  natural_took (c ∷ s) n r l h q = by (eqb c 48) (is_digit c) refl refl q
    where
      by : (t u : Bool) → eqb c 48 ≡ t → is_digit c ≡ u → cond t (got 0 s) (cond u (read_digits e b (c - 48) s) (refused e)) ≡ got n r → (c ∷ s ≡ decimal n ++ r) × (n < b)
      by true u z d g = along (λ x t. (c ∷ s ≡ decimal x ++ t) × (x < b)) g (rw (eqb-true c 48 z) (decimal_low 0 s (omega arith)), omega arith)
      by false true z d g =
          let i = digit_in c d in
          let m = eqb-false c 48 z in
          let j = digits_took (c - 48) s n r (omega arith) (omega arith) h g in
          let a : 48 + (c - 48) ≡ c = omega arith in
          let x : c ∷ s ≡ decimal (c - 48) ++ s = rw a at (decimal_low (c - 48) s (omega arith)) in
          (x ∙ j.0, j.1)
      by false false z d g = absurd (refused≢got g)

-- ---- signed numbers

-- a number begins with no minus
pub no_minus : (e b c : ℕ) (s : List ℕ) (n : ℕ) (r : List ℕ) → read_natural e b (c ∷ s) ≡ got n r → eqb c 45 ≡ false
unfolding read_natural
no_minus e b c s n r q = by (eqb c 45) refl
  where
    by : (t : Bool) → eqb c 45 ≡ t → t ≡ false
    by false z = refl
    by true z = absurd (refused≢got (rw (eqb-true c 45 z) at q))

module _ (e b : ℕ) where
  pub pos_read : (s : List ℕ) (n : ℕ) (r : List ℕ) → read_natural e b s ≡ got n r → read_signed e b s ≡ got (pos n) r
  unfolding read_signed
  pos_read [] n r q = let g : ◌≡◌ {A = Answer ℕ} (refused e) (got n r) = unfold read_natural in q in absurd (refused≢got g)
  pos_read (c ∷ s) n r q = rw (no_minus e b c s n r q, q)

  pub signed_printed : (z : ℤ) (s : List ℕ) → mag z < b → b < tens 10 → NoDigit s → read_signed e b (signed_decimal z ++ s) ≡ got z s
  unfolding signed_decimal
  signed_printed (pos n) s l m h = pos_read (decimal n ++ s) n s (natural_printed e b n s l (omega arith) h)
  signed_printed (negsuc n) s l m h = unfold read_signed in rw (natural_printed e (suc b) (suc n) s (omega arith) (omega arith) h)

  pub signed_took : (s : List ℕ) (z : ℤ) (r : List ℕ) → 10 ≤ b → b < tens 10 → read_signed e b s ≡ got z r → (s ≡ signed_decimal z ++ r) × (mag z < b)
  unfolding read_signed
  signed_took [] z r l h q = absurd (refused≢got q)
  signed_took (c ∷ s) z r l h q = by (eqb c 45) refl q
    where
      below : (n : ℕ) (t : List ℕ) → (s ≡ decimal n ++ t) × (n < suc b) → negative e n t ≡ got z r → (45 ∷ s ≡ signed_decimal z ++ r) × (mag z < b)
      below zero t k g = absurd (refused≢got g)
      below (suc n) t k g =
          let k₁ = k.1 in
          along (λ x u. (45 ∷ s ≡ signed_decimal x ++ u) × (mag x < b)) g (unfold signed_decimal in ap (λ (u : List ℕ). 45 ∷ u) k.0, omega arith)

      by : (t : Bool) → eqb c 45 ≡ t → cond t (onward (read_natural e (suc b) s) (λ n u. negative e n u)) (onward (read_natural e b (c ∷ s)) (λ n u. got (pos n) u)) ≡ got z r
          → (c ∷ s ≡ signed_decimal z ++ r) × (mag z < b)
      by true m g =
          let p = split (read_natural e (suc b) s) (λ n u. negative e n u) g in
          rw (eqb-true c 45 m) (below p.value p.rest (natural_took e (suc b) s p.value p.rest (omega arith) (omega arith) p.first) p.then)
      by false m g =
          let p = split (read_natural e b (c ∷ s)) (λ n u. got (pos n) u) g in
          along (λ x u. (c ∷ s ≡ signed_decimal x ++ u) × (mag x < b)) p.then (unfold signed_decimal in natural_took e b (c ∷ s) p.value p.rest l (omega arith) p.first)
