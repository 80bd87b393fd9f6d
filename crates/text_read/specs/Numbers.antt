-- Bytes and numbers of a text: a byte by what it is or is not, digits one by one, a sign. Assumes nothing.
use Rattle.std.proofs.Math.Path.{◌≡◌, refl}
use Rattle.std.proofs.Common.{sym, ◌∙◌, add-one, lt-ltb, le-ltb, ne_eqb, eqb-true}
use Rattle.std.specs.Prelude.{Bool, ℕ, zero, suc, ◌+◌, ◌-◌, ◌*◌, ◌≤◌, ◌<◌, ltb, pos, negsuc, drop}
use Rattle.std.proofs.Math.Bool.{true, false, cond}
use mathlib.Core.List.{List, [], ◌∷◌}
use native.Mathlib.Omega.{arith}
use Rattle.std.proofs.Math.Dec.{eqb}
use Rattle.model.specs.Limits.{half32}
use Rattle.model.specs.Reading.{got, refused, onward}
use Rattle.text_model.specs.Text.{is_digit, read_digits, read_natural, negative, read_signed}
use Rattle.text_model.proofs.Numbers.{is_digit_lem}
use Rattle.text_read.specs.Told.{Other, Is, ByteAt, Digit, Bound, Took, IsNumber, IsSigned}

-- ---- numbers

module _ (e b : ℕ) where
  natural_other : (t : List ℕ) → Other is_digit t → read_natural e b t ≡ refused e
  unfolding read_natural
  natural_other [] h = refl
  natural_other (c ∷ t) h = by (eqb c 48) refl
    where
      by : (x : Bool) → eqb c 48 ≡ x → cond x (got 0 t) (cond (is_digit c) (read_digits e b (c - 48) t) (refused e)) ≡ refused e
      by true q = let k : true ≡ false = rw (eqb-true c 48 q) at h in let z : ◌≡◌ {A = ℕ} 0 1 = cc in absurd (omega arith)
      by false q = rw h

  natural_zero : (t : List ℕ) → read_natural e b (48 ∷ t) ≡ got 0 t
  unfolding read_natural
  natural_zero t = refl

  natural_digit : (d : ℕ) (t : List ℕ) → d < 10 → (d ≡ 0 → ⊥) → read_natural e b ((48 + d) ∷ t) ≡ read_digits e b d t
  unfolding read_natural
  natural_digit d t h z = let q : 48 + d - 48 ≡ d = omega arith in rw (ne_eqb (48 + d) 48 (λ k. z (omega arith)), is_digit_lem d h, q)

  digits_other : (n : ℕ) (t : List ℕ) → Other is_digit t → read_digits e b n t ≡ got n t
  unfolding read_digits
  digits_other n [] h = refl
  digits_other n (c ∷ t) h = rw h

  digits_digit : (n d : ℕ) (t : List ℕ) → d < 10 → read_digits e b n ((48 + d) ∷ t) ≡ cond (ltb (10 * n + d) b) (read_digits e b (10 * n + d) t) (refused e)
  unfolding read_digits
  digits_digit n d t h = let q : 48 + d - 48 ≡ d = omega arith in rw (is_digit_lem d h, q)

-- of a number that begins at a place, the digits up to p are read and make n
pub record Digits (s : List ℕ) (at e b n p : ℕ) : Type 0 where
  pub read : read_natural e b (drop at s) ≡ read_digits e b n (drop p s)
  pub low : n < b

module _ (s : List ℕ) (at e b : ℕ) where
  pub natural_none : Other is_digit (drop at s) → read_natural e b (drop at s) ≡ refused e
  natural_none o = natural_other e b (drop at s) o

  module _ (f : ℕ) (u : Digit s at f) (bound : Bound b) where
    pub natural_alone : f ≡ 0 → Took s (read_natural e b (drop at s)) (IsNumber b 0) (at + 1)
    natural_alone h =
        let g : drop at s ≡ 48 ∷ drop (at + 1) s = rw h at u.next in
        record { value = 0; is = record { same = refl; low = omega (arith, bound.least) }; read = rw g (natural_zero e b (drop (at + 1) s)) }

    pub digits_start : (f ≡ 0 → ⊥) → Digits s at e b f (at + 1)
    digits_start z = record { read = rw u.next (natural_digit e b f (drop (at + 1) s) u.low z); low = omega (arith, bound.least, u.low) }

  module _ (n p : ℕ) (u : Digits s at e b n p) where
    module _ (d : ℕ) (v : Digit s p d) where
      more : read_natural e b (drop at s) ≡ cond (ltb (10 * n + d) b) (read_digits e b (10 * n + d) (drop (p + 1) s)) (refused e)
      more = u.read ∙ rw v.next (digits_digit e b n d (drop (p + 1) s) v.low)

      pub digits_over : b ≤ 10 * n + d → read_natural e b (drop at s) ≡ refused e
      digits_over l = more ∙ rw (le-ltb (10 * n + d) b l)

      pub digits_next : 10 * n + d < b → Digits s at e b (10 * n + d) (p + 1)
      digits_next l = record { read = more ∙ rw (lt-ltb (10 * n + d) b l); low = l }

    pub digits_done : Other is_digit (drop p s) → Took s (read_natural e b (drop at s)) (IsNumber b n) p
    digits_done o = record { value = n; is = record { same = refl; low = u.low }; read = u.read ∙ digits_other e b n (drop p s) o }

-- ---- signs

module _ (e b : ℕ) where
  signed_minus : (t : List ℕ) → read_signed e b (45 ∷ t) ≡ onward (read_natural e (suc b) t) (λ n r. negative e n r)
  unfolding read_signed
  signed_minus t = refl

  signed_other : (t : List ℕ) → Other (Is 45) t → read_signed e b t ≡ onward (read_natural e b t) (λ n r. got (pos n) r)
  unfolding read_signed read_natural
  signed_other [] h = refl
  signed_other (c ∷ t) h = rw h

module _ (s : List ℕ) (at e b : ℕ) where
  module _ (u : ByteAt s at 45) where
    minus : read_signed e b (drop at s) ≡ onward (read_natural e (b + 1) (drop (at + 1) s)) (λ n r. negative e n r)
    minus = rw (add-one b, u.next) (signed_minus e b (drop (at + 1) s))

    pub minus_no : (k : ℕ) → read_natural e (b + 1) (drop (at + 1) s) ≡ refused k → read_signed e b (drop at s) ≡ refused k
    minus_no k q = minus ∙ rw q

    module _ (v p : ℕ) (x : Took s (read_natural e (b + 1) (drop (at + 1) s)) (IsNumber (b + 1) v) p) where
      pub minus_zero : v ≡ 0 → read_signed e b (drop at s) ≡ refused e
      minus_zero z = let q : x.value ≡ 0 = x.is.same ∙ z in minus ∙ rw (x.read, q)

      minus_got : b ≤ half32 → (n : ℕ) → n ≡ v → n < b + 1 → read_natural e (b + 1) (drop (at + 1) s) ≡ got n (drop p s) → (v ≡ 0 → ⊥) → Took s (read_signed e b (drop at s)) (IsSigned b (half32 - v)) p
      minus_got low zero q l r z = absurd (z (sym q))
      minus_got low (suc m) q l r z = record { value = negsuc m; is = record { same = omega arith; low = omega arith }; read = minus ∙ rw r }

      pub minus_took : b ≤ half32 → (v ≡ 0 → ⊥) → Took s (read_signed e b (drop at s)) (IsSigned b (half32 - v)) p
      minus_took low z = minus_got low x.value x.is.same x.is.low x.read z

  module _ (u : Other (Is 45) (drop at s)) where
    plus : read_signed e b (drop at s) ≡ onward (read_natural e b (drop at s)) (λ n r. got (pos n) r)
    plus = signed_other e b (drop at s) u

    pub plus_no : (k : ℕ) → read_natural e b (drop at s) ≡ refused k → read_signed e b (drop at s) ≡ refused k
    plus_no k q = plus ∙ rw q

    pub plus_took : (v p : ℕ) → Took s (read_natural e b (drop at s)) (IsNumber b v) p → Took s (read_signed e b (drop at s)) (IsSigned b (half32 + v)) p
    plus_took v p x = record { value = pos x.value; is = record { same = omega (arith, x.is.same); low = x.is.low }; read = plus ∙ rw x.read }
