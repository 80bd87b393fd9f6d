-- A text that is not read is refused at a line from 1 to 21, for a reason from 1 to 7; text behind the last line is the only reason at line 21, and at no other. Assumes nothing.
use Rattle.std.specs.Prelude.{◌≡◌, Bool, true, false, cond, ℕ, zero, suc, ◌+◌, ◌-◌, ◌*◌, ◌≤◌, ◌<◌, ltb, eqb, ℤ, pos}
use Rattle.std.proofs.Math.Option.{none, some}
use mathlib.Core.List.{List, [], ◌∷◌}
use Rattle.std.proofs.Common.{arith}
use Rattle.model.specs.Limits.{slot_count, entry_limit, wide16, half16, half32}
use Rattle.model.specs.Reading.{Answer, got, refused, onward}
use Rattle.model.specs.Requirement.{Requirement, haveItem, missingItem, haveAtc, missingAtc, haveFlag, missingFlag}
use Rattle.model.specs.Shop.{Slot}
use Rattle.text_model.specs.Text.{ReadText, slots, bad, before, line_then, blank_behind, is_digit, many_requirements, more_text, negative, no_end, no_item, no_limit, no_requirement, no_slot, read_digits, read_flag, read_id, read_item, read_lines, read_natural, read_number, read_requirement, read_requirements, read_signed, read_slot, read_text}

-- why a line is none: a reason before that of text behind the last line
abbrev pub Reason : ℕ → Type 0
Reason e = (no_slot ≤ e) × (e < more_text)

-- a value, or a refusal for such a reason
abbrev pub Told : {A : Type 0} → Answer A → Type 0
Told (got x r) = Unit {0}
Told (refused e) = Reason e

told_onward : {A B : Type 0} (a : Answer A) (k : A → List ℕ → Answer B) → Told a → ((x : A) (r : List ℕ) → Told (k x r)) → Told (onward a k)
told_onward (got x r) k h f = f x r
told_onward (refused e) k h f = h

told_cond : {A : Type 0} (b : Bool) (a a' : Answer A) → Told a → Told a' → Told (cond b a a')
told_cond true a a' h g = h
told_cond false a a' h g = g

module _ (e : ℕ) (t : Reason e) where
  told_digits : (b n : ℕ) (s : List ℕ) → Told (read_digits e b n s)
  unfolding read_digits
  told_digits b n [] = tt
  told_digits b n (c ∷ s) =
      let m = 10 * n + (c - 48) in
      told_cond (is_digit c) (cond (ltb m b) (read_digits e b m s) (refused e)) (got n (c ∷ s)) (told_cond (ltb m b) (read_digits e b m s) (refused e) (told_digits b m s) t) tt

  told_natural : (b : ℕ) (s : List ℕ) → Told (read_natural e b s)
  unfolding read_natural
  told_natural b [] = t
  told_natural b (c ∷ s) =
      told_cond (eqb c 48) (got 0 s) (cond (is_digit c) (read_digits e b (c - 48) s) (refused e)) tt
      (told_cond (is_digit c) (read_digits e b (c - 48) s) (refused e) (told_digits b (c - 48) s) t)

  told_negative : (n : ℕ) (s : List ℕ) → Told (negative e n s)
  told_negative zero s = t
  told_negative (suc n) s = tt

  told_signed : (b : ℕ) (s : List ℕ) → Told (read_signed e b s)
  unfolding read_signed
  told_signed b [] = t
  told_signed b (c ∷ s) =
      told_cond (eqb c 45) (onward (read_natural e (suc b) s) (λ n r. negative e n r)) (onward (read_natural e b (c ∷ s)) (λ n r. got (pos n) r))
      (told_onward (read_natural e (suc b) s) (λ n r. negative e n r) (told_natural (suc b) s) told_negative)
      (told_onward (read_natural e b (c ∷ s)) (λ n r. got (pos n) r) (told_natural b (c ∷ s)) (λ n r. tt))

  told_blank : {A : Type 0} (a : Answer A) → Told a → Told (blank_behind e a)
  told_blank (got x []) h = t
  told_blank (got x (c ∷ s)) h = told_cond (eqb c 32) (got x s) (refused e) tt t
  told_blank (refused n) h = h

told_number : (i : ℕ) (s : List ℕ) → Told (read_number i s)
unfolding read_number
told_number i s =
    told_onward (read_natural no_slot slot_count s) (λ n r. cond (eqb n i) (got n r) (refused no_slot)) (told_natural no_slot (omega arith) slot_count s)
    (λ n r. told_cond (eqb n i) (got n r) (refused no_slot) tt (omega arith))

told_item : (s : List ℕ) → Told (read_item s)
unfolding read_item
told_item [] = omega arith
told_item (c ∷ s) =
    told_cond (eqb c 45) (got none s) (onward (read_natural no_item wide16 (c ∷ s)) (λ n r. got (some n) r)) tt
    (told_onward (read_natural no_item wide16 (c ∷ s)) (λ n r. got (some n) r) (told_natural no_item (omega arith) wide16 (c ∷ s)) (λ n r. tt))

told_id : (k : ℕ → Requirement) (s : List ℕ) → Told (read_id k s)
told_id k s = told_onward (read_natural no_requirement half32 s) (λ n r. got (k n) r) (told_natural no_requirement (omega arith) half32 s) (λ n r. tt)

told_flag : (k : ℤ → Requirement) (s : List ℕ) → Told (read_flag k s)
told_flag k s = told_onward (read_signed no_requirement half32 s) (λ z r. got (k z) r) (told_signed no_requirement (omega arith) half32 s) (λ z r. tt)

told_requirement : (s : List ℕ) → Told (read_requirement s)
unfolding read_requirement
told_requirement [] = omega arith
told_requirement (c ∷ s) =
    told_cond (eqb c 73) (read_id haveItem s) _ (told_id haveItem s)
    (told_cond (eqb c 105) (read_id missingItem s) _ (told_id missingItem s)
    (told_cond (eqb c 65) (read_id haveAtc s) _ (told_id haveAtc s)
    (told_cond (eqb c 97) (read_id missingAtc s) _ (told_id missingAtc s)
    (told_cond (eqb c 70) (read_flag haveFlag s) _ (told_flag haveFlag s)
    (told_cond (eqb c 102) (read_flag missingFlag s) (refused no_requirement) (told_flag missingFlag s) (omega arith))))))

one_of_lem : (b : Bool) → Reason (cond b many_requirements no_end)
one_of_lem true = omega arith
one_of_lem false = omega arith

told_requirements : (k : ℕ) (s : List ℕ) → Told (read_requirements k s)
unfolding read_requirements
told_requirements zero [] = omega arith
told_requirements zero (c ∷ s) = told_cond (eqb c 10) (got [] s) (refused (cond (eqb c 32) many_requirements no_end)) tt (one_of_lem (eqb c 32))
told_requirements (suc k) [] = omega arith
told_requirements (suc k) (c ∷ s) =
    told_cond (eqb c 10) (got [] s) _ tt
    (told_cond (eqb c 32) (onward (read_requirement s) (λ r t. onward (read_requirements k t) (λ rs u. got (r ∷ rs) u))) (refused no_end)
    (told_onward (read_requirement s) (λ r t. onward (read_requirements k t) (λ rs u. got (r ∷ rs) u)) (told_requirement s) (λ r t. told_onward (read_requirements k t) (λ rs u. got (r ∷ rs) u) (told_requirements k t) (λ rs u. tt)))
    (omega arith))

told_slot : (i : ℕ) (s : List ℕ) → Told (read_slot i s)
unfolding read_slot
told_slot i s =
    told_onward (blank_behind no_slot (read_number i s)) _ (told_blank no_slot (omega arith) (read_number i s) (told_number i s)) (λ n r.
    told_onward (blank_behind no_item (read_item r)) _ (told_blank no_item (omega arith) (read_item r) (told_item r)) (λ o t.
    told_onward (read_signed no_limit half16 t) _ (told_signed no_limit (omega arith) half16 t) (λ z u.
    told_onward (read_requirements entry_limit u) _ (told_requirements entry_limit u) (λ rs v. tt))))

-- ---- lines

-- where n lines from that of slot i on are read, what is said of a text that is refused: the line, and the reason; the last reason is that of the place behind the last line
pub record Refused (n i l e : ℕ) : Type 0 where
  pub low : i < l
  pub high : l ≤ suc (i + n)
  pub some : no_slot ≤ e
  pub most : e ≤ more_text
  pub behind : e ≡ more_text → l ≡ suc (i + n)
  pub last : l ≡ suc (i + n) → e ≡ more_text

bad_of : (a : ReadText) (x : Slot) (l e : ℕ) → before x a ≡ bad l e → a ≡ bad l e
bad_of (slots xs) x l e q = let z : ◌≡◌ {A = ℕ} 0 1 = cc in absurd (omega arith)
bad_of (bad m d) x l e q = q

refused_lines : (n i : ℕ) (s : List ℕ) (l e : ℕ) → read_lines n i s ≡ bad l e → Refused n i l e
unfolding read_lines
refused_lines zero i [] l e q = let z : ◌≡◌ {A = ℕ} 0 1 = cc in absurd (omega arith)
refused_lines zero i (c ∷ s) l e q =
    let a : suc i ≡ l = cc in
    let b : more_text ≡ e = cc in
    record { low = omega arith; high = omega arith; some = omega arith; most = omega arith; behind = λ k. omega arith; last = λ k. omega arith }
refused_lines (suc n) i s l e q = by (read_slot i s) (told_slot i s) q (λ r. refused_lines n (suc i) r l e)
  where
    by : (a : Answer Slot) → Told a → line_then i a (λ r. read_lines n (suc i) r) ≡ bad l e → ((r : List ℕ) → read_lines n (suc i) r ≡ bad l e → Refused n (suc i) l e) → Refused (suc n) i l e
    by (got x r) t g ih =
        let k = ih r (bad_of (read_lines n (suc i) r) x l e g) in
        record { low = omega arith; high = omega arith; some = k.some; most = k.most; behind = λ z. omega (arith, k.behind z); last = λ z. k.last (omega arith) }
    by (refused d) t g ih =
        let a : suc i ≡ l = cc in
        let b : d ≡ e = cc in
        record { low = omega arith; high = omega arith; some = omega arith; most = omega arith; behind = λ z. absurd (omega arith); last = λ z. absurd (omega arith) }

pub bad_told : (s : List ℕ) (l e : ℕ) → read_text s ≡ bad l e → Refused slot_count 0 l e
unfolding read_text
bad_told s l e q = refused_lines slot_count 0 s l e q
