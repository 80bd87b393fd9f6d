-- A line of the text: what was printed reads back, and what was read prints as it was. Assumes nothing.
use Rattle.std.specs.Prelude.{◌≡◌, Bool, true, false, cond, ◌&&◌, ℕ, zero, suc, ◌≤◌, ◌<◌, ltb, leb, eqb, length, ℤ, pos}
use Rattle.std.proofs.Math.Path.{refl, ap}
use Rattle.std.proofs.Common.{◌∙◌, arith, ltb-true, leb-true, lt-ltb, le-leb, eqb-true, eq-eqb}
use Rattle.std.proofs.Math.Option.{Option, none, some}
use mathlib.Core.List.{List, [], ◌∷◌, ◌++◌, append_assoc}
use Rattle.std.specs.Int.Signed.{mag}
use Rattle.std.specs.Int.{w16}
use Rattle.model.specs.Limits.{slot_count, entry_limit, wide16, half16, half32}
use Rattle.model.specs.Reading.{Answer, got, refused, onward}
use Rattle.model.specs.Requirement.{Requirement, haveItem, missingItem, haveAtc, missingAtc, haveFlag, missingFlag, number}
use Rattle.model.specs.Sheet.{all}
use Rattle.model.specs.Shop.{Slot}
use Rattle.model.specs.Signed.{in_range}
use Rattle.model.specs.Printer.{decimal, signed_decimal, letter, requirements_text, item_text, slot_line}
use Rattle.model.proofs.Laws.Checks.{and_left, and_right}
use Rattle.model.proofs.Laws.Reading.{along, passed, refused≢got, split}
use Rattle.text_model.specs.Text.{blank_behind, item_printable, no_end, no_item, no_limit, no_requirement, no_slot, read_flag, read_id, read_item, read_natural, read_number, read_requirement, read_requirements, read_signed, read_slot, req_printable, slot_printable}
use Rattle.text_model.proofs.Numbers.{NoDigit, natural_printed, natural_took, no_minus, signed_printed, signed_took}

-- ---- what was printed reads back

some_read : (s : List ℕ) (n : ℕ) (r : List ℕ) → read_natural no_item wide16 s ≡ got n r → read_item s ≡ got (some n) r
unfolding read_item
some_read [] n r q = let g : ◌≡◌ {A = Answer ℕ} (refused no_item) (got n r) = unfold read_natural in q in absurd (refused≢got g)
some_read (c ∷ s) n r q = rw (no_minus no_item wide16 c s n r q, q)

item_printed : (o : Option ℕ) (s : List ℕ) → item_printable o ≡ true → NoDigit s → read_item (item_text o ++ s) ≡ got o s
unfolding item_text
item_printed none s p h = unfold read_item in refl
item_printed (some n) s p h = some_read (decimal n ++ s) n s (natural_printed no_item wide16 n s (ltb-true n wide16 p) (omega arith) h)

id_printed : (k : ℕ → Requirement) (n : ℕ) (s : List ℕ) → ltb n half32 ≡ true → NoDigit s → read_id k (decimal n ++ s) ≡ got (k n) s
id_printed k n s p h = rw (natural_printed no_requirement half32 n s (ltb-true n half32 p) (omega arith) h)

flag_printed : (k : ℤ → Requirement) (z : ℤ) (s : List ℕ) → ltb (mag z) half32 ≡ true → NoDigit s → read_flag k (signed_decimal z ++ s) ≡ got (k z) s
flag_printed k z s p h = rw (signed_printed no_requirement half32 z s (ltb-true (mag z) half32 p) (omega arith) h)

requirement_printed : (r : Requirement) (s : List ℕ) → req_printable r ≡ true → NoDigit s → read_requirement (letter r ∷ (signed_decimal (number r) ++ s)) ≡ got r s
unfolding read_requirement letter signed_decimal
requirement_printed (haveItem i) s p h = id_printed haveItem i s p h
requirement_printed (missingItem i) s p h = id_printed missingItem i s p h
requirement_printed (haveAtc a) s p h = id_printed haveAtc a s p h
requirement_printed (missingAtc a) s p h = id_printed missingAtc a s p h
requirement_printed (haveFlag f) s p h = flag_printed haveFlag f s p h
requirement_printed (missingFlag f) s p h = flag_printed missingFlag f s p h

-- what follows a number on a line is no digit
behind_number : (rs : List Requirement) (s : List ℕ) → NoDigit (requirements_text rs ++ 10 ∷ s)
unfolding requirements_text
behind_number [] s = refl
behind_number (r ∷ rs) s = refl

requirements_printed : (k : ℕ) (rs : List Requirement) (s : List ℕ) → length rs ≤ k → all req_printable rs ≡ true → read_requirements k (requirements_text rs ++ 10 ∷ s) ≡ got rs s
unfolding read_requirements requirements_text
requirements_printed zero [] s l p = refl
requirements_printed zero (r ∷ rs) s l p = absurd (omega arith)
requirements_printed (suc k) [] s l p = refl
requirements_printed (suc k) (r ∷ rs) s l p =
    rw (
      append_assoc (signed_decimal (number r)) (requirements_text rs) (10 ∷ s),
      requirement_printed r (requirements_text rs ++ 10 ∷ s) (and_left (req_printable r) (all req_printable rs) p) (behind_number rs s),
      requirements_printed k rs s (omega arith) (and_right (req_printable r) (all req_printable rs) p),
    )

number_printed : (i : ℕ) (s : List ℕ) → i < slot_count → NoDigit s → read_number i (decimal i ++ s) ≡ got i s
unfolding read_number
number_printed i s l h = rw (natural_printed no_slot slot_count i s l (omega arith) h, eq-eqb i i refl)

-- the line of a slot, with what comes behind it
line_parts : (i : ℕ) (x : Slot) (s : List ℕ) → slot_line i x ++ s ≡ decimal i ++ (32 ∷ (item_text x.item ++ (32 ∷ (signed_decimal x.limit ++ (requirements_text x.requirements ++ (10 ∷ s))))))
unfolding slot_line
line_parts i x s = simp append_assoc

pub slot_printed : (i : ℕ) (x : Slot) (s : List ℕ) → i < slot_count → slot_printable x ≡ true → read_slot i (slot_line i x ++ s) ≡ got x s
unfolding read_slot
slot_printed i x s l p =
    let o = x.item in
    let z = x.limit in
    let rs = x.requirements in
    let p₁ : in_range w16 z && (leb (length rs) entry_limit && all req_printable rs) ≡ true = and_right (item_printable o) _ p in
    let p₂ : leb (length rs) entry_limit && all req_printable rs ≡ true = and_right (in_range w16 z) _ p₁ in
    let end = requirements_text rs ++ 10 ∷ s in
    rw (
      line_parts i x s,
      number_printed i (32 ∷ (item_text o ++ (32 ∷ (signed_decimal z ++ end)))) l refl,
      item_printed o (32 ∷ (signed_decimal z ++ end)) (and_left (item_printable o) _ p) refl,
      signed_printed no_limit half16 z end (ltb-true (mag z) half16 (and_left (in_range w16 z) _ p₁)) (omega arith) (behind_number rs s),
      requirements_printed entry_limit rs s (leb-true (length rs) entry_limit (and_left (leb (length rs) entry_limit) _ p₂)) (and_right (leb (length rs) entry_limit) _ p₂),
    )

-- ---- what was read prints as it was

item_took : (s : List ℕ) (o : Option ℕ) (r : List ℕ) → read_item s ≡ got o r → (s ≡ item_text o ++ r) × (item_printable o ≡ true)
unfolding read_item item_text
item_took [] o r q = absurd (refused≢got q)
item_took (c ∷ s) o r q = by (eqb c 45) refl q
  where
    by : (t : Bool) → eqb c 45 ≡ t → cond t (got none s) (onward (read_natural no_item wide16 (c ∷ s)) (λ n u. got (some n) u)) ≡ got o r → (c ∷ s ≡ item_text o ++ r) × (item_printable o ≡ true)
    by true m g = along (λ x u. (c ∷ s ≡ item_text x ++ u) × (item_printable x ≡ true)) g (ap (λ (d : ℕ). d ∷ s) (eqb-true c 45 m), refl)
    by false m g =
        let p = split (read_natural no_item wide16 (c ∷ s)) (λ n u. got (some n) u) g in
        let k = natural_took no_item wide16 (c ∷ s) p.value p.rest (omega arith) (omega arith) p.first in
        along (λ x u. (c ∷ s ≡ item_text x ++ u) × (item_printable x ≡ true)) p.then (k.0, lt-ltb p.value wide16 k.1)

-- a requirement in its printed form
pub record Printed (s : List ℕ) (q : Requirement) (r : List ℕ) : Type 0 where
  pub was : s ≡ letter q ∷ (signed_decimal (number q) ++ r)
  pub fits : req_printable q ≡ true

id_took : (c : ℕ) (k : ℕ → Requirement) → ((n : ℕ) → number (k n) ≡ pos n) → ((n : ℕ) → letter (k n) ≡ c) → (s : List ℕ) (q : Requirement) (r : List ℕ) → read_id k s ≡ got q r → Printed (c ∷ s) q r
id_took c k hasNumber hasLetter s q r g =
    let p = split (read_natural no_requirement half32 s) (λ n u. got (k n) u) g in
    let t = natural_took no_requirement half32 s p.value p.rest (omega arith) (omega arith) p.first in
    along (λ x u. Printed (c ∷ s) x u) p.then (record {
      was = rw (hasNumber p.value, hasLetter p.value) (unfold signed_decimal in ap (λ (u : List ℕ). c ∷ u) t.0);
      fits = rw (hasNumber p.value) (lt-ltb p.value half32 t.1);
    })

flag_took : (c : ℕ) (k : ℤ → Requirement) → ((z : ℤ) → number (k z) ≡ z) → ((z : ℤ) → letter (k z) ≡ c) → (s : List ℕ) (q : Requirement) (r : List ℕ) → read_flag k s ≡ got q r → Printed (c ∷ s) q r
flag_took c k hasNumber hasLetter s q r g =
    let p = split (read_signed no_requirement half32 s) (λ z u. got (k z) u) g in
    let t = signed_took no_requirement half32 s p.value p.rest (omega arith) (omega arith) p.first in
    along (λ x u. Printed (c ∷ s) x u) p.then (record {
      was = rw (hasNumber p.value, hasLetter p.value) (ap (λ (u : List ℕ). c ∷ u) t.0);
      fits = rw (hasNumber p.value) (lt-ltb (mag p.value) half32 t.1);
    })

-- a letter was met, or the reader went on to the next one
or_next_lem : {A : Type 0} (c l : ℕ) (a b : Answer A) (q : A) (r : List ℕ) (P : ℕ → Type 0) → cond (eqb c l) a b ≡ got q r → (a ≡ got q r → P l) → (b ≡ got q r → P c) → P c
or_next_lem c l a b q r P g f h = by (eqb c l) refl g
  where
    by : (t : Bool) → eqb c l ≡ t → cond t a b ≡ got q r → P c
    by true m k = rw (eqb-true c l m) (f k)
    by false m k = h k

requirement_took : (s : List ℕ) (q : Requirement) (r : List ℕ) → read_requirement s ≡ got q r → Printed s q r
unfolding read_requirement letter
requirement_took [] q r g = absurd (refused≢got g)
requirement_took (c ∷ s) q r g =
    next 73 (read_id haveItem s) _ g (λ k. id_took 73 haveItem (λ n. refl) (λ n. refl) s q r k) (λ g₁.
    next 105 (read_id missingItem s) _ g₁ (λ k. id_took 105 missingItem (λ n. refl) (λ n. refl) s q r k) (λ g₂.
    next 65 (read_id haveAtc s) _ g₂ (λ k. id_took 65 haveAtc (λ n. refl) (λ n. refl) s q r k) (λ g₃.
    next 97 (read_id missingAtc s) _ g₃ (λ k. id_took 97 missingAtc (λ n. refl) (λ n. refl) s q r k) (λ g₄.
    next 70 (read_flag haveFlag s) _ g₄ (λ k. flag_took 70 haveFlag (λ n. refl) (λ n. refl) s q r k) (λ g₅.
    next 102 (read_flag missingFlag s) _ g₅ (λ k. flag_took 102 missingFlag (λ n. refl) (λ n. refl) s q r k) (λ g₆. absurd (refused≢got g₆)))))))
  where
    next : (l : ℕ) (a b : Answer Requirement) → cond (eqb c l) a b ≡ got q r → (a ≡ got q r → Printed (l ∷ s) q r) → (b ≡ got q r → Printed (c ∷ s) q r) → Printed (c ∷ s) q r
    next l a b h f k = or_next_lem c l a b q r (λ d. Printed (d ∷ s) q r) h f k

pub record PrintedAll (k : ℕ) (s : List ℕ) (rs : List Requirement) (r : List ℕ) : Type 0 where
  pub was : s ≡ requirements_text rs ++ 10 ∷ r
  pub few : length rs ≤ k
  pub fits : all req_printable rs ≡ true

ended : (k : ℕ) (s : List ℕ) (rs : List Requirement) (r : List ℕ) → ◌≡◌ {A = Answer (List Requirement)} (got [] s) (got rs r) → PrintedAll k (10 ∷ s) rs r
ended k s rs r g = along (λ x u. PrintedAll k (10 ∷ s) x u) g (record { was = unfold requirements_text in refl; few = omega arith; fits = refl })

one_more_lem : (q : Requirement) (rs : List Requirement) (s t r : List ℕ) → s ≡ letter q ∷ (signed_decimal (number q) ++ t) → t ≡ requirements_text rs ++ 10 ∷ r → 32 ∷ s ≡ requirements_text (q ∷ rs) ++ 10 ∷ r
unfolding requirements_text
one_more_lem q rs s t r a b = rw (a, b, append_assoc (signed_decimal (number q)) (requirements_text rs) (10 ∷ r))

requirements_took : (k : ℕ) (s : List ℕ) (rs : List Requirement) (r : List ℕ) → read_requirements k s ≡ got rs r → PrintedAll k s rs r
unfolding read_requirements
requirements_took zero [] rs r g = absurd (refused≢got g)
requirements_took zero (c ∷ s) rs r g = or_next_lem c 10 (got [] s) _ rs r (λ d. PrintedAll zero (d ∷ s) rs r) g (ended zero s rs r) (λ h. absurd (refused≢got h))
requirements_took (suc k) [] rs r g = absurd (refused≢got g)
requirements_took (suc k) (c ∷ s) rs r g =
    or_next_lem c 10 (got [] s) _ rs r (λ d. PrintedAll (suc k) (d ∷ s) rs r) g (ended (suc k) s rs r) (λ h.
    or_next_lem c 32 _ (refused no_end) rs r (λ d. PrintedAll (suc k) (d ∷ s) rs r) h (λ m. one m (λ t us v. requirements_took k t us v)) (λ m. absurd (refused≢got m)))
  where
    one : onward (read_requirement s) (λ q t. onward (read_requirements k t) (λ us v. got (q ∷ us) v)) ≡ got rs r
        → ((t : List ℕ) (us : List Requirement) (v : List ℕ) → read_requirements k t ≡ got us v → PrintedAll k t us v) → PrintedAll (suc k) (32 ∷ s) rs r
    one m ih =
        let p = split (read_requirement s) (λ q t. onward (read_requirements k t) (λ us v. got (q ∷ us) v)) m in
        let q = p.value in
        let a = requirement_took s q p.rest p.first in
        let n = split (read_requirements k p.rest) (λ us v. got (q ∷ us) v) p.then in
        let b = ih p.rest n.value n.rest n.first in
        let few = b.few in
        along (λ x u. PrintedAll (suc k) (32 ∷ s) x u) n.then (record {
          was = one_more_lem q n.value s p.rest n.rest a.was b.was;
          few = omega arith;
          fits = rw (a.fits, b.fits);
        })

blank_took : {A : Type 0} (e : ℕ) (a : Answer A) (x : A) (r : List ℕ) → blank_behind e a ≡ got x r → a ≡ got x (32 ∷ r)
blank_took e (got y []) x r g = absurd (refused≢got g)
blank_took e (got y (c ∷ s)) x r g = or_next_lem c 32 (got y s) (refused e) x r (λ d. got y (d ∷ s) ≡ got x (32 ∷ r)) g (λ k. along (λ v u. got y (32 ∷ s) ≡ got v (32 ∷ u)) k refl) (λ k. absurd (refused≢got k))
blank_took e (refused n) x r g = absurd (refused≢got g)

number_took : (i : ℕ) (s : List ℕ) (n : ℕ) (r : List ℕ) → read_number i s ≡ got n r → s ≡ decimal i ++ r
unfolding read_number
number_took i s n r g =
    let p = split (read_natural no_slot slot_count s) (λ m u. cond (eqb m i) (got m u) (refused no_slot)) g in
    let t = natural_took no_slot slot_count s p.value p.rest (omega arith) (omega arith) p.first in
    let k = passed (eqb p.value i) (got p.value p.rest) no_slot n r p.then in
    along (λ x u. s ≡ decimal i ++ u) k.1 (t.0 ∙ ap (λ (m : ℕ). decimal m ++ p.rest) (eqb-true p.value i k.0))

parts_line : (i : ℕ) (x : Slot) (s t u v r : List ℕ) → s ≡ decimal i ++ 32 ∷ t → t ≡ item_text x.item ++ 32 ∷ u → u ≡ signed_decimal x.limit ++ v → v ≡ requirements_text x.requirements ++ 10 ∷ r → s ≡ slot_line i x ++ r
parts_line i x s t u v r a b c d = rw (a, b, c, d, line_parts i x r)

pub slot_took : (i : ℕ) (s : List ℕ) (x : Slot) (r : List ℕ) → read_slot i s ≡ got x r → (s ≡ slot_line i x ++ r) × (slot_printable x ≡ true)
unfolding read_slot
slot_took i s x r g =
    let p₀ = split (blank_behind no_slot (read_number i s)) _ g in
    let p₁ = split (blank_behind no_item (read_item p₀.rest)) _ p₀.then in
    let p₂ = split (read_signed no_limit half16 p₁.rest) _ p₁.then in
    let p₃ = split (read_requirements entry_limit p₂.rest) _ p₂.then in
    let t₀ = number_took i s p₀.value (32 ∷ p₀.rest) (blank_took no_slot (read_number i s) p₀.value p₀.rest p₀.first) in
    let t₁ = item_took p₀.rest p₁.value (32 ∷ p₁.rest) (blank_took no_item (read_item p₀.rest) p₁.value p₁.rest p₁.first) in
    let t₂ = signed_took no_limit half16 p₁.rest p₂.value p₂.rest (omega arith) (omega arith) p₂.first in
    let t₃ = requirements_took entry_limit p₂.rest p₃.value p₃.rest p₃.first in
    along (λ y u. (s ≡ slot_line i y ++ u) × (slot_printable y ≡ true)) p₃.then (
      parts_line i (record { item = p₁.value; limit = p₂.value; requirements = p₃.value }) s p₀.rest p₁.rest p₂.rest p₃.rest t₀ t₁.0 t₂.0 t₃.was,
      rw (t₁.1, lt-ltb (mag p₂.value) half16 t₂.1, le-leb (length p₃.value) entry_limit t₃.few, t₃.fits),
    )
