-- Counting the subjects of a slot on its codes. Assumes nothing.
use Rattle.std.specs.Prelude.{◌≡◌, Bool, not, ◌&&◌, ◌||◌, ℕ, suc, ◌+◌, ◌≤◌, ◌<◌, eqb, get_or, length, take, drop}
use Rattle.std.proofs.Math.Path.{refl, sym, ap}
use Rattle.std.proofs.Common.{◌∙◌, add-one, drop_of_length-le, drop-cons, get_or-take, take-suc, take-take}
use Rattle.std.proofs.Math.Bool.{true, false}
use mathlib.Core.List.{List, [], ◌∷◌, ◌++◌, map, append_assoc, append-nil}
use native.Mathlib.Omega.{arith}
use borrow.Author.Tests.{eq-eqb, ne_eqb}
use Rattle.model.specs.Sheet.{Sheet}
use Rattle.model.specs.Requirement.{Requirement, member, negate_req, same_req}
use Rattle.model.specs.Normal.{acquired_of}
use Rattle.shop_codes.specs.Codes.{AllNarrow, Narrow, code_of}
use Rattle.shop_codes.specs.Laws.{same_code}
use Rattle.shop_codes.specs.Subjects.{negate_narrow}
use Rattle.settings_model.specs.Settings.{member_s, subject_of}
use Rattle.settings_model.specs.Closed.{bit}
use Rattle.settings_model.proofs.Prefixes.{acquired_subjects, count_new, seen_is}
use Rattle.settings.specs.Codes.{lacks_is, lacks_code, negated_code_lem, negated_code}

-- about the acquired subject, at limit 1
unfoldable pub own_code : Bool → ℕ → ℕ → Bool
own_code one own c = one && (eqb c own || eqb (negated_code c) own)

-- its subject stands at no earlier place
unfoldable pub new_code : Bool → ℕ → List ℕ → ℕ → Bool
new_code one own seen c = not (own_code one own c) && (lacks_code c seen && lacks_code (negated_code c) seen)

unfoldable pub count_codes : Bool → ℕ → List ℕ → List ℕ → ℕ
count_codes one own seen [] = 0
count_codes one own seen (c ∷ cs) = bit (new_code one own seen c) + count_codes one own (seen ++ c ∷ []) cs

-- ---- it counts subjects

morgan : (p a b : Bool) → not p && (not a && not b) ≡ not (p || (a || b))
morgan true a b = refl
morgan false true b = refl
morgan false false b = refl

map_end : {A B : Type 0} (f : A → B) (xs : List A) (y : A) → map f (xs ++ y ∷ []) ≡ map f xs ++ f y ∷ []
map_end f [] y = refl
map_end f (x ∷ xs) y = ap (λ l. f x ∷ l) (map_end f xs y)

narrow_end : (xs : List Requirement) (y : Requirement) → AllNarrow xs → Narrow y → AllNarrow (xs ++ y ∷ [])
narrow_end [] y a n = (n, tt)
narrow_end (x ∷ xs) y a n = (a.0, narrow_end xs y a.1 n)

module _ (h : Sheet) (w : ℕ) (one : Bool) (low : Narrow (acquired_of h w)) where
  abbrev a : Requirement
  a = acquired_of h w

  new_is : (seen : List Requirement) (r : Requirement) → AllNarrow seen → Narrow r → new_code one (code_of a) (map code_of seen) (code_of r) ≡ not (member_s (subject_of r) (acquired_subjects h w one ++ map subject_of seen))
  unfolding new_code own_code
  new_is seen r m n =
      rw (negated_code_lem r n, ← same_code r a n low, ← same_code (negate_req r) a (negate_narrow r n) low, lacks_is r seen n m, lacks_is (negate_req r) seen (negate_narrow r n) m, seen_is h w one seen r)
      (morgan (one && (same_req r a || same_req (negate_req r) a)) (member r seen) (member (negate_req r) seen))

  codes_count : (seen rs : List Requirement) → AllNarrow seen → AllNarrow rs → count_codes one (code_of a) (map code_of seen) (map code_of rs) ≡ count_new (acquired_subjects h w one ++ map subject_of seen) (map subject_of rs)
  unfolding count_codes count_new
  codes_count seen [] m n = refl
  codes_count seen (r ∷ rs) m n =
      rw (new_is seen r m n.0)
      (ap (λ k. bit (not (member_s (subject_of r) (acquired_subjects h w one ++ map subject_of seen))) + k)
      (ap (λ l. count_codes one (code_of a) l (map code_of rs)) (sym (map_end code_of seen r)) ∙ codes_count (seen ++ r ∷ []) rs (narrow_end seen r m n.0) n.1
      ∙ ap (λ l. count_new l (map subject_of rs)) (ap (λ l. acquired_subjects h w one ++ l) (map_end subject_of seen r) ∙ sym (append_assoc (acquired_subjects h w one) (map subject_of seen) (subject_of r ∷ [])))))

-- all of them, beside the acquired ones
pub all_codes : (h : Sheet) (w : ℕ) (one : Bool) (rs : List Requirement) → Narrow (acquired_of h w) → AllNarrow rs
    → count_codes one (code_of (acquired_of h w)) [] (map code_of rs) ≡ count_new (acquired_subjects h w one) (map subject_of rs)
all_codes h w one rs n a = codes_count h w one n [] rs tt a ∙ ap (λ l. count_new l (map subject_of rs)) (append-nil (acquired_subjects h w one))

-- ---- the loop

pub record Counted (one : Bool) (own : ℕ) (cs : List ℕ) (i n : ℕ) : Type 0 where
  pub low : i ≤ length cs
  pub few : n ≤ i
  pub is : n + count_codes one own (take i cs) (drop i cs) ≡ count_codes one own [] cs

module _ (one : Bool) (own : ℕ) (cs : List ℕ) where
  pub start : Counted one own cs 0 0
  start = record { low = omega arith; few = omega arith; is = omega arith }

  more : (i n : ℕ) → Counted one own cs i n → i < length cs → (r : ℕ) → r ≡ n + bit (new_code one own (take i cs) (get_or cs i 0)) → Counted one own cs (i + 1) r
  unfolding count_codes
  more i n k l r e = rw (add-one i) (record { low = l; few = omega (arith, bit_most (new_code one own (take i cs) (get_or cs i 0)), e, k.few); is = sum })
    where
      bit_most : (b : Bool) → bit b ≤ 1
      bit_most true = omega arith
      bit_most false = omega arith

      left : count_codes one own (take i cs) (drop i cs) ≡ bit (new_code one own (take i cs) (get_or cs i 0)) + count_codes one own (take (suc i) cs) (drop (suc i) cs)
      left = rw (drop-cons cs i 0 l, take-suc cs i 0 l)

      sum : r + count_codes one own (take (suc i) cs) (drop (suc i) cs) ≡ count_codes one own [] cs
      sum = omega (arith, e, k.is, left)

  pub end : (i n : ℕ) → Counted one own cs i n → length cs ≤ i → n ≡ count_codes one own [] cs
  unfolding count_codes
  end i n k l =
      let z : count_codes one own (take i cs) (drop i cs) ≡ 0 = rw (drop_of_length-le cs l) in
      omega (arith, k.is, z)

-- of the first codes of a row, read in the row
pub more_taken : (one : Bool) (own : ℕ) (row : List ℕ) (len : ℕ) → length (take len row) ≡ len → (i n : ℕ) → Counted one own (take len row) i n → i < len → (r : ℕ) → r ≡ n + bit (new_code one own (take i row) (get_or row i 0))
    → Counted one own (take len row) (i + 1) r
more_taken one own row len k i n c l r e = more one own (take len row) i n c (omega arith) r (rw (take-take i len row (omega arith), get_or-take len row i 0 l) e)

-- ---- the tests by their answers

module _ (one : Bool) (own c : ℕ) where
  pub own_none : one ≡ false → false ≡ own_code one own c
  unfolding own_code
  own_none e = rw e

  pub own_same : one ≡ true → c ≡ own → true ≡ own_code one own c
  unfolding own_code
  own_same e f = rw (e, eq-eqb c own f)

  pub own_last : one ≡ true → (c ≡ own → ⊥) → (d : ℕ) → d ≡ negated_code c → eqb d own ≡ own_code one own c
  unfolding own_code
  own_last e f d g = rw (e, ne_eqb c own f, g)

  module _ (seen : List ℕ) where
    pub new_own : own_code one own c ≡ true → false ≡ new_code one own seen c
    unfolding new_code
    new_own e = rw e

    pub new_there : own_code one own c ≡ false → lacks_code c seen ≡ false → false ≡ new_code one own seen c
    unfolding new_code
    new_there e f = rw (e, f)

    pub new_last : own_code one own c ≡ false → lacks_code c seen ≡ true → (d : ℕ) → d ≡ negated_code c → lacks_code d seen ≡ new_code one own seen c
    unfolding new_code
    new_last e f d g = rw (e, f, g)
