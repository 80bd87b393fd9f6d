-- The verdict and the save that shows it, on the codes of requirements. Assumes nothing.
use Rattle.std.specs.Prelude.{◌≡◌, Bool, true, false, not, cond, ◌&&◌, List, [], ◌∷◌, ℕ, zero, suc, ◌+◌, ◌/◌, ◌%◌, ◌<◌, ◌≤◌, eqb, ℤ, get_or, length}
use Rattle.std.proofs.Math.Path.{refl, ap}
use Rattle.std.proofs.Common.{sym, ◌∙◌, true≢false, arith}
use Rattle.std.proofs.Math.Option.{Option, none, some}
use Rattle.std.proofs.Math.Decide.{ℕ_discrete}
use borrow.Author.Tests.{eq-eqb, ne_eqb}
use Rattle.model.specs.Limits.{wide}
use Rattle.model.specs.Save.{flag_inside}
use Rattle.model.specs.Requirement.{number}
use Rattle.model.specs.Flags.{req_inside}
use Rattle.model.proofs.Laws.Places.{any_default}
use Rattle.shop_codes.specs.Codes.{is_missing, of_kind, requirement_of, unshift}
use Rattle.settings.specs.Codes.{lacks_code, negated_code}
use Rattle.signed_model.specs.Findings.{Verdict, faithful, pair, own, outside, first_place, or_else}
use Rattle.signed_model.proofs.Places.{First, first_place_lem, place_first}

-- c is a reason for the verdict of that number: 3 a flag outside, 1 a contradicting pair, else the acquired test
unfoldable pub concerns_code : ℕ → ℕ → List ℕ → ℕ → Bool
concerns_code v a cs c = cond (eqb v 3) (not (req_inside (requirement_of c))) (cond (eqb v 1) (not (lacks_code (negated_code c) cs)) (eqb a c))

unfoldable pub place_code : ℕ → ℕ → List ℕ → Option ℕ
place_code v a cs = first_place (concerns_code v a cs) cs

unfoldable pub verdict_code : Bool → ℕ → List ℕ → Verdict
verdict_code one a cs = or_else (place_code 3 a cs) outside (or_else (place_code 1 a cs) pair (or_else (cond one (place_code 2 a cs) none) own faithful))

-- ---- what the normal form leaves, cs being the set

-- a Have that is not the acquired test at limit 1 and stands beside no negation
unfoldable pub left_code : Bool → ℕ → List ℕ → ℕ → Bool
left_code one a cs c = not (is_missing (requirement_of c)) && (not (one && eqb c a) && lacks_code (negated_code c) cs)

unfoldable pub pick : (ℕ → Bool) → List ℕ → List ℕ
pick p [] = []
pick p (c ∷ cs) = cond (p c) (c ∷ pick p cs) (pick p cs)

-- by the number of the verdict
abbrev pub shown_code : ℕ → List ℕ → List ℕ
shown_code v cs = cond (eqb v 0) [] (cond (eqb v 3) [] cs)

-- ---- tests by their answers

module _ (a : ℕ) (cs : List ℕ) (c v : ℕ) where
  pub concerns_outside : v ≡ 3 → not (req_inside (requirement_of c)) ≡ concerns_code v a cs c
  unfolding concerns_code
  concerns_outside e = rw (eq-eqb v 3 e)

  pub concerns_pair : (v ≡ 3 → ⊥) → v ≡ 1 → not (lacks_code (negated_code c) cs) ≡ concerns_code v a cs c
  unfolding concerns_code
  concerns_pair e f = rw (ne_eqb v 3 e, eq-eqb v 1 f)

  pub concerns_own : (v ≡ 3 → ⊥) → (v ≡ 1 → ⊥) → eqb a c ≡ concerns_code v a cs c
  unfolding concerns_code
  concerns_own e f = rw (ne_eqb v 3 e, ne_eqb v 1 f)

-- below the kinds of flags, and from there on by its number
kind_low : (k : ℕ) (z : ℤ) → k < 4 → req_inside (of_kind k z) ≡ true
kind_low zero z l = refl
kind_low (suc zero) z l = refl
kind_low (suc (suc zero)) z l = refl
kind_low (suc (suc (suc zero))) z l = refl
kind_low (suc (suc (suc (suc k)))) z l = absurd (omega arith)

kind_high : (k : ℕ) (z : ℤ) → 4 ≤ k → flag_inside (number (of_kind k z)) ≡ req_inside (of_kind k z)
kind_high zero z l = absurd (omega arith)
kind_high (suc zero) z l = absurd (omega arith)
kind_high (suc (suc zero)) z l = absurd (omega arith)
kind_high (suc (suc (suc zero))) z l = absurd (omega arith)
kind_high (suc (suc (suc (suc zero)))) z l = refl
kind_high (suc (suc (suc (suc (suc zero))))) z l = refl
kind_high (suc (suc (suc (suc (suc (suc k)))))) z l = refl

pub code_low : (c : ℕ) → c < 17179869184 → false ≡ not (req_inside (requirement_of c))
unfolding requirement_of
code_low c l = sym (ap not (kind_low (c / wide) (unshift (c % wide)) (omega arith)))

pub code_high : (c : ℕ) → 17179869184 ≤ c → not (flag_inside (number (requirement_of c))) ≡ not (req_inside (requirement_of c))
unfolding requirement_of
code_high c l = ap not (kind_high (c / wide) (unshift (c % wide)) (omega arith))

module _ (one : Bool) (a c : ℕ) (cs : List ℕ) where
  pub left_missing : is_missing (requirement_of c) ≡ true → false ≡ left_code one a cs c
  unfolding left_code
  left_missing e = rw e

  pub left_own : is_missing (requirement_of c) ≡ false → one && eqb c a ≡ true → false ≡ left_code one a cs c
  unfolding left_code
  left_own e f = rw (e, f)

  pub left_last : is_missing (requirement_of c) ≡ false → one && eqb c a ≡ false → lacks_code (negated_code c) cs ≡ left_code one a cs c
  unfolding left_code
  left_last e f = rw (e, f)

-- ---- the loop that finds the first place

-- the test holds of none of the first i codes
pub record Passed (p : ℕ → Bool) (cs : List ℕ) (i : ℕ) : Type 0 where
  pub low : i ≤ length cs
  pub none_before : (j d : ℕ) → j < i → p (get_or cs j d) ≡ false

module _ (p : ℕ → Bool) (cs : List ℕ) where
  pub passed_start : Passed p cs 0
  passed_start = record { low = omega arith; none_before = λ j d l. absurd (omega arith) }

  pub passed_more : (i : ℕ) → Passed p cs i → i < length cs → p (get_or cs i 0) ≡ false → Passed p cs (i + 1)
  passed_more i q l e = record { low = omega arith; none_before = λ j d m. by j d m (ℕ_discrete j i) }
    where
      by : (j d : ℕ) → j < i + 1 → Dec (j ≡ i) → p (get_or cs j d) ≡ false
      by j d m (yes s) = rw s (ap p (any_default cs i d 0 l) ∙ e)
      by j d m (no s) = q.none_before j d (omega arith)

  pub passed_found : (i : ℕ) → Passed p cs i → i < length cs → p (get_or cs i 0) ≡ true → some i ≡ first_place p cs
  passed_found i q l e = sym (first_place_lem p cs i (record { low = l; is = λ d. ap p (any_default cs i d 0 l) ∙ e; none_before = q.none_before }))

  pub passed_none : (i : ℕ) → Passed p cs i → length cs ≤ i → none ≡ first_place p cs
  passed_none i q l = by (first_place p cs) (place_first p cs)
    where
      by : (o : Option ℕ) → ((j : ℕ) → o ≡ some j → First p cs j) → none ≡ o
      by none f = refl
      by (some j) f = let g = f j refl in absurd (true≢false (sym (g.is 0) ∙ q.none_before j 0 (omega (arith, g.low))))

-- ---- the verdict by the places found

module _ (one : Bool) (a : ℕ) (cs : List ℕ) where
  pub verdict_outside : (i : ℕ) → some i ≡ place_code 3 a cs → outside i ≡ verdict_code one a cs
  unfolding verdict_code
  verdict_outside i e = rw (← e)

  module _ (q : none ≡ place_code 3 a cs) where
    pub verdict_pair : (i : ℕ) → some i ≡ place_code 1 a cs → pair i ≡ verdict_code one a cs
    unfolding verdict_code
    verdict_pair i e = rw (← q, ← e)

    module _ (p : none ≡ place_code 1 a cs) where
      pub verdict_own : one ≡ true → (i : ℕ) → some i ≡ place_code 2 a cs → own i ≡ verdict_code one a cs
      unfolding verdict_code
      verdict_own o i e = rw (← q, ← p, o, ← e)

      pub verdict_own_none : one ≡ true → none ≡ place_code 2 a cs → faithful ≡ verdict_code one a cs
      unfolding verdict_code
      verdict_own_none o e = rw (← q, ← p, o, ← e)

      pub verdict_any : one ≡ false → faithful ≡ verdict_code one a cs
      unfolding verdict_code
      verdict_any o = rw (← q, ← p, o)
