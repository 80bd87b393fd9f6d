-- The answer of the call by the numbers that a program finds, and the laws of its numbers. Assumes nothing.
use Rattle.std.specs.Prelude.{◌≡◌, refl, Bool, true, not, [], ◌∷◌, map, ℕ, zero, suc, ◌+◌, ◌-◌, ◌^◌, ◌≤◌, leb, length}
use Rattle.std.proofs.Common.{ap, ◌∙◌, arith, leb-true}
use Rattle.std.proofs.Math.Option.{some}
use Rattle.model.specs.Limits.{entry_limit}
use Rattle.model.specs.Refusal.{bad_shop, check}
use Rattle.model.specs.Sheet.{Sheet, all, sheet_refusal}
use Rattle.model.specs.Shop.{Slot, item_known, limit_of, req_known, slot_ok}
use Rattle.model.proofs.Laws.Checks.{and_left, and_right, first_passed, passed}
use Rattle.faithful_model.specs.Faithful.{faithful_filled}
use Rattle.settings_model.specs.Settings.{Settings, combos, count, hidden_count, listed_by, listed_count, settings_as, settings_call, settings_checks, subject_of, subjects, subjects_filled}
use Rattle.settings_model.specs.Closed.{acquired_filled, bit, hidden_closed, listed_closed}
use Rattle.settings_model.proofs.Closed.{hidden_closed_lem, listed_closed_lem, together}
use Rattle.settings_model.proofs.Prefixes.{acquired_subjects, count_new, subjects_count}
use Rattle.settings_model.proofs.Subjects.{subjects_few}

-- ---- by numbers

-- a slot with item w, one being whether its coerced limit is 1: k acquired subjects, f new ones of its requirements, m 1 where the rule holds, else 0
pub record Counts (h : Sheet) (x : Slot) (k f m : ℕ) : Type 0 where
  pub subjects : length (subjects h x) ≡ k + f
  pub hidden : hidden_count h x ≡ 2 ^ f - m
  pub listed : listed_count h x ≡ 2 ^ (k + f) - (2 ^ f - m)

pub counts : (h : Sheet) (x : Slot) (w : ℕ) → x.item ≡ some w → (one : Bool) → leb (limit_of h w x.limit) 1 ≡ one
    → Counts h x (acquired_filled h w one) (count_new (acquired_subjects h w one) (map subject_of x.requirements)) (bit (faithful_filled h w one x.requirements))
unfolding subjects hidden_closed listed_closed
counts h x w e one l = record {
  subjects = s;
  hidden = hidden_closed_lem h x ∙ d;
  listed = listed_closed_lem h x ∙ rw (d, s);
}
  where
    k : ℕ
    k = acquired_filled h w one

    f : ℕ
    f = count_new (acquired_subjects h w one) (map subject_of x.requirements)

    n : length (subjects_filled h w one x.requirements) ≡ k + f
    n = subjects_count h w one x.requirements

    s : length (subjects h x) ≡ k + f
    s = rw (e, l) n

    less : length (subjects_filled h w one x.requirements) - k ≡ f
    less = omega (arith, n)

    d : hidden_closed h x ≡ 2 ^ f - bit (faithful_filled h w one x.requirements)
    d = rw (e, l) (ap (λ j. 2 ^ j - bit (faithful_filled h w one x.requirements)) less)

-- ---- the laws of an answer that is no refusal

pub record Told (h : Sheet) (x : Slot) (r : Settings) : Type 0 where
  pub subjects : r.subjects ≡ length (subjects h x)
  pub few : r.subjects ≤ 16
  pub listed : r.listed ≡ count (listed_by h x) (combos r.subjects)
  pub hidden : r.hidden ≡ count (λ c. not (listed_by h x c)) (combos r.subjects)
  pub together : r.listed + r.hidden ≡ 2 ^ r.subjects

pub told : (h : Sheet) (x : Slot) → (settings_call h x).answer ≡ 0 → Told h x (settings_call h x)
unfolding settings_call listed_count hidden_count
told h x e = by (settings_checks h x) refl e
  where
    few : slot_ok h x ≡ true → length (subjects h x) ≤ 16
    few ok =
        let l = leb-true (length x.requirements) entry_limit (and_left _ (all (req_known h) x.requirements) (and_right (item_known h x.item) _ ok)) in
        omega (arith, subjects_few h x)

    by : (n : ℕ) → settings_checks h x ≡ n → (settings_as n h x).answer ≡ 0 → Told h x (settings_as n h x)
    by zero q a = record {
      subjects = refl;
      few = few (passed (slot_ok h x) 7 (first_passed (check (slot_ok h x) bad_shop) [] (first_passed (sheet_refusal h) (check (slot_ok h x) bad_shop ∷ []) q).1).0);
      listed = refl;
      hidden = refl;
      together = together h x;
    }
    by (suc n) q a = absurd (omega arith)
