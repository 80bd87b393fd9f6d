-- What the people who sign a shop are told of each of its slots before it is compiled: whether what is read back will run the same, if not why and under which save, and what else may surprise them; and the call. Assumes nothing: these are definitions.
use Rattle.std.specs.Prelude.{Bool, not, cond, List, [], ◌∷◌, map, ℕ, zero, suc, ◌-◌, leb, eqb, length, ℤ}
use Rattle.std.proofs.Math.Option.{Option, none, some}
use Rattle.model.specs.Refusal.{accepted, first_of}
use Rattle.model.specs.Sheet.{Sheet, sheet_refusal}
use Rattle.model.specs.Requirement.{Requirement, keep, member, negate_req, same_req, sorted, is_have}
use Rattle.model.specs.Shop.{Slot, limit_of, shop_refusal, with_slots}
use Rattle.model.specs.Flags.{req_inside}
use Rattle.model.specs.Normal.{acquired_of, normal}
use Rattle.settings_model.specs.Settings.{hidden_count, listed_count}

-- ---- the verdict

abbrev pub later : Option ℕ → Option ℕ
later none = none
later (some i) = some (suc i)

-- the place of the first entry that p tells, if there is one
unfoldable pub first_place : {A : Type 0} → (A → Bool) → List A → Option ℕ
first_place p [] = none
first_place p (x ∷ xs) = cond (p x) (some 0) (later (first_place p xs))

-- faithful; or why not, with the place of the first entry concerned: it stands beside its negation, it is the Have of the acquired subject at limit 1, or its flag lies outside the save, which stops the run
pub data Verdict : Type 0 where
  faithful : Verdict
  pair own outside : ℕ → Verdict

abbrev pub or_else : Option ℕ → (ℕ → Verdict) → Verdict → Verdict
or_else none f v = v
or_else (some i) f v = f i

-- of item w, one being whether its coerced limit is 1; a flag outside is told first
abbrev pub verdict_filled : Sheet → ℕ → Bool → List Requirement → Verdict
verdict_filled h w one rs =
    or_else (first_place (λ r. not (req_inside r)) rs) outside
    (or_else (first_place (λ r. member (negate_req r) rs) rs) pair
    (or_else (cond one (first_place (same_req (acquired_of h w)) rs) none) own faithful))

-- a slot with no item is hidden and read back as hidden
abbrev pub verdict_for : Sheet → Option ℕ → ℤ → List Requirement → Verdict
verdict_for h none z rs = faithful
verdict_for h (some w) z rs = verdict_filled h w (leb (limit_of h w z) 1) rs

unfoldable pub verdict : Sheet → Slot → Verdict
verdict h x = verdict_for h x.item x.limit x.requirements

-- ---- the save that shows it: these are had, and all else is 0

-- qs: what the normal form requires
abbrev pub settings_for : Verdict → List Requirement → List Requirement
settings_for faithful qs = []
settings_for (pair i) qs = keep is_have qs
settings_for (own i) qs = keep is_have qs
settings_for (outside i) qs = []

-- ---- what is no matter of meaning but may surprise

-- the limit that will be used
abbrev pub limit_for : Sheet → Option ℕ → ℤ → ℕ
limit_for h none z = 0
limit_for h (some w) z = limit_of h w z

-- so many entries were given before
abbrev pub doubled : List Requirement → ℕ
doubled rs = length rs - length (sorted rs)

-- without an item all requirements are lost
abbrev pub lost_for : Option ℕ → List Requirement → ℕ
lost_for none rs = length rs
lost_for (some w) rs = 0

-- by the number of settings that list it and that hide it (A.9): sometimes 0, never 1, always 2
abbrev pub listed_as : ℕ → ℕ → ℕ
listed_as l h = cond (eqb l 0) 1 (cond (eqb h 0) 2 0)

-- ---- the call: 1, then 8; refused, nothing is told

pub record Finding : Type 0 where
  pub verdict : Verdict
  pub limit : ℕ
  pub doubled : ℕ
  pub lost : ℕ
  pub listed : ℕ
  pub settings : List Requirement

unfoldable pub finding : Sheet → Slot → Finding
finding h x = record {
  verdict = verdict h x;
  limit = limit_for h x.item x.limit;
  doubled = doubled x.requirements;
  lost = lost_for x.item x.requirements;
  listed = listed_as (listed_count h x) (hidden_count h x);
  settings = settings_for (verdict h x) (normal h x).requirements;
}

abbrev pub check_checks : Sheet → List Slot → ℕ
check_checks h xs = first_of (sheet_refusal h ∷ shop_refusal h xs ∷ [])

pub record Checked : Type 0 where
  pub answer : ℕ
  pub findings : List Finding

abbrev pub checked_as : ℕ → Sheet → List Slot → Checked
checked_as zero h xs = record { answer = accepted; findings = map (finding h) (with_slots xs) }
checked_as (suc n) h xs = record { answer = suc n; findings = [] }

unfoldable pub check_call : Sheet → List Slot → Checked
check_call h xs = checked_as (check_checks h xs) h xs
