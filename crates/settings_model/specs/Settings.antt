-- How many settings list a slot (02, A.9): its subjects, all combinations of answers to them, which of these list it, the plain count, and the call. Assumes nothing: these are definitions.
use Rattle.std.specs.Prelude.{Bool, true, false, not, cond, ◌&&◌, ◌||◌, List, [], ◌∷◌, ◌++◌, map, ℕ, zero, suc, leb, eqb, length, ℤ, pos}
use Rattle.std.proofs.Math.Option.{Option, none, some}
use Rattle.model.specs.Refusal.{accepted, bad_shop, check, first_of}
use Rattle.model.specs.Signed.{eq_z, is_zero}
use Rattle.model.specs.Save.{Save, nat_at, int_at}
use Rattle.model.specs.Sheet.{Sheet, all, sheet_refusal}
use Rattle.model.specs.Requirement.{Requirement, haveItem, missingItem, haveAtc, missingAtc, haveFlag, missingFlag, is_have}
use Rattle.model.specs.Shop.{Slot, limit_of, slot_ok, timer_of}
use Rattle.model.specs.Compile.{rate_of}
use Rattle.model.specs.Meaning.{held}
use Rattle.model.specs.Normal.{acquired_of}

-- ---- subjects: each a yes or no

-- an item held, an atc held, a flag set; and of a timer, that time[2] is its rate
pub data Subject : Type 0 where
  heldItem heldAtc : ℕ → Subject
  set_flag : ℤ → Subject
  rate_is : ℕ → Subject

-- what a requirement asks about
abbrev pub subject_of : Requirement → Subject
subject_of (haveItem i) = heldItem i
subject_of (missingItem i) = heldItem i
subject_of (haveAtc a) = heldAtc a
subject_of (missingAtc a) = heldAtc a
subject_of (haveFlag f) = set_flag f
subject_of (missingFlag f) = set_flag f

abbrev pub sort : Subject → ℕ
sort (heldItem i) = 0
sort (heldAtc a) = 1
sort (set_flag f) = 2
sort (rate_is r) = 3

abbrev pub mark : Subject → ℤ
mark (heldItem i) = pos i
mark (heldAtc a) = pos a
mark (set_flag f) = f
mark (rate_is r) = pos r

unfoldable pub same_subject : Subject → Subject → Bool
same_subject a b = eqb (sort a) (sort b) && eq_z (mark a) (mark b)

unfoldable pub member_s : Subject → List Subject → Bool
member_s u [] = false
member_s u (v ∷ vs) = same_subject u v || member_s u vs

unfoldable pub without : Subject → List Subject → List Subject
without u [] = []
without u (v ∷ vs) = cond (same_subject v u) (without u vs) (v ∷ without u vs)

-- each once: an item or atc that is both requirement and acquired is one subject
unfoldable pub distinct : List Subject → List Subject
distinct [] = []
distinct (u ∷ us) = u ∷ without u (distinct us)

abbrev pub rates : Option ℕ → List Subject
rates none = []
rates (some r) = rate_is r ∷ []

-- those of its requirements; at coerced limit 1, which every timer has, also the acquired one and the rate of a timer
abbrev pub subjects_filled : Sheet → ℕ → Bool → List Requirement → List Subject
subjects_filled h w one rs = cond one (distinct (rates (rate_of (timer_of h w)) ++ subject_of (acquired_of h w) ∷ map subject_of rs)) (distinct (map subject_of rs))

-- a slot with no item has none
abbrev pub subjects_for : Sheet → Option ℕ → ℤ → List Requirement → List Subject
subjects_for h none z rs = []
subjects_for h (some w) z rs = subjects_filled h w (leb (limit_of h w z) 1) rs

unfoldable pub subjects : Sheet → Slot → List Subject
subjects h x = subjects_for h x.item x.limit x.requirements

-- ---- listed: its item variable gets the item, whatever the count; as a slot's meaning goes, with answers y in the place of a save

abbrev pub agree : Bool → Bool → Bool
agree true b = b
agree false b = not b

unfoldable pub meets : (Subject → Bool) → Requirement → Bool
meets y r = agree (is_have r) (y (subject_of r))

abbrev pub or_rate : (Subject → Bool) → Option ℕ → Bool → Bool
or_rate y none b = b
or_rate y (some r) b = b || y (rate_is r)

-- at limit 1 acquired or R, above it R
abbrev pub listed_filled : Sheet → ℕ → Bool → List Requirement → (Subject → Bool) → Bool
listed_filled h w one rs y = cond one (or_rate y (rate_of (timer_of h w)) (meets y (acquired_of h w)) || all (meets y) rs) (all (meets y) rs)

abbrev pub listed_for : Sheet → Option ℕ → ℤ → List Requirement → (Subject → Bool) → Bool
listed_for h none z rs y = false
listed_for h (some w) z rs y = listed_filled h w (leb (limit_of h w z) 1) rs y

unfoldable pub listed_with : Sheet → Slot → (Subject → Bool) → Bool
listed_with h x y = listed_for h x.item x.limit x.requirements y

-- ---- combinations: an answer for each subject, in their order

-- all lists of n answers
unfoldable pub combos : ℕ → List (List Bool)
combos zero = [] ∷ []
combos (suc n) = map (λ c. true ∷ c) (combos n) ++ map (λ c. false ∷ c) (combos n)

unfoldable pub answer_in : List Subject → List Bool → Subject → Bool
answer_in [] c u = false
answer_in (v ∷ vs) [] u = false
answer_in (v ∷ vs) (b ∷ bs) u = cond (same_subject u v) b (answer_in vs bs u)

unfoldable pub listed_by : Sheet → Slot → List Bool → Bool
listed_by h x c = listed_with h x (answer_in (subjects h x) c)

-- the combination that a save gives
unfoldable pub says : Save → Subject → Bool
says s (heldItem i) = not (is_zero (held s i))
says s (heldAtc a) = not (is_zero (nat_at s.atcs (pos a)))
says s (set_flag f) = not (is_zero (nat_at s.flags f))
says s (rate_is r) = eq_z (int_at s.times (pos 2)) (pos r)

abbrev pub setting_of : Sheet → Slot → Save → List Bool
setting_of h x s = map (says s) (subjects h x)

-- ---- the plain count over all combinations

unfoldable pub count : {A : Type 0} → (A → Bool) → List A → ℕ
count p [] = 0
count p (x ∷ xs) = cond (p x) (suc (count p xs)) (count p xs)

unfoldable pub listed_count : Sheet → Slot → ℕ
listed_count h x = count (listed_by h x) (combos (length (subjects h x)))

unfoldable pub hidden_count : Sheet → Slot → ℕ
hidden_count h x = count (λ c. not (listed_by h x c)) (combos (length (subjects h x)))

-- ---- the call: 1, then 8 of the slot; refused, every number is 0

abbrev pub settings_checks : Sheet → Slot → ℕ
settings_checks h x = first_of (sheet_refusal h ∷ check (slot_ok h x) bad_shop ∷ [])

pub record Settings : Type 0 where
  pub answer : ℕ
  pub subjects : ℕ
  pub listed : ℕ
  pub hidden : ℕ

abbrev pub settings_as : ℕ → Sheet → Slot → Settings
settings_as zero h x = record { answer = accepted; subjects = length (subjects h x); listed = listed_count h x; hidden = hidden_count h x }
settings_as (suc n) h x = record { answer = suc n; subjects = 0; listed = 0; hidden = 0 }

unfoldable pub settings_call : Sheet → Slot → Settings
settings_call h x = settings_as (settings_checks h x) h x
