-- Faithful slots: the slot and its normal form mean the same under every save that fits; and the save that tells them apart where they do not. Assumes nothing: these are definitions.
use Rattle.std.specs.Prelude.{◌≡◌, Bool, true, cond, List, [], ◌∷◌, ℕ, zero, suc, ltb, pos}
use Rattle.model.specs.Limits.{flag_count, time_count, variable_count}
use Rattle.model.specs.Save.{Save, flag_inside}
use Rattle.model.specs.Sheet.{Sheet, item_count, save_ok}
use Rattle.model.specs.Requirement.{Requirement, haveItem, missingItem, haveAtc, missingAtc, haveFlag, missingFlag, member}
use Rattle.model.specs.Shop.{Slot}
use Rattle.model.specs.Meaning.{meaning_of}
use Rattle.model.specs.Normal.{normal}

-- for every save that fits the sheet the slot and its normal form mean the same (item, count and what they leave in variable 0)
pub record Faithful (h : Sheet) (x : Slot) : Type 0 where
  pub same : (s : Save) → save_ok h s ≡ true → meaning_of h s x ≡ meaning_of h s (normal h x)

-- ---- subjects that some save that fits has

-- a Have of what no save that fits has never holds
abbrev pub can_hold : Sheet → Requirement → Bool
can_hold h (haveItem i) = ltb i (item_count h)
can_hold h (missingItem i) = true
can_hold h (haveAtc a) = ltb a h.atc_count
can_hold h (missingAtc a) = true
can_hold h (haveFlag f) = flag_inside f
can_hold h (missingFlag f) = true

-- ---- the save that has all that qs require and nothing else

-- f 0, f 1, and so on, n of them
unfoldable pub table : {A : Type 0} → (ℕ → A) → ℕ → List A
table f zero = []
table f (suc n) = f 0 ∷ table (λ i. f (suc i)) n

abbrev pub bit : Bool → ℕ
bit b = cond b 1 0

unfoldable pub witness : Sheet → List Requirement → Save
witness h qs = record {
  items = table (λ i. pos (bit (member (haveItem i) qs))) (item_count h);
  atcs = table (λ a. bit (member (haveAtc a) qs)) h.atc_count;
  flags = table (λ f. bit (member (haveFlag (pos f)) qs)) flag_count;
  times = table (λ t. pos 0) time_count;
  variables = table (λ v. pos 0) variable_count;
}

unfoldable pub witness_for : Sheet → Slot → Save
witness_for h x = witness h (normal h x).requirements
