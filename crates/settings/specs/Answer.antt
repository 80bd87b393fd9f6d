-- The answer as the code holds it, and by the numbers that it finds. Assumes nothing.
use Rattle.std.specs.Prelude.{◌≡◌, refl, Bool, true, List, [], ◌∷◌, map, leb, ltb, length, take, Some, None, Result, Ok, Err}
use Rattle.std.proofs.Common.{sym, ◌∙◌, arith, le-leb, le-ltb, lt-ltb}
use Rattle.std.proofs.Math.Option.{none, some}
use Prim.Native.Nat.{ℕ, zero, suc, ◌+◌, ◌-◌, ◌^◌, ◌≤◌}
use Rattle.std.proofs.Math.Nat.{pow-le-pow_right}
use Rattle.std.proofs.Math.Decide.{dec_le}
use Rattle.std.proofs.lemmas.Bool.{lt-leb}
use Rattle.model.specs.Limits.{entry_limit}
use Rattle.model.specs.Refusal.{accepted, bad_sheet, bad_shop, check, first_of}
use Rattle.model.specs.Refusals.{refusal_number}
use Rattle.model.specs.declared.Refusal.{Refusal}
use Rattle.model.specs.Sheet as Model
use Rattle.model.specs.Sheet.{sheet_ok}
use Rattle.model.specs.Shop as Shops
use Rattle.model.specs.Shop.{limit_of, slot_ok, timer_of}
use Rattle.model.specs.Requirement.{Requirement}
use Rattle.model.proofs.Laws.Checks.{first_passed, passed}
use Rattle.model.specs.Normal.{acquired_of}
use Rattle.faithful_model.specs.Faithful.{faithful_filled}
use Rattle.shop_codes.specs.Codes.{code_of}
use Rattle.shop.specs.Shapes.{slot_of}
use Rattle.shop.specs.Slots.{slot_narrow}
use Rattle.settings_model.specs.Settings as Counted
use Rattle.settings_model.specs.Settings.{hidden_count, listed_count, rates, settings_as, settings_call, settings_checks, subject_of, subjects}
use Rattle.settings_model.specs.Closed.{acquired_filled, bit}
use Rattle.settings_model.proofs.Closed.{none_listed}
use Rattle.settings_model.proofs.Prefixes.{acquired_subjects, count_new}
use Rattle.settings_model.proofs.Call.{Counts, counts}
use Rattle.model.specs.declared.ItemId.{ItemId}
use Rattle.shop.specs.declared.Slot.{Slot}
use Rattle.settings.specs.declared.Settings.{Settings}
use Rattle.settings.specs.Codes.{codes_are, faithful_code_lem, faithful_code, own_narrow}
use Rattle.settings.specs.Counting.{all_codes, count_codes}

abbrev pub accepted_as : Settings → Counted.Settings
accepted_as r = record { answer = accepted; subjects = r.subjects; listed = r.listed; hidden = r.hidden }

-- refused, every number is 0
abbrev pub answer_in : Result Settings Refusal → Counted.Settings
answer_in (Ok r) = accepted_as r
answer_in (Err e) = record { answer = refusal_number e; subjects = 0; listed = 0; hidden = 0 }

-- k acquired subjects, f of requirements, m combinations of these that meet them all
abbrev pub by_numbers : ℕ → ℕ → ℕ → Settings
by_numbers k f m = record { subjects = k + f; listed = 2 ^ (k + f) - (2 ^ f - m); hidden = 2 ^ f - m }

-- ---- 2 to a number

pub less_power : (k f m : ℕ) → 2 ^ f - m ≤ 2 ^ (k + f)
less_power k f m = let l : 2 ^ f ≤ 2 ^ (k + f) = pow-le-pow_right {n = 2} (omega arith) (omega arith) in omega arith

pub one_test : (n : ℕ) → leb n 1 ≡ ltb n 2
one_test n = by (dec_le n 1)
  where
    by : Dec (n ≤ 1) → leb n 1 ≡ ltb n 2
    by (yes l) = le-leb n 1 l ∙ sym (lt-ltb n 2 (omega arith))
    by (no l) = lt-leb n 1 (omega arith) ∙ sym (le-ltb n 2 (omega arith))

-- ---- the checks, each by its answer

module _ (h : Model.Sheet) (x : Shops.Slot) where
  pub checked_by : (a b : Bool) → sheet_ok h ≡ a → slot_ok h x ≡ b → first_of (check a bad_sheet ∷ check b bad_shop ∷ []) ≡ settings_checks h x
  checked_by a b p q = rw (p, q)

  pub both_passed : settings_checks h x ≡ 0 → (sheet_ok h ≡ true) × (slot_ok h x ≡ true)
  both_passed e =
      let p = first_passed (check (sheet_ok h) bad_sheet) (check (slot_ok h x) bad_shop ∷ []) e in
      (passed (sheet_ok h) 0 p.0, passed (slot_ok h x) 7 (first_passed (check (slot_ok h x) bad_shop) [] p.1).0)

  pub refused_as : (n : ℕ) → n ≡ settings_checks h x → (n ≡ 0 → ⊥) → record { answer = n; subjects = 0; listed = 0; hidden = 0 } ≡ settings_call h x
  unfolding settings_call
  refused_as n e z = by n e z
    where
      by : (n : ℕ) → n ≡ settings_checks h x → (n ≡ 0 → ⊥) → record { answer = n; subjects = 0; listed = 0; hidden = 0 } ≡ settings_as (settings_checks h x) h x
      by zero e z = absurd (z refl)
      by (suc n) e z = rw (← e)

-- ---- a slot that passed 1 and 8

pub item_none : (x : Slot) → x.item ≡ None → (slot_of x).item ≡ none
unfolding slot_of
item_none x e = rw e

pub item_some : (x : Slot) (w : ItemId) → x.item ≡ Some w → (slot_of x).item ≡ some w.0
unfolding slot_of
item_some x w e = rw e

no_subjects : (h : Model.Sheet) (x : Shops.Slot) → x.item ≡ none → length (subjects h x) ≡ 0
unfolding subjects
no_subjects h x e = rw e

module _ (h : Model.Sheet) (x : Slot) (zero_checks : settings_checks h (slot_of x) ≡ 0) where
  pub none_is : x.item ≡ None → record { answer = 0; subjects = 0; listed = 0; hidden = 1 } ≡ settings_call h (slot_of x)
  unfolding settings_call
  none_is e = rw (zero_checks, n.0, n.1, s)
    where
      i : (slot_of x).item ≡ none
      i = item_none x e

      n : (listed_count h (slot_of x) ≡ 0) × (hidden_count h (slot_of x) ≡ 1)
      n = none_listed h (slot_of x) i

      s : length (subjects h (slot_of x)) ≡ 0
      s = no_subjects h (slot_of x) i

module _ (h : Model.Sheet) (ok : sheet_ok h ≡ true) (x : Slot) (good : slot_ok h (slot_of x) ≡ true) (long : length x.requirements ≡ entry_limit) (w : ItemId) (e : x.item ≡ Some w) (one : Bool) (l : leb (limit_of h w.0 x.limit) 1 ≡ one)
    (own : ℕ) (o : own ≡ code_of (acquired_of h w.0)) where
  abbrev rs : List Requirement
  rs = (slot_of x).requirements

  new_are : count_codes one own [] (take x.len x.requirements) ≡ count_new (acquired_subjects h w.0 one) (map subject_of rs)
  new_are = rw (o, codes_are h ok x good long) (all_codes h w.0 one rs (own_narrow h ok x good w e) (slot_narrow x))

  rule_is : faithful_code one own (take x.len x.requirements) ≡ faithful_filled h w.0 one rs
  rule_is = rw (o, codes_are h ok x good long) (faithful_code_lem h w.0 one rs (own_narrow h ok x good w e) (slot_narrow x))

  found : Counts h (slot_of x) (acquired_filled h w.0 one) (count_new (acquired_subjects h w.0 one) (map subject_of rs)) (bit (faithful_filled h w.0 one rs))
  found = counts h (slot_of x) w.0 (item_some x w e) one (unfold slot_of in l)

  pub numbers_are : (k f : ℕ) (met : Bool) → k ≡ acquired_filled h w.0 one → f ≡ count_codes one own [] (take x.len x.requirements) → met ≡ faithful_code one own (take x.len x.requirements)
      → accepted_as (by_numbers k f (bit met)) ≡ settings_call h (slot_of x)
  unfolding settings_call
  numbers_are k f met p q r =
      let c = found in
      rw (ok, good, p, q ∙ new_are, r ∙ rule_is, c.subjects, c.listed, c.hidden)
