-- Where the rule says so the slot is faithful, under any save. Assumes nothing.
use Rattle.std.specs.Prelude.{◌≡◌, refl, Bool, true, false, cond, ◌&&◌, List, ℕ, leb}
use Rattle.std.proofs.Common.{sym, ap, ◌∙◌, true≢false}
use Rattle.std.proofs.Math.Bool.{not}
use Rattle.std.proofs.Math.Option.{Option, none, some}
use borrow.Author.Tests.{not-true}
use Rattle.model.specs.Save.{Save}
use Rattle.model.specs.Sheet.{Sheet}
use Rattle.model.specs.Requirement.{Requirement, negate_req, same_req, member, keep, settled, sorted}
use Rattle.model.specs.Shop.{Slot, timer_of, limit_of}
use Rattle.model.specs.Compile.{rate_of}
use Rattle.model.specs.Meaning.{acquired, all_hold, filled_meaning, holds, limit_meaning, meaning_of, unique_meaning}
use Rattle.model.specs.Normal.{acquired_of, filled_slot, lone, normal}
use Rattle.model.proofs.Laws.Checks.{and_left, and_right}
use Rattle.model.proofs.Laws.Runs.{same_req_true, rate_false}
use Rattle.model.proofs.Laws.Sets.{member_keep, same_refl, member_sorted}
use Rattle.faithful_model.specs.Faithful.{is_faithful, no_pair}
use Rattle.signed_model.specs.Saves.{Faithful}
use Rattle.faithful_model.specs.Lists.{all_member}
use Rattle.moves_model.proofs.Settles.{limit_again, limit_one}
use Rattle.signed_model.proofs.Holds.{holds_neg, hold_member, hold_of}
use Rattle.model.proofs.Laws.Normal.{both_ways_lem}

-- ---- what the normal form requires

-- the requirements that are left: those of the normal form of a slot with item w, coerced limit l and entries rs
unfoldable pub left_of : Sheet → ℕ → ℕ → List Requirement → List Requirement
left_of h w l rs = cond (leb l 1) (keep (lone (acquired_of h w) (sorted rs)) (sorted rs)) (settled (sorted rs))

-- what it means
pub normal_meaning : (h : Sheet) (s : Save) (x : Slot) (w : ℕ) → x.item ≡ some w
    → meaning_of h s (normal h x) ≡ filled_meaning h s w (limit_of h w x.limit) (all_hold s (left_of h w (limit_of h w x.limit) x.requirements))
unfolding meaning_of normal left_of
normal_meaning h s x w e = rw e (by (leb (limit_of h w x.limit) 1) refl)
  where
    qs : List Requirement
    qs = sorted x.requirements

    by : (b : Bool) → leb (limit_of h w x.limit) 1 ≡ b
        → meaning_of h s (cond b (filled_slot w 1 (keep (lone (acquired_of h w) qs) qs)) (filled_slot w (limit_of h w x.limit) (settled qs)))
        ≡ filled_meaning h s w (limit_of h w x.limit) (all_hold s (cond b (keep (lone (acquired_of h w) qs) qs) (settled qs)))
    by true p = rw (limit_one h w, p)
    by false p = rw (limit_again h w x.limit)

pub normal_left : (h : Sheet) (x : Slot) (w : ℕ) → x.item ≡ some w → (normal h x).requirements ≡ left_of h w (limit_of h w x.limit) x.requirements
unfolding normal left_of
normal_left h x w e = rw e (by (leb (limit_of h w x.limit) 1))
  where
    qs : List Requirement
    qs = sorted x.requirements

    by : (b : Bool) → (cond b (filled_slot w 1 (keep (lone (acquired_of h w) qs) qs)) (filled_slot w (limit_of h w x.limit) (settled qs))).requirements ≡ cond b (keep (lone (acquired_of h w) qs) qs) (settled qs)
    by true = refl
    by false = refl

pub slot_meaning : (h : Sheet) (s : Save) (x : Slot) (w : ℕ) → x.item ≡ some w → meaning_of h s x ≡ filled_meaning h s w (limit_of h w x.limit) (all_hold s x.requirements)
unfolding meaning_of
slot_meaning h s x w e = rw e

settled_member : (q : Requirement) (rs : List Requirement) → member q (settled (sorted rs)) ≡ not (member (negate_req q) rs) && member q rs
unfolding settled
settled_member q rs = member_keep (λ r. not (member (negate_req r) (sorted rs))) q (sorted rs) ∙ rw (member_sorted q rs, member_sorted (negate_req q) rs)

lone_member : (a q : Requirement) (rs : List Requirement) → member q (keep (lone a (sorted rs)) (sorted rs)) ≡ (not (member (negate_req q) rs) && (not (same_req q a) && not (same_req q (negate_req a)))) && member q rs
unfolding lone
lone_member a q rs = member_keep (lone a (sorted rs)) q (sorted rs) ∙ rw (member_sorted q rs, member_sorted (negate_req q) rs)

-- what is left was there, and not its negation
pub left_was : (h : Sheet) (w l : ℕ) (q : Requirement) (rs : List Requirement) → member q (left_of h w l rs) ≡ true → (member q rs ≡ true) × (member (negate_req q) rs ≡ false)
unfolding left_of
left_was h w l q rs = by (leb l 1)
  where
    by : (b : Bool) → member q (cond b (keep (lone (acquired_of h w) (sorted rs)) (sorted rs)) (settled (sorted rs))) ≡ true → (member q rs ≡ true) × (member (negate_req q) rs ≡ false)
    by true m =
        let e = sym (lone_member (acquired_of h w) q rs) ∙ m in
        (and_right (not (member (negate_req q) rs) && (not (same_req q (acquired_of h w)) && not (same_req q (negate_req (acquired_of h w))))) _ e, not-true _ (and_left (not (member (negate_req q) rs)) _ (and_left _ (member q rs) e)))
    by false m =
        let e = sym (settled_member q rs) ∙ m in
        (and_right (not (member (negate_req q) rs)) _ e, not-true _ (and_left (not (member (negate_req q) rs)) _ e))

-- at limit 1 the acquired test is not left
pub left_own : (h : Sheet) (w l : ℕ) (rs : List Requirement) → leb l 1 ≡ true → member (acquired_of h w) (left_of h w l rs) ≡ true → ⊥
unfolding left_of
left_own h w l rs p = rw p (λ m. by (same_req (acquired_of h w) (acquired_of h w)) (same_refl (acquired_of h w)) (and_left _ (member (acquired_of h w) rs) (sym (lone_member (acquired_of h w) (acquired_of h w) rs) ∙ m)))
  where
    by : (b : Bool) → b ≡ true → not (member (negate_req (acquired_of h w)) rs) && (not b && not (same_req (acquired_of h w) (negate_req (acquired_of h w)))) ≡ true → ⊥
    by true e f = true≢false (sym (and_right (not (member (negate_req (acquired_of h w)) rs)) false f))
    by false e f = true≢false (sym e)

-- ---- the rule gives the meaning

module _ (s : Save) (rs : List Requirement) (p : no_pair rs ≡ true) where
  alone : (r : Requirement) → member r rs ≡ true → member (negate_req r) rs ≡ false
  unfolding no_pair
  alone r m = not-true _ (all_member (λ q. not (member (negate_req q) rs)) r rs p m)

  settled_holds : all_hold s rs ≡ all_hold s (settled (sorted rs))
  settled_holds = both_ways_lem _ _
      (λ a. hold_of s (settled (sorted rs)) (λ r m. hold_member s r rs a (and_right (not (member (negate_req r) rs)) _ (sym (settled_member r rs) ∙ m))))
      (λ a. hold_of s rs (λ r m. hold_member s r (settled (sorted rs)) a (settled_member r rs ∙ rw (alone r m) m)))

  lone_holds : (a : Requirement) → member a rs ≡ false → holds s a ≡ false → all_hold s rs ≡ all_hold s (keep (lone a (sorted rs)) (sorted rs))
  lone_holds a out low = both_ways_lem _ _
      (λ t. hold_of s ks (λ r m. hold_member s r rs t (and_right (not (member (negate_req r) rs) && (not (same_req r a) && not (same_req r (negate_req a)))) _ (sym (lone_member a r rs) ∙ m))))
      (λ t. hold_of s rs (λ r m. each r m t (same_req r a) (same_req r (negate_req a)) refl refl))
    where
      ks : List Requirement
      ks = keep (lone a (sorted rs)) (sorted rs)

      each : (r : Requirement) → member r rs ≡ true → all_hold s ks ≡ true → (b c : Bool) → same_req r a ≡ b → same_req r (negate_req a) ≡ c → holds s r ≡ true
      each r m t true c e f = absurd (true≢false (sym m ∙ ap (λ q. member q rs) (same_req_true r a e) ∙ out))
      each r m t false true e f = ap (holds s) (same_req_true r (negate_req a) f) ∙ holds_neg s a ∙ ap not low
      each r m t false false e f = hold_member s r ks t (lone_member a r rs ∙ rw (alone r m, e, f) m)

unique_same : (h : Sheet) (s : Save) (w : ℕ) (rs : List Requirement) → no_pair rs ≡ true → member (acquired_of h w) rs ≡ false
    → unique_meaning h s w (acquired h s w) (all_hold s rs) ≡ unique_meaning h s w (acquired h s w) (all_hold s (keep (lone (acquired_of h w) (sorted rs)) (sorted rs)))
unique_same h s w rs p q = by (acquired h s w) refl
  where
    low : acquired h s w ≡ false → holds s (acquired_of h w) ≡ false
    low e = unfold acquired acquired_of in rate_false s (rate_of (timer_of h w)) _ e

    by : (b : Bool) → acquired h s w ≡ b → unique_meaning h s w b (all_hold s rs) ≡ unique_meaning h s w b (all_hold s (keep (lone (acquired_of h w) (sorted rs)) (sorted rs)))
    by true e = refl
    by false e = ap (unique_meaning h s w false) (lone_holds s rs p (acquired_of h w) q (low e))

filled_same : (h : Sheet) (s : Save) (w l : ℕ) (rs : List Requirement) → no_pair rs && not (leb l 1 && member (acquired_of h w) rs) ≡ true
    → filled_meaning h s w l (all_hold s rs) ≡ filled_meaning h s w l (all_hold s (left_of h w l rs))
unfolding left_of
filled_same h s w l rs f = by (leb l 1) (and_right (no_pair rs) _ f)
  where
    pairs : no_pair rs ≡ true
    pairs = and_left (no_pair rs) _ f

    qs : List Requirement
    qs = sorted rs

    by : (b : Bool) → not (b && member (acquired_of h w) rs) ≡ true
        → cond b (unique_meaning h s w (acquired h s w) (all_hold s rs)) (limit_meaning s w l (all_hold s rs))
        ≡ cond b (unique_meaning h s w (acquired h s w) (all_hold s (cond b (keep (lone (acquired_of h w) qs) qs) (settled qs)))) (limit_meaning s w l (all_hold s (cond b (keep (lone (acquired_of h w) qs) qs) (settled qs))))
    by true g = unique_same h s w rs pairs (not-true _ g)
    by false g = ap (limit_meaning s w l) (settled_holds s rs pairs)

none_same : (h : Sheet) (s : Save) (x : Slot) → x.item ≡ none → meaning_of h s x ≡ meaning_of h s (normal h x)
unfolding meaning_of normal
none_same h s x e = rw e

-- under every save, whether it fits or not
pub rule_same : (h : Sheet) (x : Slot) → is_faithful h x ≡ true → (s : Save) → meaning_of h s x ≡ meaning_of h s (normal h x)
unfolding is_faithful
rule_same h x f s = by x.item refl
  where
    by : (o : Option ℕ) → x.item ≡ o → meaning_of h s x ≡ meaning_of h s (normal h x)
    by none e = none_same h s x e
    by (some w) e = slot_meaning h s x w e ∙ filled_same h s w (limit_of h w x.limit) x.requirements (rw e at f) ∙ sym (normal_meaning h s x w e)

pub rule_faithful : (h : Sheet) (x : Slot) → is_faithful h x ≡ true → Faithful h x
rule_faithful h x f = record { same = λ s ok. rule_same h x f s }
