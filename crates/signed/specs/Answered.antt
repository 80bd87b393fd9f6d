-- What lk_check answers of a slot is so, by its promise alone: faithful exactly where the slot is, and where it is not a save under which what is read and what runs differ. Assumes nothing.
use Rattle.std.specs.Prelude.{◌≡◌, Bool, true, false, cond, leb, take}
use Rattle.std.proofs.Math.Path.{refl, ap, subst}
use Rattle.std.proofs.Common.{sym, ◌∙◌, true≢false, arith}
use Rattle.std.proofs.Math.Bool.{not}
use Rattle.std.proofs.Math.Option.{Option, none, some}
use mathlib.Core.List.{List, [], ◌∷◌, map}
use Prim.Native.Nat.{ℕ, zero, suc, ◌<◌}
use Rattle.std.proofs.Math.ListN.{get_or, length, length-map, get_or-map}
use borrow.Author.Tests.{not-true}
use Rattle.model.specs.Limits.{slot_count}
use Rattle.model.specs.Save.{Save}
use Rattle.model.specs.Sheet.{Sheet, all, sheet_refusal}
use Rattle.model.specs.Requirement.{Requirement, keep, member, negate_req, same_req, settled, sorted, is_have}
use Rattle.model.specs.Shop.{Slot, limit_of, shop_refusal, slot_ok, with_slots}
use Rattle.model.specs.Flags.{req_inside, slot_inside}
use Rattle.model.specs.Normal.{acquired_of, lone, normal}
use Rattle.model.proofs.Laws.Checks.{first_passed, passed}
use Rattle.model.proofs.Laws.Places.{any_default}
use Rattle.shop_codes.specs.Codes.{AllNarrow, code_of, requirement_of}
use Rattle.shop_codes.specs.Laws.{codes_stand}
use Rattle.shop.specs.Shapes.{no_slot, slot_of, slots_of}
use Rattle.shop.specs.Sets.{reqs_of}
use Rattle.shop.specs.SetLaws.{held_set}
use Rattle.shop.specs.Codes.{sorted_narrow}
use Rattle.shop.specs.Slots.{slot_narrow}
use Rattle.shop_arrays.specs.Arrays.{Arrays, shop_from, slot_at}
use Rattle.shop_arrays.specs.Slots.{slot_in_lem, slots_long}
use Rattle.signed_model.specs.Saves.{Faithful, witness}
use Rattle.signed_model.proofs.Rule.{left_of, normal_left}
use Rattle.signed_model.proofs.Witness.{Tells}
use Rattle.signed_model.proofs.Places.{First}
use Rattle.signed_model.specs.Findings as Told
use Rattle.signed_model.specs.Findings.{faithful, pair, own, outside, check_call, check_checks, checked_as, finding, settings_for, verdict}
use Rattle.signed_model.proofs.Told.{Concerned, Right, is_apart, is_outside, shown_by, told_right}
use Rattle.signed_check.specs.Answer.{Checked, Finding, checked_of, finding_of, no_finding, verdict_of}
use Rattle.signed_check.specs.Shops.{slot_passed, with_shop}
use Rattle.shop_codes.specs.Subjects.{keep_narrow}

-- the save that the codes are: these are had, and all else is 0
abbrev pub saved_by : Sheet → Finding → Save
saved_by h f = witness h (map requirement_of (take f.settings f.codes))

pub record Answered (h : Sheet) (x : Slot) (f : Finding) : Type 0 where
  -- 0 is said of a slot that is faithful and whose flags lie in the save, and of every such slot
  pub faithful_so : f.verdict ≡ 0 → Faithful h x × (slot_inside x ≡ true)
  pub so_faithful : slot_inside x ≡ true → Faithful h x → f.verdict ≡ 0
  -- 1 names the first entry that stands beside its negation
  pub pair_entry : f.verdict ≡ 1 → First (λ r. member (negate_req r) x.requirements) x.requirements f.entry
  pub pair_tells : f.verdict ≡ 1 → Tells h x (saved_by h f)
  -- 2 the first that is the Have of the acquired subject, its limit being 1
  pub own_entry : f.verdict ≡ 2 → (w : ℕ) → x.item ≡ some w → (leb (limit_of h w x.limit) 1 ≡ true) × First (same_req (acquired_of h w)) x.requirements f.entry
  pub own_tells : f.verdict ≡ 2 → Tells h x (saved_by h f)
  -- 3 the first whose flag lies outside the save, in every slot that has one
  pub outside_entry : f.verdict ≡ 3 → First (λ r. not (req_inside r)) x.requirements f.entry
  pub outside_so : f.verdict ≡ 3 → slot_inside x ≡ false
  pub so_outside : slot_inside x ≡ false → f.verdict ≡ 3

-- ---- by the number of the verdict

pub is_faithful_lem : (v : Told.Verdict) → (verdict_of v).verdict ≡ 0 → v ≡ faithful
is_faithful_lem faithful e = refl
is_faithful_lem (pair i) e = absurd (omega arith)
is_faithful_lem (own i) e = absurd (omega arith)
is_faithful_lem (outside i) e = absurd (omega arith)

is_outside_lem : (v : Told.Verdict) → is_outside v ≡ true → (verdict_of v).verdict ≡ 3
is_outside_lem faithful e = absurd (true≢false (sym e))
is_outside_lem (pair i) e = absurd (true≢false (sym e))
is_outside_lem (own i) e = absurd (true≢false (sym e))
is_outside_lem (outside i) e = refl

outside_is : (v : Told.Verdict) → (verdict_of v).verdict ≡ 3 → is_outside v ≡ true
outside_is faithful e = absurd (omega arith)
outside_is (pair i) e = absurd (omega arith)
outside_is (own i) e = absurd (omega arith)
outside_is (outside i) e = refl

is_pair : (v : Told.Verdict) → (verdict_of v).verdict ≡ 1 → (v ≡ pair (verdict_of v).entry) × (is_apart v ≡ true)
is_pair faithful e = absurd (omega arith)
is_pair (pair i) e = (refl, refl)
is_pair (own i) e = absurd (omega arith)
is_pair (outside i) e = absurd (omega arith)

is_own : (v : Told.Verdict) → (verdict_of v).verdict ≡ 2 → (v ≡ own (verdict_of v).entry) × (is_apart v ≡ true)
is_own faithful e = absurd (omega arith)
is_own (pair i) e = absurd (omega arith)
is_own (own i) e = (refl, refl)
is_own (outside i) e = absurd (omega arith)

at_outside : (v : Told.Verdict) → (verdict_of v).verdict ≡ 3 → v ≡ outside (verdict_of v).entry
at_outside faithful e = absurd (omega arith)
at_outside (pair i) e = absurd (omega arith)
at_outside (own i) e = absurd (omega arith)
at_outside (outside i) e = refl

-- ---- the codes stand for the settings

left_narrow : (h : Sheet) (w l : ℕ) (rs : List Requirement) → AllNarrow rs → AllNarrow (left_of h w l rs)
unfolding left_of settled
left_narrow h w l rs a = by (leb l 1)
  where
    by : (b : Bool) → AllNarrow (cond b (keep (lone (acquired_of h w) (sorted rs)) (sorted rs)) (settled (sorted rs)))
    by true = keep_narrow (lone (acquired_of h w) (sorted rs)) (sorted rs) (sorted_narrow rs a)
    by false = keep_narrow (λ r. not (member (negate_req r) (sorted rs))) (sorted rs) (sorted_narrow rs a)

normal_narrow : (h : Sheet) (x : Slot) → AllNarrow x.requirements → AllNarrow (normal h x).requirements
normal_narrow h x a = by x.item refl
  where
    by : (o : Option ℕ) → x.item ≡ o → AllNarrow (normal h x).requirements
    by none e = unfold normal in rw e tt
    by (some w) e = rw (normal_left h x w e) (left_narrow h w (limit_of h w x.limit) x.requirements a)

settings_narrow : (v : Told.Verdict) (qs : List Requirement) → AllNarrow qs → AllNarrow (settings_for v qs)
settings_narrow faithful qs a = tt
settings_narrow (pair i) qs a = keep_narrow is_have qs a
settings_narrow (own i) qs a = keep_narrow is_have qs a
settings_narrow (outside i) qs a = tt

-- an entry of settings as codes with zeros after them
codes_told : (qs : List Requirement) → AllNarrow qs → map requirement_of (take (length qs) (reqs_of (map code_of qs)).codes) ≡ qs
unfolding reqs_of
codes_told qs a = ap (λ n. map requirement_of (take n (reqs_of (map code_of qs)).codes)) (sym (length-map qs code_of)) ∙ ap (map requirement_of) (held_set (map code_of qs)) ∙ codes_stand qs a

module _ (h : Sheet) (x : Slot) (n : AllNarrow x.requirements) (ok : slot_ok h x ≡ true) where
  saved_is : saved_by h (finding_of (finding h x)) ≡ shown_by h x
  unfolding finding_of finding
  saved_is = ap (witness h) (codes_told (settings_for (verdict h x) (normal h x).requirements) (settings_narrow (verdict h x) (normal h x).requirements (normal_narrow h x n)))

  pub answered_slot : Answered h x (finding_of (finding h x))
  unfolding finding_of finding
  answered_slot = record {
    faithful_so = λ e. r.faithful_so (is_faithful_lem (verdict h x) e);
    so_faithful = λ i f. ap (λ v. (verdict_of v).verdict) (r.so_faithful i f);
    pair_entry = λ e. subst (Concerned h x) (is_pair (verdict h x) e).0 r.entry;
    pair_tells = λ e. rw saved_is (r.apart (is_pair (verdict h x) e).1);
    own_entry = λ e. subst (Concerned h x) (is_own (verdict h x) e).0 r.entry;
    own_tells = λ e. rw saved_is (r.apart (is_own (verdict h x) e).1);
    outside_entry = λ e. subst (Concerned h x) (at_outside (verdict h x) e) r.entry;
    outside_so = λ e. not-true _ (sym r.outside_so ∙ outside_is (verdict h x) e);
    so_outside = λ e. is_outside_lem (verdict h x) (r.outside_so ∙ ap not e);
  }
    where
      r : Right h x
      r = told_right h x ok

-- ---- an answer of lk_check that is no refusal

module _ (h : Sheet) (a : Arrays) where
  abbrev xs : List Slot
  xs = slots_of (shop_from a)

  none_refused : (n : ℕ) → (checked_of (checked_as n h xs)).refusal ≡ 0 → n ≡ 0
  unfolding checked_of
  none_refused zero e = refl
  none_refused (suc n) e = e

  module _ (c : Checked) (p : c ≡ checked_of (check_call h xs)) (acc : c.refusal ≡ 0) where
    zero_checks : check_checks h xs ≡ 0
    unfolding check_call
    zero_checks = none_refused (check_checks h xs) (sym (ap (λ (k : Checked). k.refusal) p) ∙ acc)

    pub both_passed : (sheet_refusal h ≡ 0) × (all (slot_ok h) xs ≡ true)
    both_passed =
        let q = first_passed (sheet_refusal h) (shop_refusal h xs ∷ []) zero_checks in
        (q.0, rw (with_shop h a) at (passed (all (slot_ok h) (with_slots xs)) 7 (first_passed (shop_refusal h xs) [] q.1).0))

    slots_are : c.slots ≡ map finding_of (map (finding h) xs)
    unfolding checked_of check_call
    slots_are = ap (λ (k : Checked). k.slots) p ∙ rw (zero_checks, with_shop h a)

    pub finding_at : (i : ℕ) → i < slot_count → get_or c.slots i no_finding ≡ finding_of (finding h (slot_of (slot_at a i)))
    unfolding slots_of
    finding_at i l =
        let ys = (shop_from a).slots in
        let d = finding h (slot_of no_slot) in
        let n : length (map finding_of (map (finding h) (map slot_of ys))) ≡ slot_count = length-map (map (finding h) (map slot_of ys)) finding_of ∙ length-map (map slot_of ys) (finding h) ∙ length-map ys slot_of ∙ slots_long a in
        ap (λ (zs : List Finding). get_or zs i no_finding) slots_are ∙ any_default (map finding_of (map (finding h) (map slot_of ys))) i no_finding (finding_of d) (omega (arith, n)) ∙ get_or-map finding_of (map (finding h) (map slot_of ys)) i d
        ∙ ap finding_of (get_or-map (finding h) (map slot_of ys) i (slot_of no_slot) ∙ ap (finding h) (get_or-map slot_of ys i no_slot ∙ ap slot_of (slot_in_lem a i no_slot l)))

    -- slot i of the arrays, and what is told of it
    pub answered : (i : ℕ) → i < slot_count → Answered h (slot_of (slot_at a i)) (get_or c.slots i no_finding)
    answered i l = rw (finding_at i l) (answered_slot h (slot_of (slot_at a i)) (slot_narrow (slot_at a i)) (slot_passed h a both_passed.1 i l))
