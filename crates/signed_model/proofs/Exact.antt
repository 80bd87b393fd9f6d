-- The rule is exact: where all flags lie in 0 to 2,047 it says faithful exactly where the slot is, and with one clause more for every slot. Assumes nothing.
use Rattle.std.specs.Prelude.{◌≡◌, refl, Bool, not, ◌||◌, ℕ, leb, length, pos, negsuc}
use Rattle.std.proofs.Math.Path.{sym, ap}
use Rattle.std.proofs.Common.{◌∙◌, true≢false, arith, ltb-false}
use Rattle.std.proofs.Math.Bool.{true, false}
use Rattle.std.proofs.Math.Option.{Option, none, some}
use Rattle.std.proofs.Math.ListN.{get_or-eq_default}
use Rattle.model.specs.Limits.{entry_limit, flag_count}
use Rattle.model.specs.Signed.{is_zero}
use Rattle.model.specs.Save.{Save}
use Rattle.model.specs.Flags.{req_inside, slot_inside}
use Rattle.model.specs.Sheet.{Sheet, all, item_count, save_ok}
use Rattle.model.specs.Requirement.{Requirement, haveItem, missingItem, haveAtc, missingAtc, haveFlag, missingFlag}
use Rattle.model.specs.Shop.{Slot, item_known, limit_of, req_known, slot_ok}
use Rattle.model.specs.Meaning.{all_hold, filled_meaning, holds, meaning_of}
use Rattle.model.specs.Normal.{normal}
use Rattle.model.proofs.Laws.Checks.{and_right}
use Rattle.model.proofs.Laws.Saves.{Kept, save_kept}
use Rattle.model.specs.Refusal.{check, bad_save}
use Rattle.faithful_model.specs.Faithful.{is_faithful}
use Rattle.signed_model.specs.Saves.{Faithful, can_hold, witness_for}
use Rattle.faithful_model.specs.Lists.{all_member, all_of}
use Rattle.signed_model.proofs.Holds.{find, hold_fails}
use Rattle.signed_model.proofs.Rule.{left_was, left_of, normal_left, normal_meaning, rule_faithful, slot_meaning}
use Rattle.signed_model.proofs.Witness.{tells_apart, witness_tells}

-- the rule without a premise: the clause on the right says that the normal form too asks for what no save that fits has
unfoldable pub is_same : Sheet → Slot → Bool
is_same h x = is_faithful h x || not (all (can_hold h) (normal h x).requirements)

-- ---- what no save that fits has never holds

cannot : (h : Sheet) (s : Save) → Kept h s → (r : Requirement) → can_hold h r ≡ false → holds s r ≡ false
unfolding holds
cannot h s l (haveItem i) c = ap (λ z. not (is_zero z)) (get_or-eq_default s.items (pos 0) (omega (arith, l.items_long, ltb-false i (item_count h) c)))
cannot h s l (missingItem i) c = absurd (true≢false c)
cannot h s l (haveAtc a) c = ap (λ z. not (is_zero (pos z))) (get_or-eq_default s.atcs 0 (omega (arith, l.atcs_long, ltb-false a h.atc_count c)))
cannot h s l (missingAtc a) c = absurd (true≢false c)
cannot h s l (haveFlag (pos f)) c = ap (λ z. not (is_zero (pos z))) (get_or-eq_default s.flags 0 (omega (arith, l.flags_long, ltb-false f flag_count c)))
cannot h s l (haveFlag (negsuc f)) c = refl
cannot h s l (missingFlag f) c = absurd (true≢false c)

-- both ask for it, so both fail
blind_same : (h : Sheet) (x : Slot) → all (can_hold h) (normal h x).requirements ≡ false → (s : Save) → save_ok h s ≡ true → meaning_of h s x ≡ meaning_of h s (normal h x)
blind_same h x c s ok = by x.item refl
  where
    by : (o : Option ℕ) → x.item ≡ o → meaning_of h s x ≡ meaning_of h s (normal h x)
    by none e = absurd (true≢false (unfold normal in rw e at c))
    by (some w) e =
        let qs = left_of h w (limit_of h w x.limit) x.requirements in
        let f = find (can_hold h) qs (rw (normal_left h x w e) at c) in
        let low = cannot h s (save_kept h s (ap (λ b. check b bad_save) ok)) f.which f.fails in
        let a : all_hold s x.requirements ≡ false = hold_fails s f.which x.requirements (left_was h w (limit_of h w x.limit) f.which x.requirements f.inside).0 low in
        let b : all_hold s qs ≡ false = hold_fails s f.which qs f.inside low in
        slot_meaning h s x w e ∙ ap (filled_meaning h s w (limit_of h w x.limit)) (a ∙ sym b) ∙ sym (normal_meaning h s x w e)

-- ---- for every sheet and slot, checked or not

pub same_faithful : (h : Sheet) (x : Slot) → is_same h x ≡ true → Faithful h x
unfolding is_same
same_faithful h x f = by (is_faithful h x) (all (can_hold h) (normal h x).requirements) refl refl f
  where
    by : (a c : Bool) → is_faithful h x ≡ a → all (can_hold h) (normal h x).requirements ≡ c → a || not c ≡ true → Faithful h x
    by true c p q e = rule_faithful h x p
    by false true p q e = absurd (true≢false (sym e))
    by false false p q e = record { same = blind_same h x q }

pub faithful_same : (h : Sheet) (x : Slot) → Faithful h x → is_same h x ≡ true
unfolding is_same
faithful_same h x f = by (is_faithful h x) (all (can_hold h) (normal h x).requirements) refl refl
  where
    by : (a c : Bool) → is_faithful h x ≡ a → all (can_hold h) (normal h x).requirements ≡ c → a || not c ≡ true
    by true c p q = refl
    by false true p q =
        let t = witness_tells h x p q in
        absurd (tells_apart h x (witness_for h x) t (ap (λ m. m.item) (f.same (witness_for h x) t.fits)))
    by false false p q = refl

-- ---- ids on the sheet and flags within the save

known_can : (h : Sheet) (r : Requirement) → req_known h r ≡ true → req_inside r ≡ true → can_hold h r ≡ true
known_can h (haveItem i) k f = k
known_can h (missingItem i) k f = refl
known_can h (haveAtc a) k f = k
known_can h (missingAtc a) k f = refl
known_can h (haveFlag z) k f = f
known_can h (missingFlag z) k f = refl

pub slot_can : (h : Sheet) (x : Slot) → slot_ok h x ≡ true → slot_inside x ≡ true → all (can_hold h) (normal h x).requirements ≡ true
slot_can h x ok fs = by x.item refl
  where
    known : all (req_known h) x.requirements ≡ true
    known = and_right (leb (length x.requirements) entry_limit) _ (and_right (item_known h x.item) _ ok)

    by : (o : Option ℕ) → x.item ≡ o → all (can_hold h) (normal h x).requirements ≡ true
    by none e = unfold normal in rw e
    by (some w) e =
        let rs = x.requirements in
        let f : all req_inside rs ≡ true = unfold slot_inside in rw e at fs in
        rw (normal_left h x w e) (all_of (can_hold h) (left_of h w (limit_of h w x.limit) rs)
        (λ r m. let n = (left_was h w (limit_of h w x.limit) r rs m).0 in known_can h r (all_member (req_known h) r rs known n) (all_member req_inside r rs f n)))

-- a slot that passed 8 and whose flags lie in the save is faithful only where the rule says so
pub faithful_rule : (h : Sheet) (x : Slot) → slot_ok h x ≡ true → slot_inside x ≡ true → Faithful h x → is_faithful h x ≡ true
faithful_rule h x ok fs f = by (is_faithful h x) refl
  where
    by : (b : Bool) → is_faithful h x ≡ b → b ≡ true
    by true p = refl
    by false p =
        let t = witness_tells h x p (slot_can h x ok fs) in
        absurd (tells_apart h x (witness_for h x) t (ap (λ m. m.item) (f.same (witness_for h x) t.fits)))
