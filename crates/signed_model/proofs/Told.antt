-- What a verdict says is so, and it is said exactly where it is: faithful where the slot is, and otherwise a save that fits tells what is read from what runs. Assumes nothing.
use Rattle.std.specs.Prelude.{◌≡◌, Bool, true, false, cond, ◌&&◌, ◌||◌, List, [], ◌∷◌, ℕ, zero, suc, leb, pos}
use Rattle.std.proofs.Math.Path.{refl}
use Rattle.std.proofs.Common.{sym, ap, ◌∙◌, true≢false}
use Rattle.std.proofs.Math.Bool.{not}
use Rattle.std.proofs.Math.Option.{Option, none, some}
use Rattle.std.proofs.lemmas.Bool.{not-false}
use Rattle.model.specs.Limits.{flag_count}
use Rattle.model.specs.Save.{Save}
use Rattle.model.specs.Sheet.{Sheet, all, item_count}
use Rattle.model.specs.Requirement.{Requirement, haveItem, haveAtc, haveFlag, keep, member, negate_req, same_req, is_have}
use Rattle.model.specs.Shop.{Slot, limit_of, slot_ok}
use Rattle.model.specs.Flags.{inside_for, req_inside, slot_inside}
use Rattle.model.specs.Normal.{acquired_of, normal}
use Rattle.model.proofs.Laws.Checks.{and_left, and_right}
use Rattle.model.proofs.Laws.Sets.{member_keep}
use Rattle.faithful_model.specs.Faithful.{faithful_filled, faithful_for, is_faithful, no_pair}
use Rattle.signed_model.specs.Saves.{Faithful, bit, can_hold, table, witness, witness_for}
use Rattle.signed_model.proofs.Rule.{rule_faithful}
use Rattle.signed_model.proofs.Witness.{Tells, and-false, witness_tells}
use Rattle.signed_model.proofs.Exact.{faithful_rule, slot_can}
use Rattle.signed_model.proofs.Places.{First, is_none, not_some, place_all, place_first}
use Rattle.signed_model.specs.Findings.{Verdict, faithful, pair, own, outside, first_place, or_else, settings_for, verdict, verdict_filled, verdict_for}

-- ---- by the answers of the three questions

abbrev pub is_faithful_v : Verdict → Bool
is_faithful_v faithful = true
is_faithful_v (pair i) = false
is_faithful_v (own i) = false
is_faithful_v (outside i) = false

abbrev pub is_outside : Verdict → Bool
is_outside faithful = false
is_outside (pair i) = false
is_outside (own i) = false
is_outside (outside i) = true

three : (a b c : Option ℕ) → is_faithful_v (or_else a outside (or_else b pair (or_else c own faithful))) ≡ is_none a && (is_none b && is_none c)
three (some i) b c = refl
three none (some i) c = refl
three none none (some i) = refl
three none none none = refl

first_only : (a b c : Option ℕ) → is_outside (or_else a outside (or_else b pair (or_else c own faithful))) ≡ not (is_none a)
first_only (some i) b c = refl
first_only none (some i) c = refl
first_only none none (some i) = refl
first_only none none none = refl

all_not_not : (p : Requirement → Bool) (rs : List Requirement) → all (λ r. not (not (p r))) rs ≡ all p rs
all_not_not p [] = refl
all_not_not p (r ∷ rs) = by (p r) (all_not_not p rs)
  where
    by : (b : Bool) → all (λ q. not (not (p q))) rs ≡ all p rs → not (not b) && all (λ q. not (not (p q))) rs ≡ b && all p rs
    by true e = e
    by false e = refl

none_same : (a : Requirement) (rs : List Requirement) → all (λ r. not (same_req a r)) rs ≡ not (member a rs)
unfolding member
none_same a [] = refl
none_same a (r ∷ rs) = by (same_req a r) (none_same a rs)
  where
    by : (b : Bool) → all (λ q. not (same_req a q)) rs ≡ not (member a rs) → not b && all (λ q. not (same_req a q)) rs ≡ not (b || member a rs)
    by true e = refl
    by false e = e

module _ (h : Sheet) (w : ℕ) (one : Bool) (rs : List Requirement) where
  all_inside : is_none (first_place (λ r. not (req_inside r)) rs) ≡ all req_inside rs
  all_inside = place_all (λ r. not (req_inside r)) rs ∙ all_not_not req_inside rs

  pairs_none : is_none (first_place (λ r. member (negate_req r) rs) rs) ≡ no_pair rs
  unfolding no_pair
  pairs_none = place_all (λ r. member (negate_req r) rs) rs

  own_none : is_none (cond one (first_place (same_req (acquired_of h w)) rs) none) ≡ not (one && member (acquired_of h w) rs)
  own_none = by one
    where
      by : (b : Bool) → is_none (cond b (first_place (same_req (acquired_of h w)) rs) none) ≡ not (b && member (acquired_of h w) rs)
      by true = place_all (same_req (acquired_of h w)) rs ∙ none_same (acquired_of h w) rs
      by false = refl

  filled_is : is_faithful_v (verdict_filled h w one rs) ≡ all req_inside rs && faithful_filled h w one rs
  filled_is =
      three (first_place (λ r. not (req_inside r)) rs) (first_place (λ r. member (negate_req r) rs) rs) (cond one (first_place (same_req (acquired_of h w)) rs) none)
      ∙ rw (all_inside, pairs_none, own_none)

  filled_outside : is_outside (verdict_filled h w one rs) ≡ not (all req_inside rs)
  filled_outside =
      first_only (first_place (λ r. not (req_inside r)) rs) (first_place (λ r. member (negate_req r) rs) rs) (cond one (first_place (same_req (acquired_of h w)) rs) none)
      ∙ ap not all_inside

verdict_is : (h : Sheet) (x : Slot) → is_faithful_v (verdict h x) ≡ slot_inside x && is_faithful h x
unfolding verdict slot_inside is_faithful
verdict_is h x = by x.item
  where
    by : (o : Option ℕ) → is_faithful_v (verdict_for h o x.limit x.requirements) ≡ inside_for o x.requirements && faithful_for h o x.limit x.requirements
    by none = refl
    by (some w) = filled_is h w (leb (limit_of h w x.limit) 1) x.requirements

outside_is : (h : Sheet) (x : Slot) → is_outside (verdict h x) ≡ not (slot_inside x)
unfolding verdict slot_inside
outside_is h x = by x.item
  where
    by : (o : Option ℕ) → is_outside (verdict_for h o x.limit x.requirements) ≡ not (inside_for o x.requirements)
    by none = refl
    by (some w) = filled_outside h w (leb (limit_of h w x.limit) 1) x.requirements

-- ---- which entry

-- what is said of the entry at the place told
abbrev pub Concerned : Sheet → Slot → Verdict → Type 0
Concerned h x faithful = Unit {0}
Concerned h x (pair i) = First (λ r. member (negate_req r) x.requirements) x.requirements i
Concerned h x (own i) = (w : ℕ) → x.item ≡ some w → (leb (limit_of h w x.limit) 1 ≡ true) × First (same_req (acquired_of h w)) x.requirements i
Concerned h x (outside i) = First (λ r. not (req_inside r)) x.requirements i

module _ (h : Sheet) (x : Slot) where
  abbrev rs : List Requirement
  rs = x.requirements

  by_places : (a b c : Option ℕ) → ((i : ℕ) → a ≡ some i → Concerned h x (outside i)) → ((i : ℕ) → b ≡ some i → Concerned h x (pair i)) → ((i : ℕ) → c ≡ some i → Concerned h x (own i))
      → Concerned h x (or_else a outside (or_else b pair (or_else c own faithful)))
  by_places (some i) b c f g k = f i refl
  by_places none (some i) c f g k = g i refl
  by_places none none (some i) f g k = k i refl
  by_places none none none f g k = tt

  own_place : (w : ℕ) → x.item ≡ some w → (one : Bool) → leb (limit_of h w x.limit) 1 ≡ one → (i : ℕ) → cond one (first_place (same_req (acquired_of h w)) rs) none ≡ some i
      → (v : ℕ) → x.item ≡ some v → (leb (limit_of h v x.limit) 1 ≡ true) × First (same_req (acquired_of h v)) rs i
  own_place w e true l i p v q = let z : v ≡ w = cc in rw z ((l, place_first (same_req (acquired_of h w)) rs i p))
  own_place w e false l i p v q = not_some p

  pub concerned : Concerned h x (verdict h x)
  unfolding verdict
  concerned = by x.item refl
    where
      by : (o : Option ℕ) → x.item ≡ o → Concerned h x (verdict_for h o x.limit rs)
      by none e = tt
      by (some w) e =
          by_places (first_place (λ r. not (req_inside r)) rs) (first_place (λ r. member (negate_req r) rs) rs) (cond (leb (limit_of h w x.limit) 1) (first_place (same_req (acquired_of h w)) rs) none)
          (place_first (λ r. not (req_inside r)) rs) (place_first (λ r. member (negate_req r) rs) rs) (own_place w e (leb (limit_of h w x.limit) 1) refl)

-- ---- the save that shows it

table_same : {A : Type 0} (f g : ℕ → A) (n : ℕ) → ((i : ℕ) → f i ≡ g i) → table f n ≡ table g n
unfolding table
table_same f g zero e = refl
table_same f g (suc n) e = rw (e 0) (ap (λ l. g 0 ∷ l) (table_same (λ i. f (suc i)) (λ i. g (suc i)) n (λ i. e (suc i))))

-- it is told by the Haves alone
pub witness_haves : (h : Sheet) (qs : List Requirement) → witness h (keep is_have qs) ≡ witness h qs
unfolding witness
witness_haves h qs =
    rw (
      table_same (λ i. pos (bit (member (haveItem i) (keep is_have qs)))) (λ i. pos (bit (member (haveItem i) qs))) (item_count h) (λ i. ap (λ b. pos (bit b)) (member_keep is_have (haveItem i) qs)),
      table_same (λ a. bit (member (haveAtc a) (keep is_have qs))) (λ a. bit (member (haveAtc a) qs)) h.atc_count (λ a. ap bit (member_keep is_have (haveAtc a) qs)),
      table_same (λ f. bit (member (haveFlag (pos f)) (keep is_have qs))) (λ f. bit (member (haveFlag (pos f)) qs)) flag_count (λ f. ap bit (member_keep is_have (haveFlag (pos f)) qs)),
    )

-- ---- a slot that passed 8

-- what is read and what runs differ
abbrev pub is_apart : Verdict → Bool
is_apart faithful = false
is_apart (pair i) = true
is_apart (own i) = true
is_apart (outside i) = false

-- the save that the settings are
abbrev pub shown_by : Sheet → Slot → Save
shown_by h x = witness h (settings_for (verdict h x) (normal h x).requirements)

pub record Right (h : Sheet) (x : Slot) : Type 0 where
  -- faithful is said of a slot that is and whose flags lie in the save, and of every such slot
  pub faithful_so : verdict h x ≡ faithful → Faithful h x × (slot_inside x ≡ true)
  pub so_faithful : slot_inside x ≡ true → Faithful h x → verdict h x ≡ faithful
  -- a flag outside is said of all others
  pub outside_so : is_outside (verdict h x) ≡ not (slot_inside x)
  -- in the rest what is read and what runs differ under the save of the settings
  pub apart : is_apart (verdict h x) ≡ true → Tells h x (shown_by h x)
  -- by reason of the entry at the place told
  pub entry : Concerned h x (verdict h x)

is_faithful_lem : (v : Verdict) → is_faithful_v v ≡ true → v ≡ faithful
is_faithful_lem faithful e = refl
is_faithful_lem (pair i) e = absurd (true≢false (sym e))
is_faithful_lem (own i) e = absurd (true≢false (sym e))
is_faithful_lem (outside i) e = absurd (true≢false (sym e))

apart_not : (v : Verdict) → is_apart v ≡ true → (is_faithful_v v ≡ false) × (is_outside v ≡ false)
apart_not faithful e = absurd (true≢false (sym e))
apart_not (pair i) e = (refl, refl)
apart_not (own i) e = (refl, refl)
apart_not (outside i) e = absurd (true≢false (sym e))

apart_settings : (v : Verdict) (qs : List Requirement) → is_apart v ≡ true → settings_for v qs ≡ keep is_have qs
apart_settings faithful qs e = absurd (true≢false (sym e))
apart_settings (pair i) qs e = refl
apart_settings (own i) qs e = refl
apart_settings (outside i) qs e = absurd (true≢false (sym e))

left_tells : (h : Sheet) (x : Slot) → is_faithful h x ≡ false → all (can_hold h) (normal h x).requirements ≡ true → Tells h x (witness h (normal h x).requirements)
unfolding witness_for
left_tells h x r can = witness_tells h x r can

-- faithful is said by the rule
pub told_rule : (h : Sheet) (x : Slot) → verdict h x ≡ faithful → (slot_inside x ≡ true) × (is_faithful h x ≡ true)
told_rule h x e = let b = sym (verdict_is h x) ∙ ap is_faithful_v e in (and_left (slot_inside x) _ b, and_right (slot_inside x) _ b)

pub told_right : (h : Sheet) (x : Slot) → slot_ok h x ≡ true → Right h x
told_right h x ok = record {
  faithful_so = λ e. let b = told_rule h x e in (rule_faithful h x b.1, b.0);
  so_faithful = λ i f. is_faithful_lem (verdict h x) (verdict_is h x ∙ rw (i, faithful_rule h x ok i f));
  outside_so = outside_is h x;
  apart = shows;
  entry = concerned h x;
}
  where
    shows : is_apart (verdict h x) ≡ true → Tells h x (shown_by h x)
    shows e =
        let n = apart_not (verdict h x) e in
        let i : slot_inside x ≡ true = not-false _ (sym (outside_is h x) ∙ n.1) in
        let r : is_faithful h x ≡ false = and-false (slot_inside x) _ (sym (verdict_is h x) ∙ n.0) i in
        rw (apart_settings (verdict h x) (normal h x).requirements e, witness_haves h (normal h x).requirements) (left_tells h x r (slot_can h x ok i))
