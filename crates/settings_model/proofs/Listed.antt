-- The combination that a save gives is listed exactly where the slot's meaning under the save has the item. Assumes nothing.
use Rattle.std.specs.Prelude.{◌≡◌, Bool, false, cond, ◌||◌, ℕ, leb, length, pos, negsuc}
use Rattle.std.proofs.Math.Path.{refl, ap}
use Rattle.std.proofs.Common.{sym, ◌∙◌, true≢false}
use Rattle.std.proofs.Math.Bool.{true, not-not}
use Rattle.std.proofs.Math.Option.{Option, none, some}
use mathlib.Core.List.{List, [], ◌∷◌, ◌++◌, map}
use Rattle.std.proofs.lemmas.List.{length-map}
use Rattle.model.specs.Signed.{is_zero}
use Rattle.model.specs.Save.{Save, nat_at}
use Rattle.model.specs.Sheet.{Sheet, all, atc_for}
use Rattle.model.specs.Requirement.{Requirement, haveItem, missingItem, haveAtc, missingAtc, haveFlag, missingFlag, member, same_req, is_have}
use Rattle.model.specs.Shop.{Slot, limit_of, timer_of}
use Rattle.model.specs.Compile.{acquired_req, rate_of}
use Rattle.model.specs.Meaning.{acquired, all_hold, at_rate, held, holds, limit_meaning, meaning_of, unique_meaning}
use Rattle.model.specs.Normal.{acquired_of}
use Rattle.model.proofs.Laws.Sets.{same_refl}
use Rattle.model.proofs.Laws.Bools.{or_right}
use Rattle.settings_model.specs.Settings.{Subject, rate_is, agree, answer_in, distinct, listed_by, listed_filled, listed_for, listed_with, meets, member_s, or_rate, rates, same_subject, says, setting_of, subject_of, subjects, subjects_filled, subjects_for}
use Rattle.settings_model.proofs.Subjects.{distinct_member, subject_in, subject_own, subject_true}

-- ---- by the save itself

meets_holds : (s : Save) (r : Requirement) → meets (says s) r ≡ holds s r
unfolding meets says holds
meets_holds s (haveItem i) = refl
meets_holds s (missingItem i) = not-not (is_zero (held s i))
meets_holds s (haveAtc a) = refl
meets_holds s (missingAtc a) = not-not (is_zero (nat_at s.atcs (pos a)))
meets_holds s (haveFlag f) = refl
meets_holds s (missingFlag f) = not-not (is_zero (nat_at s.flags f))

all_holds : (s : Save) (rs : List Requirement) → all (meets (says s)) rs ≡ all_hold s rs
unfolding all_hold
all_holds s [] = refl
all_holds s (r ∷ rs) = rw (meets_holds s r, all_holds s rs)

acquired_says : (h : Sheet) (s : Save) (w : ℕ) → or_rate (says s) (rate_of (timer_of h w)) (meets (says s) (acquired_of h w)) ≡ acquired h s w
unfolding acquired acquired_of
acquired_says h s w = rw (meets_holds s (acquired_req (atc_for h w) w)) (by (rate_of (timer_of h w)) (holds s (acquired_req (atc_for h w) w)))
  where
    by : (o : Option ℕ) (b : Bool) → or_rate (says s) o b ≡ at_rate s o b
    by none b = refl
    by (some r) b = unfold says in refl

unique_item : (h : Sheet) (s : Save) (w : ℕ) (a r : Bool) → (unique_meaning h s w a r).item ≡ cond (a || r) (pos w) (negsuc 0)
unique_item h s w true r = refl
unique_item h s w false true = refl
unique_item h s w false false = refl

limit_item : (s : Save) (w l : ℕ) (r : Bool) → (limit_meaning s w l r).item ≡ cond r (pos w) (negsuc 0)
limit_item s w l true = refl
limit_item s w l false = refl

with_says : (h : Sheet) (s : Save) (x : Slot) (w : ℕ) → x.item ≡ some w → (meaning_of h s x).item ≡ cond (listed_with h x (says s)) (pos w) (negsuc 0)
unfolding meaning_of listed_with
with_says h s x w e = rw e (by (leb (limit_of h w x.limit) 1))
  where
    rs : List Requirement
    rs = x.requirements

    by : (b : Bool) → (cond b (unique_meaning h s w (acquired h s w) (all_hold s rs)) (limit_meaning s w (limit_of h w x.limit) (all_hold s rs))).item ≡ cond (listed_filled h w b rs (says s)) (pos w) (negsuc 0)
    by true = unique_item h s w (acquired h s w) (all_hold s rs) ∙ rw (acquired_says h s w, all_holds s rs)
    by false = limit_item s w (limit_of h w x.limit) (all_hold s rs) ∙ rw (all_holds s rs)

-- ---- only the answers to the subjects count

pub look_up : (y : Subject → Bool) (u : Subject) (us : List Subject) → member_s u us ≡ true → answer_in us (map y us) u ≡ y u
unfolding answer_in member_s
look_up y u [] m = absurd (true≢false (sym m))
look_up y u (v ∷ vs) m = by (same_subject u v) refl m (look_up y u vs)
  where
    by : (b : Bool) → same_subject u v ≡ b → b || member_s u vs ≡ true → (member_s u vs ≡ true → answer_in vs (map y vs) u ≡ y u) → cond b (y v) (answer_in vs (map y vs) u) ≡ y u
    by true e m ih = ap y (sym (subject_true u v e))
    by false e m ih = ih m

module _ (y : Subject → Bool) (us : List Subject) where
  meets_look : (r : Requirement) → member_s (subject_of r) us ≡ true → meets (answer_in us (map y us)) r ≡ meets y r
  unfolding meets
  meets_look r m = ap (agree (is_have r)) (look_up y (subject_of r) us m)

  all_look : (rs : List Requirement) → ((r : Requirement) → member r rs ≡ true → member_s (subject_of r) us ≡ true) → all (meets (answer_in us (map y us))) rs ≡ all (meets y) rs
  unfolding member
  all_look [] f = refl
  all_look (r ∷ rs) f = rw (meets_look r (f r (rw (same_refl r))), all_look rs (λ q m. f q (or_right (same_req q r) _ m)))

filled_look : (h : Sheet) (w : ℕ) (one : Bool) (rs : List Requirement) (y : Subject → Bool)
    → listed_filled h w one rs (answer_in (subjects_filled h w one rs) (map y (subjects_filled h w one rs))) ≡ listed_filled h w one rs y
filled_look h w false rs y = all_look y (distinct (map subject_of rs)) rs (λ r m. distinct_member (subject_of r) (map subject_of rs) ∙ subject_in r rs m)
filled_look h w true rs y = by (rate_of (timer_of h w))
  where
    a : Requirement
    a = acquired_of h w

    by : (o : Option ℕ) → or_rate (answer_in (distinct (rates o ++ subject_of a ∷ map subject_of rs)) (map y (distinct (rates o ++ subject_of a ∷ map subject_of rs)))) o (meets (answer_in (distinct (rates o ++ subject_of a ∷ map subject_of rs)) (map y (distinct (rates o ++ subject_of a ∷ map subject_of rs)))) a) || all (meets (answer_in (distinct (rates o ++ subject_of a ∷ map subject_of rs)) (map y (distinct (rates o ++ subject_of a ∷ map subject_of rs))))) rs
        ≡ or_rate y o (meets y a) || all (meets y) rs
    by none =
        let us = subject_of a ∷ map subject_of rs in
        rw (
          meets_look y (distinct us) a (distinct_member (subject_of a) us ∙ unfold member_s in rw (subject_own (subject_of a))),
          all_look y (distinct us) rs (λ r m. distinct_member (subject_of r) us ∙ unfold member_s in or_right (same_subject (subject_of r) (subject_of a)) _ (subject_in r rs m)),
        )
    by (some q) =
        let us = rate_is q ∷ subject_of a ∷ map subject_of rs in
        rw (
          meets_look y (distinct us) a (distinct_member (subject_of a) us ∙ unfold member_s in rw (subject_own (subject_of a)) (or_right (same_subject (subject_of a) (rate_is q)) true refl)),
          all_look y (distinct us) rs (λ r m. distinct_member (subject_of r) us ∙ unfold member_s in or_right (same_subject (subject_of r) (rate_is q)) _ (or_right (same_subject (subject_of r) (subject_of a)) _ (subject_in r rs m))),
          look_up y (rate_is q) (distinct us) (distinct_member (rate_is q) us ∙ unfold member_s in rw (subject_own (rate_is q))),
        )

pub only_subjects : (h : Sheet) (x : Slot) (y : Subject → Bool) → listed_by h x (map y (subjects h x)) ≡ listed_with h x y
unfolding listed_by listed_with subjects
only_subjects h x y = by x.item
  where
    by : (o : Option ℕ) → listed_for h o x.limit x.requirements (answer_in (subjects_for h o x.limit x.requirements) (map y (subjects_for h o x.limit x.requirements))) ≡ listed_for h o x.limit x.requirements y
    by none = refl
    by (some w) = filled_look h w (leb (limit_of h w x.limit) 1) x.requirements y

-- ---- the tie, under any save: listed, its item variable gets the item; hidden, -1

pub listed_item : (h : Sheet) (s : Save) (x : Slot) (w : ℕ) → x.item ≡ some w → (meaning_of h s x).item ≡ cond (listed_by h x (setting_of h x s)) (pos w) (negsuc 0)
listed_item h s x w e = with_says h s x w e ∙ ap (λ b. cond b (pos w) (negsuc 0)) (sym (only_subjects h x (says s)))

pub setting_long : (h : Sheet) (x : Slot) (s : Save) → length (setting_of h x s) ≡ length (subjects h x)
setting_long h x s = length-map (subjects h x) (says s)
