-- Subjects: no repeats, which are there, and how many. Assumes nothing.
use Rattle.std.specs.Prelude.{◌≡◌, refl, Bool, true, false, not, cond, ◌&&◌, ◌||◌, List, [], ◌∷◌, ◌++◌, map, ℕ, zero, suc, ◌+◌, ◌≤◌, leb, eqb, length, ℤ, pos, negsuc}
use Rattle.std.proofs.Common.{sym, ap, ◌∙◌, true≢false, arith, eqb-true, eq-eqb}
use Rattle.std.proofs.Math.Bool.{and-false}
use Rattle.std.proofs.Math.Option.{Option, none, some}
use Rattle.std.proofs.lemmas.List.{length-map}
use Rattle.model.specs.Sheet.{Sheet}
use Rattle.model.specs.Requirement.{Requirement, haveItem, missingItem, haveAtc, missingAtc, haveFlag, missingFlag, negate_req, same_req, member, is_have}
use Rattle.model.specs.Shop.{Slot, limit_of, timer_of}
use Rattle.model.specs.Compile.{rate_of}
use Rattle.model.specs.Normal.{acquired_of}
use Rattle.model.proofs.Laws.Checks.{and_left, and_right}
use Rattle.model.proofs.Laws.Runs.{same_req_true, eq_z_true}
use Rattle.model.proofs.Laws.Sets.{same_refl, eq_z_refl}
use Rattle.model.proofs.Laws.Bools.{or_cases, or_right, never_true}
use Rattle.settings_model.specs.Settings.{Subject, heldItem, heldAtc, set_flag, rate_is, distinct, mark, member_s, rates, same_subject, sort, subject_of, subjects, subjects_for, subjects_filled, without}

-- ---- one subject

size : ℤ → ℕ
size (pos n) = n
size (negsuc n) = n

back : ℕ → ℤ → Subject
back zero z = heldItem (size z)
back (suc zero) z = heldAtc (size z)
back (suc (suc zero)) z = set_flag z
back (suc (suc (suc n))) z = rate_is (size z)

back_is : (u : Subject) → back (sort u) (mark u) ≡ u
unfolding back size
back_is (heldItem i) = refl
back_is (heldAtc a) = refl
back_is (set_flag f) = refl
back_is (rate_is r) = refl

pub subject_true : (a b : Subject) → same_subject a b ≡ true → a ≡ b
unfolding same_subject
subject_true a b e =
    let k : sort a ≡ sort b = eqb-true (sort a) (sort b) (and_left _ _ e) in
    let z : mark a ≡ mark b = eq_z_true (mark a) (mark b) (and_right (eqb (sort a) (sort b)) _ e) in
    sym (back_is a) ∙ rw (k, z) (back_is b)

pub subject_own : (a : Subject) → same_subject a a ≡ true
unfolding same_subject
subject_own a = rw (eq-eqb (sort a) (sort a) refl, eq_z_refl (mark a))

pub differs_sym : (a b : Subject) → same_subject a b ≡ false → same_subject b a ≡ false
differs_sym a b e = never_true _ (λ t. true≢false (sym (subject_own a) ∙ ap (λ c. same_subject a c) (sym (subject_true b a t)) ∙ e))

-- no requirement's subject is a rate
pub no_rate : (q : Requirement) (r : ℕ) → same_subject (subject_of q) (rate_is r) ≡ false
unfolding same_subject
no_rate (haveItem i) r = refl
no_rate (missingItem i) r = refl
no_rate (haveAtc a) r = refl
no_rate (missingAtc a) r = refl
no_rate (haveFlag f) r = refl
no_rate (missingFlag f) r = refl

-- ---- a requirement by its subject and what it wants

pub req_of : Subject → Bool → Requirement
req_of (heldItem i) true = haveItem i
req_of (heldItem i) false = missingItem i
req_of (heldAtc a) true = haveAtc a
req_of (heldAtc a) false = missingAtc a
req_of (set_flag f) true = haveFlag f
req_of (set_flag f) false = missingFlag f
req_of (rate_is r) b = haveItem r

pub req_own : (r : Requirement) → req_of (subject_of r) (is_have r) ≡ r
unfolding req_of
req_own (haveItem i) = refl
req_own (missingItem i) = refl
req_own (haveAtc i) = refl
req_own (missingAtc i) = refl
req_own (haveFlag f) = refl
req_own (missingFlag f) = refl

pub req_other : (r : Requirement) → req_of (subject_of r) (not (is_have r)) ≡ negate_req r
unfolding req_of
req_other (haveItem i) = refl
req_other (missingItem i) = refl
req_other (haveAtc i) = refl
req_other (missingAtc i) = refl
req_other (haveFlag f) = refl
req_other (missingFlag f) = refl

pub subject_neg : (r : Requirement) → subject_of (negate_req r) ≡ subject_of r
subject_neg (haveItem i) = refl
subject_neg (missingItem i) = refl
subject_neg (haveAtc i) = refl
subject_neg (missingAtc i) = refl
subject_neg (haveFlag f) = refl
subject_neg (missingFlag f) = refl

-- ---- no repeats

abbrev pub Apart : List Subject → Type 0
Apart [] = Unit {0}
Apart (u ∷ us) = (member_s u us ≡ false) × Apart us

pub member_without : (v u : Subject) (us : List Subject) → member_s v (without u us) ≡ not (same_subject v u) && member_s v us
unfolding member_s without
member_without v u [] = sym (and-false (not (same_subject v u)))
member_without v u (x ∷ xs) = by (same_subject x u) (same_subject v x) refl refl (member_without v u xs)
  where
    by : (c e : Bool) → same_subject x u ≡ c → same_subject v x ≡ e → member_s v (without u xs) ≡ not (same_subject v u) && member_s v xs
        → member_s v (cond c (without u xs) (x ∷ without u xs)) ≡ not (same_subject v u) && (e || member_s v xs)
    by true true p q ih = let z : v ≡ x = subject_true v x q in let w : same_subject v u ≡ true = ap (λ y. same_subject y u) z ∙ p in ih ∙ rw w
    by true false p q ih = ih
    by false true p q ih = let z : v ≡ x = subject_true v x q in let w : same_subject v u ≡ false = ap (λ y. same_subject y u) z ∙ p in rw (q, w)
    by false false p q ih = rw q ih

apart_without : (u : Subject) (us : List Subject) → Apart us → Apart (without u us)
unfolding without
apart_without u [] a = tt
apart_without u (x ∷ xs) a = by (same_subject x u) (apart_without u xs a.1)
  where
    by : (c : Bool) → Apart (without u xs) → Apart (cond c (without u xs) (x ∷ without u xs))
    by true ih = ih
    by false ih = (never_true _ (λ t. true≢false (sym (and_right (not (same_subject x u)) _ (sym (member_without x u xs) ∙ t)) ∙ a.0)), ih)

pub distinct_apart : (us : List Subject) → Apart (distinct us)
unfolding distinct
distinct_apart [] = tt
distinct_apart (u ∷ us) =
    (member_without u u (distinct us) ∙ rw (subject_own u), apart_without u (distinct us) (distinct_apart us))

pub distinct_member : (v : Subject) (us : List Subject) → member_s v (distinct us) ≡ member_s v us
unfolding distinct member_s
distinct_member v [] = refl
distinct_member v (u ∷ us) = rw (member_without v u (distinct us), distinct_member v us) (by (same_subject v u) (member_s v us))
  where
    by : (a b : Bool) → a || (not a && b) ≡ a || b
    by true b = refl
    by false b = refl

without_length : (u : Subject) (us : List Subject) → length (without u us) ≤ length us
unfolding without
without_length u [] = omega arith
without_length u (x ∷ xs) = by (same_subject x u) (without_length u xs)
  where
    by : (c : Bool) → length (without u xs) ≤ length xs → length (cond c (without u xs) (x ∷ without u xs)) ≤ suc (length xs)
    by true ih = omega arith
    by false ih = omega arith

pub distinct_length : (us : List Subject) → length (distinct us) ≤ length us
unfolding distinct
distinct_length [] = omega arith
distinct_length (u ∷ us) = omega (arith, without_length u (distinct us), distinct_length us)

-- ---- of a slot

-- at most two more than its entries: 16 since A.1
pub subjects_few : (h : Sheet) (x : Slot) → length (subjects h x) ≤ length x.requirements + 2
unfolding subjects
subjects_few h x = by x.item
  where
    rs : List Requirement
    rs = x.requirements

    with_rate_lem : (w : ℕ) (o : Option ℕ) → length (distinct (rates o ++ subject_of (acquired_of h w) ∷ map subject_of rs)) ≤ length rs + 2
    with_rate_lem w none = omega (arith, distinct_length (subject_of (acquired_of h w) ∷ map subject_of rs), length-map rs subject_of)
    with_rate_lem w (some r) = omega (arith, distinct_length (rate_is r ∷ subject_of (acquired_of h w) ∷ map subject_of rs), length-map rs subject_of)

    pick : (w : ℕ) (b : Bool) → length (subjects_filled h w b rs) ≤ length rs + 2
    pick w true = with_rate_lem w (rate_of (timer_of h w))
    pick w false = omega (arith, distinct_length (map subject_of rs), length-map rs subject_of)

    by : (o : Option ℕ) → length (subjects_for h o x.limit rs) ≤ length rs + 2
    by none = omega arith
    by (some w) = pick w (leb (limit_of h w x.limit) 1)

pub subjects_apart : (h : Sheet) (x : Slot) → Apart (subjects h x)
unfolding subjects
subjects_apart h x = by x.item
  where
    pick : (w : ℕ) (b : Bool) → Apart (subjects_filled h w b x.requirements)
    pick w true = distinct_apart (rates (rate_of (timer_of h w)) ++ subject_of (acquired_of h w) ∷ map subject_of x.requirements)
    pick w false = distinct_apart (map subject_of x.requirements)

    by : (o : Option ℕ) → Apart (subjects_for h o x.limit x.requirements)
    by none = tt
    by (some w) = pick w (leb (limit_of h w x.limit) 1)

-- a requirement's subject is among the subjects of its list
pub subject_in : (r : Requirement) (rs : List Requirement) → member r rs ≡ true → member_s (subject_of r) (map subject_of rs) ≡ true
unfolding member member_s
subject_in r [] m = absurd (true≢false (sym m))
subject_in r (q ∷ qs) m = or_cases (same_req r q) (member r qs) m
    (λ e. rw (same_req_true r q e, subject_own (subject_of q)))
    (λ e. or_right (same_subject (subject_of r) (subject_of q)) _ (subject_in r qs e))

-- and each of these is the subject of one
pub record Asks (u : Subject) (rs : List Requirement) : Type 0 where
  pub which : Requirement
  pub inside : member which rs ≡ true
  pub about : subject_of which ≡ u

pub asks : (u : Subject) (rs : List Requirement) → member_s u (map subject_of rs) ≡ true → Asks u rs
unfolding member member_s
asks u [] m = absurd (true≢false (sym m))
asks u (q ∷ qs) m = or_cases (same_subject u (subject_of q)) (member_s u (map subject_of qs)) m
    (λ e. record { which = q; inside = rw (same_refl q); about = sym (subject_true u (subject_of q) e) })
    (λ e. let a = asks u qs e in record { which = a.which; inside = or_right (same_req a.which q) _ a.inside; about = a.about })
