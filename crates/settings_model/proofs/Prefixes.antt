-- Counting subjects from left to right: a subject is counted where it stands at no earlier place. Assumes nothing.
use Rattle.std.specs.Prelude.{◌≡◌, refl, Bool, true, false, not, cond, ◌&&◌, ◌||◌, List, [], ◌∷◌, ◌++◌, map, ℕ, suc, ◌+◌, length}
use Rattle.std.proofs.Common.{sym, ap, ◌∙◌, append_assoc, append-nil, arith, length-append}
use Rattle.std.proofs.Math.Bool.{or-false}
use Rattle.std.proofs.Math.Option.{Option, none, some}
use Rattle.model.specs.Requirement.{Requirement, negate_req, same_req, member, is_have}
use Rattle.model.specs.Sheet.{Sheet}
use Rattle.model.specs.Shop.{timer_of}
use Rattle.model.specs.Compile.{rate_of}
use Rattle.model.specs.Normal.{acquired_of}
use Rattle.model.proofs.Laws.Normal.{both_ways_lem}
use Rattle.model.proofs.Laws.Runs.{same_req_true}
use Rattle.model.proofs.Laws.Sets.{same_refl}
use Rattle.model.proofs.Laws.Bools.{or_cases, or_right}
use Rattle.settings_model.specs.Settings.{Subject, distinct, member_s, rates, same_subject, subject_of, subjects_filled, without}
use Rattle.settings_model.proofs.Subjects.{no_rate, req_other, req_own, subject_neg, subject_own, subject_true}
use Rattle.settings_model.specs.Closed.{acquired_filled, bit}

-- ---- one subject more

without_append : (u : Subject) (xs ys : List Subject) → without u (xs ++ ys) ≡ without u xs ++ without u ys
unfolding without
without_append u [] ys = refl
without_append u (x ∷ xs) ys = by (same_subject x u) (without_append u xs ys)
  where
    by : (b : Bool) → without u (xs ++ ys) ≡ without u xs ++ without u ys → cond b (without u (xs ++ ys)) (x ∷ without u (xs ++ ys)) ≡ cond b (without u xs) (x ∷ without u xs) ++ without u ys
    by true e = e
    by false e = ap (λ l. x ∷ l) e

-- it stands at the end, or is there already
abbrev new : Bool → Subject → List Subject
new b v = cond b [] (v ∷ [])

distinct_end : (us : List Subject) (v : Subject) → distinct (us ++ v ∷ []) ≡ distinct us ++ new (member_s v us) v
unfolding distinct member_s without
distinct_end [] v = refl
distinct_end (u ∷ us) v = ap (λ l. u ∷ l) (ap (without u) (distinct_end us v) ∙ without_append u (distinct us) (new (member_s v us) v) ∙ ap (λ l. without u (distinct us) ++ l) (by (member_s v us)))
  where
    by : (b : Bool) → without u (new b v) ≡ new (same_subject v u || b) v
    by true = pick (same_subject v u)
      where
        pick : (c : Bool) → [] ≡ new (c || true) v
        pick true = refl
        pick false = refl
    by false = pick (same_subject v u)
      where
        pick : (c : Bool) → cond c [] (v ∷ []) ≡ new (c || false) v
        pick true = refl
        pick false = refl

pub distinct_more : (us : List Subject) (v : Subject) → length (distinct (us ++ v ∷ [])) ≡ length (distinct us) + bit (not (member_s v us))
distinct_more us v = ap length (distinct_end us v) ∙ length-append (distinct us) (new (member_s v us) v) ∙ ap (λ n. length (distinct us) + n) (by (member_s v us))
  where
    by : (b : Bool) → length (new b v) ≡ bit (not b)
    by true = refl
    by false = refl

-- ---- a requirement's subject is named by it or by its negation

-- q wants what r wants, or the opposite
one_of_lem : (r q : Requirement) → subject_of r ≡ subject_of q → (a b : Bool) → is_have r ≡ a → is_have q ≡ b → same_req r q || same_req (negate_req r) q ≡ true
one_of_lem r q e a b p s = by a b p s
  where
    alike : is_have q ≡ is_have r → r ≡ q
    alike z = sym (req_own r) ∙ rw (e, ← z) (req_own q)

    apart : is_have q ≡ not (is_have r) → negate_req r ≡ q
    apart z = sym (req_other r) ∙ rw (e, ← z) (req_own q)

    first : r ≡ q → same_req r q || same_req (negate_req r) q ≡ true
    first z = rw (ap (λ t. same_req r t) (sym z) ∙ same_refl r)

    second : negate_req r ≡ q → same_req r q || same_req (negate_req r) q ≡ true
    second z = or_right (same_req r q) _ (ap (λ t. same_req (negate_req r) t) (sym z) ∙ same_refl (negate_req r))

    by : (a b : Bool) → is_have r ≡ a → is_have q ≡ b → same_req r q || same_req (negate_req r) q ≡ true
    by true true p s = first (alike (s ∙ sym p))
    by false false p s = first (alike (s ∙ sym p))
    by true false p s = second (apart (s ∙ ap not (sym p)))
    by false true p s = second (apart (s ∙ ap not (sym p)))

pub subject_same : (r q : Requirement) → same_subject (subject_of r) (subject_of q) ≡ same_req r q || same_req (negate_req r) q
subject_same r q = both_ways_lem _ _
    (λ e. one_of_lem r q (subject_true (subject_of r) (subject_of q) e) (is_have r) (is_have q) refl refl)
    (λ e. or_cases (same_req r q) (same_req (negate_req r) q) e
    (λ f. rw (same_req_true r q f) (subject_own (subject_of q)))
    (λ f. rw (sym (subject_neg r) ∙ ap subject_of (same_req_true (negate_req r) q f)) (subject_own (subject_of q))))

pub subject_member : (r : Requirement) (qs : List Requirement) → member_s (subject_of r) (map subject_of qs) ≡ member r qs || member (negate_req r) qs
unfolding member_s member
subject_member r [] = refl
subject_member r (q ∷ qs) = rw (subject_same r q, subject_member r qs) (by (same_req r q) (same_req (negate_req r) q) (member r qs) (member (negate_req r) qs))
  where
    by : (a b c d : Bool) → (a || b) || (c || d) ≡ (a || c) || (b || d)
    by true b c d = refl
    by false true true d = refl
    by false true false d = refl
    by false false c d = refl

-- ---- the number of subjects, from left to right

-- those of vs that stand neither in us nor earlier in vs
unfoldable pub count_new : List Subject → List Subject → ℕ
count_new us [] = 0
count_new us (v ∷ vs) = bit (not (member_s v us)) + count_new (us ++ v ∷ []) vs

pub distinct_count : (us vs : List Subject) → length (distinct (us ++ vs)) ≡ length (distinct us) + count_new us vs
unfolding count_new
distinct_count us [] = rw (append-nil us) (omega arith)
distinct_count us (v ∷ vs) =
    ap (λ l. length (distinct l)) (sym (append_assoc us (v ∷ []) vs)) ∙ distinct_count (us ++ v ∷ []) vs
    ∙ ap (λ n. n + count_new (us ++ v ∷ []) vs) (distinct_more us v) ∙ omega arith

-- the acquired subjects of a slot with item w, at limit 1
abbrev pub acquired_subjects : Sheet → ℕ → Bool → List Subject
acquired_subjects h w one = cond one (rates (rate_of (timer_of h w)) ++ subject_of (acquired_of h w) ∷ []) []

rated : (a : Requirement) (o : Option ℕ) → length (distinct (rates o ++ subject_of a ∷ [])) ≡ suc (length (rates o))
unfolding distinct without
rated a none = refl
rated a (some r) = rw (no_rate a r)

-- k and f: the acquired ones, and those of the requirements that are new
pub subjects_count : (h : Sheet) (w : ℕ) (one : Bool) (rs : List Requirement)
    → length (subjects_filled h w one rs) ≡ acquired_filled h w one + count_new (acquired_subjects h w one) (map subject_of rs)
unfolding distinct
subjects_count h w false rs = distinct_count [] (map subject_of rs)
subjects_count h w true rs =
    let o = rate_of (timer_of h w) in
    ap (λ l. length (distinct l)) (sym (append_assoc (rates o) (subject_of (acquired_of h w) ∷ []) (map subject_of rs)))
    ∙ distinct_count (rates o ++ subject_of (acquired_of h w) ∷ []) (map subject_of rs)
    ∙ ap (λ n. n + count_new (rates o ++ subject_of (acquired_of h w) ∷ []) (map subject_of rs)) (rated (acquired_of h w) o)

-- ---- what makes a requirement's subject new, by requirements alone

pub member_append : (v : Subject) (xs ys : List Subject) → member_s v (xs ++ ys) ≡ member_s v xs || member_s v ys
unfolding member_s
member_append v [] ys = refl
member_append v (x ∷ xs) ys = rw (member_append v xs ys) (by (same_subject v x))
  where
    by : (a : Bool) → a || (member_s v xs || member_s v ys) ≡ (a || member_s v xs) || member_s v ys
    by true = refl
    by false = refl

acquired_member : (h : Sheet) (w : ℕ) (one : Bool) (r : Requirement) → member_s (subject_of r) (acquired_subjects h w one) ≡ one && (same_req r (acquired_of h w) || same_req (negate_req r) (acquired_of h w))
unfolding member_s
acquired_member h w false r = refl
acquired_member h w true r = by (rate_of (timer_of h w))
  where
    by : (o : Option ℕ) → member_s (subject_of r) (rates o ++ subject_of (acquired_of h w) ∷ []) ≡ same_req r (acquired_of h w) || same_req (negate_req r) (acquired_of h w)
    by none = or-false _ ∙ subject_same r (acquired_of h w)
    by (some q) = rw (no_rate r q) (or-false _ ∙ subject_same r (acquired_of h w))

-- after the entries qs, r brings a subject if neither it nor its negation is among them, nor at limit 1 is the acquired test
pub seen_is : (h : Sheet) (w : ℕ) (one : Bool) (qs : List Requirement) (r : Requirement)
    → member_s (subject_of r) (acquired_subjects h w one ++ map subject_of qs) ≡ (one && (same_req r (acquired_of h w) || same_req (negate_req r) (acquired_of h w))) || (member r qs || member (negate_req r) qs)
seen_is h w one qs r = member_append (subject_of r) (acquired_subjects h w one) (map subject_of qs) ∙ rw (acquired_member h w one r, subject_member r qs)
