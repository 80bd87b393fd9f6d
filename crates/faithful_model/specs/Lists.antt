-- Tests of all requirements of a list, and of pairs of them. Assumes nothing.
use Rattle.std.specs.Prelude.{◌≡◌, refl, Bool, true, false, not, ◌&&◌, ◌||◌, List, [], ◌∷◌}
use Rattle.std.proofs.Common.{sym, ap, ◌∙◌, true≢false}
use Rattle.std.proofs.lemmas.Bool.{not-true}
use Rattle.model.specs.Sheet.{all}
use Rattle.model.specs.Requirement.{Requirement, haveItem, missingItem, haveAtc, missingAtc, haveFlag, missingFlag, negate_req, same_req, member}
use Rattle.model.proofs.Laws.Checks.{and_left, and_right}
use Rattle.model.proofs.Laws.Normal.{both_ways_lem, neg_neg}
use Rattle.model.proofs.Laws.Runs.{same_req_true}
use Rattle.model.proofs.Laws.Sets.{same_refl}
use Rattle.model.proofs.Laws.Bools.{or_cases, or_right, never_true}
use Rattle.faithful_model.specs.Faithful.{no_pair}

neg_differs : (r : Requirement) → same_req (negate_req r) r ≡ false
neg_differs (haveItem i) = refl
neg_differs (missingItem i) = refl
neg_differs (haveAtc i) = refl
neg_differs (missingAtc i) = refl
neg_differs (haveFlag f) = refl
neg_differs (missingFlag f) = refl

-- what holds of all holds of a member, and the other way round
pub all_member : (p : Requirement → Bool) (r : Requirement) (xs : List Requirement) → all p xs ≡ true → member r xs ≡ true → p r ≡ true
unfolding member
all_member p r [] a m = absurd (true≢false (sym m))
all_member p r (x ∷ xs) a m = or_cases (same_req r x) (member r xs) m (λ e. ap p (same_req_true r x e) ∙ and_left (p x) _ a) (all_member p r xs (and_right (p x) _ a))

pub all_of : (p : Requirement → Bool) (xs : List Requirement) → ((r : Requirement) → member r xs ≡ true → p r ≡ true) → all p xs ≡ true
unfolding member
all_of p [] f = refl
all_of p (x ∷ xs) f = rw (f x (rw (same_refl x))) (all_of p xs (λ r m. f r (or_right (same_req r x) _ m)))

pub pairs : (rs : List Requirement) → no_pair rs ≡ true → (r : Requirement) → member r rs ≡ true → member (negate_req r) rs ≡ false
unfolding no_pair
pairs rs p r m = not-true _ (all_member (λ q. not (member (negate_req q) rs)) r rs p m)

pub of_pairs : (rs : List Requirement) → ((r : Requirement) → member r rs ≡ true → member (negate_req r) rs ≡ false) → no_pair rs ≡ true
unfolding no_pair
of_pairs rs f = all_of (λ q. not (member (negate_req q) rs)) rs (λ r m. rw (f r m))

-- the Have of the acquired subject is one more contradiction
pub pair_own : (a : Requirement) (rs : List Requirement) → no_pair (negate_req a ∷ rs) ≡ no_pair rs && not (member a rs)
unfolding member
pair_own a rs = both_ways_lem _ _
    (λ p. rw (
      of_pairs rs (λ r m. never_true _ (λ k. true≢false (sym (or_right (same_req (negate_req r) (negate_req a)) _ k) ∙ pairs (negate_req a ∷ rs) p r (or_right (same_req r (negate_req a)) _ m)))),
      never_true (member a rs) (λ k. true≢false (sym (or_right (same_req (negate_req (negate_req a)) (negate_req a)) _ (ap (λ z. member z rs) (neg_neg a) ∙ k)) ∙ pairs (negate_req a ∷ rs) p (negate_req a) (rw (same_refl (negate_req a))))),
    ))
    (λ p. of_pairs (negate_req a ∷ rs) (λ r m. never_true _ (λ k. each (and_left (no_pair rs) _ p) (not-true _ (and_right (no_pair rs) _ p)) r m k)))
  where
    each : no_pair rs ≡ true → member a rs ≡ false → (r : Requirement) → same_req r (negate_req a) || member r rs ≡ true → same_req (negate_req r) (negate_req a) || member (negate_req r) rs ≡ true → ⊥
    each p o r m k =
        or_cases (same_req r (negate_req a)) (member r rs) m
        (λ e. let z : r ≡ negate_req a = same_req_true r (negate_req a) e in
        or_cases (same_req (negate_req r) (negate_req a)) (member (negate_req r) rs) k
        (λ f. true≢false (sym f ∙ ap (λ b. same_req (negate_req r) b) (sym z) ∙ neg_differs r))
        (λ f. true≢false (sym f ∙ ap (λ b. member (negate_req b) rs) z ∙ ap (λ b. member b rs) (neg_neg a) ∙ o)))
        (λ e. or_cases (same_req (negate_req r) (negate_req a)) (member (negate_req r) rs) k
        (λ f. let z : r ≡ a = sym (neg_neg r) ∙ ap negate_req (same_req_true (negate_req r) (negate_req a) f) ∙ neg_neg a in true≢false (sym e ∙ ap (λ b. member b rs) z ∙ o))
        (λ f. true≢false (sym f ∙ pairs rs p r e)))
