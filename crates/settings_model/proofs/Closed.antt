-- The closed form is the plain count, and listed and hidden together are 2 to the number of subjects. Assumes nothing.
use Rattle.std.specs.Prelude.{◌≡◌, Bool, not, cond, ◌&&◌, ◌||◌, List, [], ◌∷◌, ◌++◌, map, ℕ, suc, ◌+◌, ◌-◌, ◌^◌, leb, length, ℤ}
use Rattle.std.proofs.Math.Path.{refl, sym, ap}
use Rattle.std.proofs.Common.{◌∙◌, true≢false, arith}
use Rattle.std.proofs.Math.Bool.{true, false, and-true}
use Rattle.std.proofs.Math.Option.{Option, none, some}
use Rattle.std.proofs.lemmas.Bool.{not-true}
use Rattle.std.proofs.Math.ListN.{length-map}
use Rattle.model.specs.Sheet.{Sheet, all, atc_for}
use Rattle.model.specs.Requirement.{Requirement, haveItem, missingItem, haveAtc, missingAtc, haveFlag, missingFlag, member, negate_req, is_have}
use Rattle.model.specs.Shop.{Slot, limit_of, timer_of}
use Rattle.model.specs.Compile.{acquired_req, rate_of}
use Rattle.model.specs.Normal.{acquired_of}
use Rattle.model.proofs.Laws.Checks.{and_left, and_right}
use Rattle.model.proofs.Laws.Normal.{both_ways_lem}
use Rattle.model.proofs.Laws.Bools.{or_right, never_true, not_or}
use Rattle.faithful_model.specs.Faithful.{faithful_filled, no_pair}
use Rattle.faithful_model.specs.Lists.{all_member, all_of, of_pairs, pair_own, pairs}
use Rattle.settings_model.specs.Settings.{Subject, rate_is, agree, answer_in, combos, count, distinct, hidden_count, listed_by, listed_count, listed_filled, listed_for, listed_with, meets, member_s, or_rate, rates, same_subject, subject_of, subjects, subjects_filled, subjects_for, without}
use Rattle.settings_model.proofs.Combos.{count_all, count_more, count_none, count_same, count_split, each_once, same_own, same_true, same_list}
use Rattle.settings_model.proofs.Subjects.{Apart, Asks, asks, differs_sym, distinct_apart, distinct_member, member_without, no_rate, req_other, req_own, req_of, subject_in, subject_neg, subject_own}
use Rattle.settings_model.proofs.Listed.{look_up}
use Rattle.settings_model.specs.Closed.{acquired_filled, bit, hidden_closed, hidden_filled, hidden_for, listed_closed}

-- ---- requirements and their negations

have_neg : (r : Requirement) → is_have (negate_req r) ≡ not (is_have r)
have_neg (haveItem i) = refl
have_neg (missingItem i) = refl
have_neg (haveAtc i) = refl
have_neg (missingAtc i) = refl
have_neg (haveFlag f) = refl
have_neg (missingFlag f) = refl

meets_neg : (y : Subject → Bool) (r : Requirement) → meets y (negate_req r) ≡ not (meets y r)
unfolding meets
meets_neg y r = rw (subject_neg r, have_neg r) (by (is_have r) (y (subject_of r)))
  where
    by : (a b : Bool) → agree (not a) b ≡ not (agree a b)
    by true b = refl
    by false true = refl
    by false false = refl

-- the Have of a requirement's subject
have_own : (r : Requirement) → is_have r ≡ true → req_of (subject_of r) true ≡ r
have_own r e = ap (req_of (subject_of r)) (sym e) ∙ req_own r

have_other : (r : Requirement) → is_have r ≡ false → req_of (subject_of r) true ≡ negate_req r
have_other r e = ap (req_of (subject_of r)) (sym (ap not e)) ∙ req_other r

-- ---- a combination is its answers

skip : (u : Subject) (b : Bool) (us : List Subject) (bs : List Bool) (vs : List Subject) → member_s u vs ≡ false → map (answer_in (u ∷ us) (b ∷ bs)) vs ≡ map (answer_in us bs) vs
unfolding member_s answer_in
skip u b us bs [] m = refl
skip u b us bs (v ∷ vs) m = by (same_subject u v) refl m (skip u b us bs vs)
  where
    by : (e : Bool) → same_subject u v ≡ e → e || member_s u vs ≡ false → (member_s u vs ≡ false → map (answer_in (u ∷ us) (b ∷ bs)) vs ≡ map (answer_in us bs) vs)
        → cond (same_subject v u) b (answer_in us bs v) ∷ map (answer_in (u ∷ us) (b ∷ bs)) vs ≡ answer_in us bs v ∷ map (answer_in us bs) vs
    by true e m ih = absurd (true≢false m)
    by false e m ih = rw (differs_sym u v e, ih m)

answers_self : (us : List Subject) (c : List Bool) → Apart us → length c ≡ length us → map (answer_in us c) us ≡ c
unfolding answer_in
answers_self [] [] a l = refl
answers_self [] (b ∷ bs) a l = absurd (omega arith)
answers_self (u ∷ us) [] a l = absurd (omega arith)
answers_self (u ∷ us) (b ∷ bs) a l = rw (subject_own u, skip u b us bs us a.0, answers_self us bs a.1 (omega arith))

map_member : (f g : Subject → Bool) (us : List Subject) → ((u : Subject) → member_s u us ≡ true → f u ≡ g u) → map f us ≡ map g us
unfolding member_s
map_member f g [] e = refl
map_member f g (u ∷ us) e = rw (e u (rw (subject_own u)), map_member f g us (λ v m. e v (or_right (same_subject v u) _ m)))

-- ---- one combination meets requirements that name every subject, or none does

pub record Names (us : List Subject) (rs : List Requirement) : Type 0 where
  pub apart : Apart us
  pub named : (r : Requirement) → member r rs ≡ true → member_s (subject_of r) us ≡ true
  pub naming : (u : Subject) → member_s u us ≡ true → Asks u rs

module _ (us : List Subject) (rs : List Requirement) (n : Names us rs) where
  target : List Bool
  target = map (λ u. member (req_of u true) rs) us

  module _ (c : List Bool) (long : length c ≡ length us) where
    pairs_apart : all (meets (answer_in us c)) rs ≡ true → no_pair rs ≡ true
    pairs_apart a = of_pairs rs (λ r m. never_true _ (λ k. true≢false (sym (all_member (meets (answer_in us c)) (negate_req r) rs a k) ∙ meets_neg (answer_in us c) r ∙ ap not (all_member (meets (answer_in us c)) r rs a m))))

    only_target : all (meets (answer_in us c)) rs ≡ true → target ≡ c
    unfolding target meets
    only_target a = map_member (λ u. member (req_of u true) rs) (answer_in us c) us (λ u m. each u (n.naming u m)) ∙ answers_self us c n.apart long
      where
        by : (r : Requirement) → member r rs ≡ true → (b : Bool) → is_have r ≡ b → member (req_of (subject_of r) true) rs ≡ answer_in us c (subject_of r)
        by r m true e = rw (have_own r e) (m ∙ sym (ap (λ v. agree v (answer_in us c (subject_of r))) (sym e) ∙ all_member (meets (answer_in us c)) r rs a m))
        by r m false e =
            rw (have_other r e) (pairs rs (pairs_apart a) r m ∙ sym (not-true _ (ap (λ v. agree v (answer_in us c (subject_of r))) (sym e) ∙ all_member (meets (answer_in us c)) r rs a m)))

        each : (u : Subject) → Asks u rs → member (req_of u true) rs ≡ answer_in us c u
        each u k = rw (← k.about) (by k.which k.inside (is_have k.which) refl)

    target_meets : no_pair rs ≡ true → target ≡ c → all (meets (answer_in us c)) rs ≡ true
    unfolding target meets
    target_meets p t = all_of (meets (answer_in us c)) rs (λ r m. ap (λ d. agree (is_have r) (answer_in us d (subject_of r))) (sym t) ∙ ap (agree (is_have r)) (look_up (λ u. member (req_of u true) rs) (subject_of r) us (n.named r m)) ∙ by r m (is_have r) refl)
      where
        by : (r : Requirement) → member r rs ≡ true → (b : Bool) → is_have r ≡ b → agree b (member (req_of (subject_of r) true) rs) ≡ true
        by r m true e = rw (have_own r e) m
        by r m false e = rw (have_other r e, pairs rs p r m)

    meets_target : all (meets (answer_in us c)) rs ≡ no_pair rs && same_list target c
    meets_target = both_ways_lem _ _
        (λ a. rw (pairs_apart a, only_target a) (same_own c))
        (λ b. target_meets (and_left (no_pair rs) _ b) (same_true target c (and_right (no_pair rs) _ b)))

  target_long : length target ≡ length us
  unfolding target
  target_long = length-map us (λ u. member (req_of u true) rs)

  pub count_met : count (λ c. all (meets (answer_in us c)) rs) (combos (length us)) ≡ bit (no_pair rs)
  count_met = count_same (length us) _ _ (λ c l. meets_target c l) ∙ by (no_pair rs)
    where
      by : (b : Bool) → count (λ c. b && same_list target c) (combos (length us)) ≡ bit b
      by true = rw (← target_long) (each_once target)
      by false = count_none (combos (length us))

-- ---- above limit 1

names_own : (rs : List Requirement) → Names (distinct (map subject_of rs)) rs
names_own rs = record {
  apart = distinct_apart (map subject_of rs);
  named = λ r m. distinct_member (subject_of r) (map subject_of rs) ∙ subject_in r rs m;
  naming = λ u m. asks u rs (sym (distinct_member u (map subject_of rs)) ∙ m);
}

stock_hidden : (rs : List Requirement) → count (λ c. not (all (meets (answer_in (distinct (map subject_of rs)) c)) rs)) (combos (length (distinct (map subject_of rs)))) ≡ 2 ^ length (distinct (map subject_of rs)) - bit (no_pair rs)
stock_hidden rs =
    let us = distinct (map subject_of rs) in
    let a = count_met us rs (names_own rs) in
    let b = count_split (λ c. true) (λ c. all (meets (answer_in us c)) rs) (combos (length us)) in
    let d = count_all (length us) in
    omega arith

-- ---- at limit 1

module _ (a : Requirement) (have : is_have a ≡ true) (rs : List Requirement) (rest : List Subject) (n : Names (subject_of a ∷ rest) (negate_req a ∷ rs)) where
  meets_have : (b : Bool) (c : List Bool) → meets (answer_in (subject_of a ∷ rest) (b ∷ c)) a ≡ b
  unfolding meets answer_in
  meets_have b c = rw (have, subject_own (subject_of a))

  not_acquired : count (λ c. not (meets (answer_in (subject_of a ∷ rest) c) a)) (combos (suc (length rest))) ≡ 2 ^ length rest
  not_acquired =
      count_more (λ c. not (meets (answer_in (subject_of a ∷ rest) c) a)) (length rest)
      ∙ rw (
        count_same (length rest) (λ c. not (meets (answer_in (subject_of a ∷ rest) (true ∷ c)) a)) (λ c. false) (λ c l. ap not (meets_have true c)),
        count_same (length rest) (λ c. not (meets (answer_in (subject_of a ∷ rest) (false ∷ c)) a)) (λ c. true) (λ c l. ap not (meets_have false c)),
        count_none (combos (length rest)),
        count_all (length rest),
      )
      (omega arith)

  pub one_hidden : count (λ c. not (meets (answer_in (subject_of a ∷ rest) c) a || all (meets (answer_in (subject_of a ∷ rest) c)) rs)) (combos (suc (length rest))) ≡ 2 ^ length rest - bit (no_pair (negate_req a ∷ rs))
  one_hidden =
      let y : List Bool → Subject → Bool = answer_in (subject_of a ∷ rest) in
      let all-met = count_same (suc (length rest)) (λ c. not (meets (y c) a) && all (meets (y c)) rs) (λ c. all (meets (y c)) (negate_req a ∷ rs)) (λ c l. rw (meets_neg (y c) a)) ∙ count_met (subject_of a ∷ rest) (negate_req a ∷ rs) n in
      let rest-met = count_same (suc (length rest)) (λ c. not (meets (y c) a || all (meets (y c)) rs)) (λ c. not (meets (y c) a) && not (all (meets (y c)) rs)) (λ c l. not_or (meets (y c) a) (all (meets (y c)) rs)) in
      let b = count_split (λ c. not (meets (y c) a)) (λ c. all (meets (y c)) rs) (combos (suc (length rest))) in
      let d = not_acquired in
      rest-met ∙ omega arith

  -- a timer: the rate stands first, and where it is met the slot is listed
  module _ (q : ℕ) where
    abbrev timed : List Bool → Subject → Bool
    timed c = answer_in (rate_is q ∷ subject_of a ∷ rest) c

    at_rate_lem : (b : Bool) (c : List Bool) → timed (b ∷ c) (rate_is q) ≡ b
    unfolding answer_in
    at_rate_lem b c = rw (subject_own (rate_is q))

    past_rate : (b : Bool) (c : List Bool) (r : Requirement) → meets (timed (b ∷ c)) r ≡ meets (answer_in (subject_of a ∷ rest) c) r
    unfolding meets answer_in
    past_rate b c r = rw (no_rate r q)

    all_past : (b : Bool) (c : List Bool) (xs : List Requirement) → all (meets (timed (b ∷ c))) xs ≡ all (meets (answer_in (subject_of a ∷ rest) c)) xs
    all_past b c [] = refl
    all_past b c (x ∷ xs) = rw (past_rate b c x, all_past b c xs)

    pub timer_hidden : count (λ c. not ((meets (timed c) a || timed c (rate_is q)) || all (meets (timed c)) rs)) (combos (suc (suc (length rest)))) ≡ 2 ^ length rest - bit (no_pair (negate_req a ∷ rs))
    timer_hidden =
        count_more (λ c. not ((meets (timed c) a || timed c (rate_is q)) || all (meets (timed c)) rs)) (suc (length rest))
        ∙ rw (
          count_same (suc (length rest)) (λ c. not ((meets (timed (true ∷ c)) a || timed (true ∷ c) (rate_is q)) || all (meets (timed (true ∷ c))) rs)) (λ c. false) (λ c l. rw (at_rate_lem true c) (listed (meets (timed (true ∷ c)) a) (all (meets (timed (true ∷ c))) rs))),
          count_same (suc (length rest)) (λ c. not ((meets (timed (false ∷ c)) a || timed (false ∷ c) (rate_is q)) || all (meets (timed (false ∷ c))) rs)) (λ c. not (meets (answer_in (subject_of a ∷ rest) c) a || all (meets (answer_in (subject_of a ∷ rest) c)) rs))
              (λ c l. rw (at_rate_lem false c, past_rate false c a, all_past false c rs) (or_none (meets (answer_in (subject_of a ∷ rest) c) a) (all (meets (answer_in (subject_of a ∷ rest) c)) rs))),
          count_none (combos (suc (length rest))),
          one_hidden,
        )
        (omega arith)
      where
        listed : (m r : Bool) → not ((m || true) || r) ≡ false
        listed true r = refl
        listed false r = refl

        or_none : (m r : Bool) → not ((m || false) || r) ≡ not (m || r)
        or_none true r = refl
        or_none false r = refl

names_of : (a : Requirement) (rs : List Requirement) (us : List Subject) → Apart us
    → ((r : Requirement) → member_s (subject_of r) (subject_of a ∷ map subject_of rs) ≡ true → member_s (subject_of r) us ≡ true)
    → ((u : Subject) → member_s u us ≡ true → member_s u (subject_of a ∷ map subject_of rs) ≡ true) → Names us (negate_req a ∷ rs)
names_of a rs us p f g = record {
  apart = p;
  named = λ r m. f r (rw (subject_neg a) at (subject_in r (negate_req a ∷ rs) m));
  naming = λ u m. asks u (negate_req a ∷ rs) (rw (subject_neg a) (g u m));
}

-- ---- a slot with an item at limit 1, with the rate of its timer

abbrev among : Requirement → List Requirement → Option ℕ → List Subject
among a rs o = distinct (rates o ++ subject_of a ∷ map subject_of rs)

abbrev hides : Requirement → List Requirement → Option ℕ → List Subject → ℕ
hides a rs o us = count (λ c. not (or_rate (answer_in us c) o (meets (answer_in us c) a) || all (meets (answer_in us c)) rs)) (combos (length us))

hides_is : (a : Requirement) → is_have a ≡ true → (rs : List Requirement) (o : Option ℕ) → hides a rs o (among a rs o) ≡ 2 ^ (length (among a rs o) - suc (length (rates o))) - bit (no_pair rs && not (member a rs))
unfolding distinct without
hides_is a have rs none =
    let rest = without (subject_of a) (distinct (map subject_of rs)) in
    let us = subject_of a ∷ map subject_of rs in
    let n : Names (subject_of a ∷ rest) (negate_req a ∷ rs) = names_of a rs (distinct us) (distinct_apart us) (λ r m. distinct_member (subject_of r) us ∙ m) (λ u m. sym (distinct_member u us) ∙ m) in
    let k : suc (length rest) - 1 ≡ length rest = omega arith in
    one_hidden a have rs rest n ∙ rw (pair_own a rs, k)
hides_is a have rs (some q) =
    let us = subject_of a ∷ map subject_of rs in
    let rest = without (rate_is q) (without (subject_of a) (distinct (map subject_of rs))) in
    let e : without (rate_is q) (distinct us) ≡ subject_of a ∷ rest = rw (no_rate a q) in
    let n : Names (subject_of a ∷ rest) (negate_req a ∷ rs) = rw e at (names_of a rs (without (rate_is q) (distinct us)) (distinct_apart (rate_is q ∷ us)).1
    (λ r m. member_without (subject_of r) (rate_is q) (distinct us) ∙ rw (no_rate r q, distinct_member (subject_of r) us) m)
    (λ u m. sym (distinct_member u us) ∙ and_right (not (same_subject u (rate_is q))) _ (sym (member_without u (rate_is q) (distinct us)) ∙ m))) in
    let k : suc (suc (length rest)) - 2 ≡ length rest = omega arith in
    rw (no_rate a q) (timer_hidden a have rs rest n q ∙ rw (pair_own a rs, k))

own_have : (h : Sheet) (w : ℕ) → is_have (acquired_of h w) ≡ true
unfolding acquired_of
own_have h w = by (atc_for h w)
  where
    by : (o : Option ℕ) → is_have (acquired_req o w) ≡ true
    by none = refl
    by (some a) = refl

filled_closed : (h : Sheet) (w : ℕ) (one : Bool) (rs : List Requirement)
    → count (λ c. not (listed_filled h w one rs (answer_in (subjects_filled h w one rs) c))) (combos (length (subjects_filled h w one rs))) ≡ hidden_filled h w one rs
filled_closed h w true rs = hides_is (acquired_of h w) (own_have h w) rs (rate_of (timer_of h w))
filled_closed h w false rs =
    let s = length (distinct (map subject_of rs)) in
    let k : s - 0 ≡ s = omega arith in
    stock_hidden rs ∙ rw k (ap (λ b. 2 ^ s - bit b) (sym (and-true (no_pair rs))))

-- ---- the theorems

pub hidden_closed_lem : (h : Sheet) (x : Slot) → hidden_count h x ≡ hidden_closed h x
unfolding hidden_count hidden_closed listed_by listed_with subjects
hidden_closed_lem h x = by x.item
  where
    by : (o : Option ℕ) → count (λ c. not (listed_for h o x.limit x.requirements (answer_in (subjects_for h o x.limit x.requirements) c))) (combos (length (subjects_for h o x.limit x.requirements))) ≡ hidden_for h o x.limit x.requirements
    by none = unfold combos count in refl
    by (some w) = filled_closed h w (leb (limit_of h w x.limit) 1) x.requirements

-- the two together 2 to the number of subjects
pub together : (h : Sheet) (x : Slot) → listed_count h x + hidden_count h x ≡ 2 ^ length (subjects h x)
unfolding listed_count hidden_count
together h x = count_split (λ c. true) (listed_by h x) (combos (length (subjects h x))) ∙ count_all (length (subjects h x))

pub listed_closed_lem : (h : Sheet) (x : Slot) → listed_count h x ≡ listed_closed h x
unfolding listed_closed
listed_closed_lem h x = omega (arith, together h x, hidden_closed_lem h x)

-- a slot with no item: 0 listed, 1 hidden
pub none_listed : (h : Sheet) (x : Slot) → x.item ≡ none → (listed_count h x ≡ 0) × (hidden_count h x ≡ 1)
unfolding listed_count hidden_count listed_by listed_with subjects combos count
none_listed h x e = rw e (refl, refl)
