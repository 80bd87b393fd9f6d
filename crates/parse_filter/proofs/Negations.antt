-- With the negations as companions the filter leaves the requirements that the definitions leave: contradicting pairs drop, and what stays joins a slot negated. Assumes nothing.
use Rattle.std.specs.Prelude.{◌≡◌, refl, Bool, true, cond, ◌&&◌, ◌||◌, ℕ, ◌/◌, ◌≤◌, ◌<◌, eqb, get_or}
use Rattle.std.proofs.Math.Path.{sym, ap}
use Rattle.std.proofs.Common.{◌∙◌, true≢false, arith, eqb-true}
use Rattle.std.proofs.Math.Bool.{false, not, or_comm, or_assoc, or-false}
use mathlib.Core.List.{List, [], ◌∷◌, map}
use Rattle.model.specs.Requirement.{Requirement, haveItem, missingItem, haveAtc, missingAtc, haveFlag, missingFlag, same_req, negate_req, insert, sorted, member, keep, settled, extend}
use Rattle.model.proofs.Laws.Checks.{and_right}
use Rattle.model.proofs.Laws.Sets.{same_refl, Sorted, insert_sorted, sorted_sorted, member_insert, ext, member_sorted}
use Rattle.model.proofs.Laws.Runs.{same_req_true}
use Rattle.shop_codes.specs.Codes.{code_of, requirement_of, Narrow, AllNarrow, is_missing}
use Rattle.shop.specs.Sets.{sorted_codes}
use Rattle.shop_codes.specs.Laws.{code_narrow}
use Rattle.shop_codes.specs.Subjects.{missing_code, negate_narrow, keep_narrow}
use Rattle.shop.specs.Codes.{sorted_code}
use Rattle.parse_keys.specs.Entries.{turned, entry_code, entry_req, Valid, Keys}
use Rattle.parse_keys.specs.Turns.{by_parity, req_even, req_odd, turn_req, turn_valid}
use Rattle.parse_keys.specs.Tables.{Companions}
use Rattle.parse_filter.specs.Chains.{companion_of, has}
use Rattle.parse_filter.specs.Filter.{stay, filtered, companion_codes, negated_codes}
use Rattle.parse_filter.proofs.Members.{has_self, has_later}
use Rattle.parse_filter.proofs.Companions.{filtered_has}
use Rattle.model.proofs.Laws.Normal.{same_move, both_ways_lem, neg_neg, settled_member, extend_member, extend_sorted}
use Rattle.model.proofs.Laws.Bools.{or_cases, or_left, or_right}

-- ---- negated requirements

entry_narrow : (ks : List ℕ) (k : ℕ) → Narrow (entry_req ks k)
entry_narrow ks k = by_parity k
    (λ e. rw (req_even ks k e) (code_narrow (get_or ks (k / 2) 0)))
    (λ e. rw (req_odd ks k e) (negate_narrow (requirement_of (get_or ks (k / 2) 0)) (code_narrow (get_or ks (k / 2) 0))))

negated_have : (r q : Requirement) → is_missing r ≡ false → is_missing q ≡ false → r ≡ negate_req q → ⊥
negated_have r q e f g = absurd (by q f (rw g at e))
  where
    by : (q : Requirement) → is_missing q ≡ false → is_missing (negate_req q) ≡ false → ⊥
    by (haveItem n) x y = true≢false y
    by (missingItem n) x y = true≢false x
    by (haveAtc n) x y = true≢false y
    by (missingAtc n) x y = true≢false x
    by (haveFlag n) x y = true≢false y
    by (missingFlag n) x y = true≢false x

-- ---- entries stand for requirements, each for its own

module _ (ks : List ℕ) (m : ℕ) (keys : Keys ks m) where
  half_low : (k : ℕ) → Valid m k → 0 < k / 2
  half_low k v = omega (arith, v.low)

  half_high : (k : ℕ) → Valid m k → k / 2 ≤ m
  half_high k v = omega (arith, v.high)

  entry_code_lem : (k : ℕ) → Valid m k → entry_code ks k ≡ code_of (entry_req ks k)
  entry_code_lem k v =
      let s = keys.subject (k / 2) (half_low k v) (half_high k v) in
      by_parity k
      (λ e. rw (req_even ks k e, s.code) (omega arith))
      (λ e. rw (req_odd ks k e, missing_code (requirement_of (get_or ks (k / 2) 0)) s.have, s.code) (omega arith))

  same_key : (j k : ℕ) → Valid m j → Valid m k → requirement_of (get_or ks (j / 2) 0) ≡ requirement_of (get_or ks (k / 2) 0) → j / 2 ≡ k / 2
  same_key j k v w e =
      keys.once (j / 2) (k / 2) (half_low j v) (half_high j v) (half_low k w) (half_high k w)
      (sym (keys.subject (j / 2) (half_low j v) (half_high j v)).code ∙ ap code_of e ∙ (keys.subject (k / 2) (half_low k w) (half_high k w)).code)

  differ : (j k : ℕ) → Valid m j → Valid m k → requirement_of (get_or ks (j / 2) 0) ≡ negate_req (requirement_of (get_or ks (k / 2) 0)) → ⊥
  differ j k v w e = negated_have (requirement_of (get_or ks (j / 2) 0)) (requirement_of (get_or ks (k / 2) 0)) (keys.subject (j / 2) (half_low j v) (half_high j v)).have (keys.subject (k / 2) (half_low k w) (half_high k w)).have e

  same_entry : (j k : ℕ) → Valid m j → Valid m k → entry_req ks j ≡ entry_req ks k → j ≡ k
  same_entry j k v w e = by_parity j
      (λ a. by_parity k
      (λ b. let h = same_key j k v w (sym (req_even ks j a) ∙ e ∙ req_even ks k b) in omega arith)
      (λ b. absurd (differ j k v w (sym (req_even ks j a) ∙ e ∙ req_odd ks k b))))
      (λ a. by_parity k
      (λ b. absurd (differ k j w v (sym (req_even ks k b) ∙ sym e ∙ req_odd ks j a)))
      (λ b. let h = same_key j k v w (neg_same (sym (req_odd ks j a) ∙ e ∙ req_odd ks k b)) in omega arith))
    where
      neg_same : {r q : Requirement} → negate_req r ≡ negate_req q → r ≡ q
      neg_same {r} {q} z = sym (neg_neg r) ∙ ap negate_req z ∙ neg_neg q

-- ---- lists of requirements

-- an entry of xs that f takes to q
record Of (f : ℕ → Requirement) (xs : List ℕ) (q : Requirement) : Type 0 where
  at : ℕ
  held : has at xs ≡ true
  is : f at ≡ q

of_member : (f : ℕ → Requirement) (q : Requirement) (xs : List ℕ) → member q (map f xs) ≡ true → Of f xs q
unfolding member
of_member f q [] e = absurd (true≢false (sym e))
of_member f q (x ∷ xs) e = or_cases (same_req q (f x)) (member q (map f xs)) e
    (λ h. record { at = x; held = has_self x xs; is = sym (same_req_true q (f x) h) })
    (λ h. let w = of_member f q xs h in record { at = w.at; held = has_later w.at x xs w.held; is = w.is })

member_of : (f : ℕ → Requirement) (e : ℕ) (xs : List ℕ) → has e xs ≡ true → member (f e) (map f xs) ≡ true
unfolding has member
member_of f e [] h = absurd (true≢false (sym h))
member_of f e (x ∷ xs) h = or_cases (eqb e x) (has e xs) h
    (λ a. let z : e ≡ x = eqb-true e x a in or_left (same_req (f e) (f x)) (member (f e) (map f xs)) (rw z (same_refl (f x))))
    (λ a. or_right (same_req (f e) (f x)) (member (f e) (map f xs)) (member_of f e xs a))

map_stay : (f : ℕ → Requirement) (p : ℕ → Bool) (q : Requirement → Bool) (xs : List ℕ) → ((e : ℕ) → has e xs ≡ true → p e ≡ q (f e)) → map f (stay p xs) ≡ keep q (map f xs)
unfolding stay
map_stay f p q [] a = refl
map_stay f p q (x ∷ xs) a = by (p x) (a x (has_self x xs)) (map_stay f p q xs (λ e h. a e (has_later e x xs h)))
  where
    by : (t : Bool) → t ≡ q (f x) → map f (stay p xs) ≡ keep q (map f xs) → map f (cond t (x ∷ stay p xs) (stay p xs)) ≡ cond (q (f x)) (f x ∷ keep q (map f xs)) (keep q (map f xs))
    by true z ih = rw (← z, ih)
    by false z ih = rw (← z) ih

extend_none : (q : Requirement) (xs : List Requirement) → member q (extend [] xs) ≡ member (negate_req q) xs
unfolding member
extend_none q xs = extend_member q [] xs ∙ or-false (member (negate_req q) xs)

negated_member : (f : ℕ → Requirement) (q : Requirement) (xs : List ℕ) → member q (map (λ e. negate_req (f e)) xs) ≡ member (negate_req q) (map f xs)
unfolding member
negated_member f q [] = refl
negated_member f q (x ∷ xs) = rw (negated_member f q xs, same_move q (f x))

all_narrow : (rs : List Requirement) → ((q : Requirement) → member q rs ≡ true → Narrow q) → AllNarrow rs
unfolding member
all_narrow [] a = tt
all_narrow (r ∷ rs) a = (a r (rw (same_refl r)), all_narrow rs (λ q e. a q (or_right (same_req q r) (member q rs) e)))

map_narrow : (f : ℕ → Requirement) (xs : List ℕ) → ((e : ℕ) → Narrow (f e)) → AllNarrow (map f xs)
map_narrow f [] a = tt
map_narrow f (x ∷ xs) a = (a x, map_narrow f xs a)

-- ---- the law

module _ (ks cs : List ℕ) (m : ℕ) (keys : Keys ks m) (companions : Companions cs m) (xs : List ℕ) (valid : (e : ℕ) → has e xs ≡ true → Valid m e) where
  -- a requirement is there exactly where its entry is
  entry_there : (e : ℕ) → Valid m e → has e xs ≡ member (entry_req ks e) (map (entry_req ks) xs)
  entry_there e v = both_ways_lem (has e xs) (member (entry_req ks e) (map (entry_req ks) xs))
      (member_of (entry_req ks) e xs)
      (λ h. let w = of_member (entry_req ks) (entry_req ks e) xs h in rw (same_entry ks m keys w.at e (valid w.at w.held) v w.is) at w.held)

  companion_there : (e : ℕ) → Valid m e → has (companion_of cs e) xs ≡ member (negate_req (entry_req ks e)) (map (entry_req ks) xs)
  companion_there e v = ap (λ k. has k xs) (companions e v) ∙ entry_there (turned true e) (turn_valid m e true v) ∙ ap (λ r. member r (map (entry_req ks) xs)) (turn_req ks e)

  kept : List ℕ
  kept = filtered xs (companion_of cs)

  kept_valid : (e : ℕ) → has e kept ≡ true → Valid m e
  unfolding kept
  kept_valid e h = valid e (and_right (not (has (companion_of cs e) xs)) (has e xs) (sym (filtered_has xs (companion_of cs) e) ∙ h))

  -- 02, A.3: with the negations as companions, the sets are the same as before
  pub filtered_settled : map (entry_req ks) (filtered xs (companion_of cs)) ≡ settled (map (entry_req ks) xs)
  unfolding filtered settled
  filtered_settled =
      map_stay (entry_req ks) (λ e. not (has (companion_of cs e) xs)) (λ r. not (member (negate_req r) (map (entry_req ks) xs))) xs
      (λ e h. ap not (companion_there e (valid e h)))

  kept_member : (q : Requirement) → member q (map (entry_req ks) kept) ≡ not (member (negate_req q) (map (entry_req ks) xs)) && member q (map (entry_req ks) xs)
  unfolding kept
  kept_member q = ap (member q) filtered_settled ∙ settled_member q (map (entry_req ks) xs)

  codes_read : (l : List ℕ) → ((e : ℕ) → has e l ≡ true → Valid m e) → map (λ e. entry_code ks (companion_of cs e)) l ≡ map code_of (map (λ e. negate_req (entry_req ks e)) l)
  codes_read [] a = refl
  codes_read (x ∷ l) a =
      let v = a x (has_self x l) in
      let p : entry_code ks (companion_of cs x) ≡ code_of (negate_req (entry_req ks x)) = ap (entry_code ks) (companions x v) ∙ entry_code_lem ks m keys (turned true x) (turn_valid m x true v) ∙ ap code_of (turn_req ks x) in
      rw (p, codes_read l (λ e h. a e (has_later e x l h)))

  -- gs is the set of what the entries stand for
  module _ (gs : List Requirement) (order : Sorted gs) (same : (q : Requirement) → member q gs ≡ member q (map (entry_req ks) xs)) where
    pub negated_codes_lem : negated_codes ks cs xs ≡ map code_of (extend [] (settled gs))
    unfolding negated_codes companion_codes kept
    negated_codes_lem =
        let rs : List Requirement = map (λ e. negate_req (entry_req ks e)) kept in
        ap sorted_codes (codes_read kept kept_valid)
        ∙ sym (sorted_code rs (map_narrow (λ e. negate_req (entry_req ks e)) kept (λ e. negate_narrow (entry_req ks e) (entry_narrow ks e))))
        ∙ ap (map code_of)
        (ext (sorted rs) (extend [] (settled gs)) (sorted_sorted rs) (extend_sorted [] (settled gs) tt)
        (λ q. member_sorted q rs ∙ negated_member (entry_req ks) q kept ∙ kept_member (negate_req q) ∙ sym (extended q)))
      where
        extended : (q : Requirement) → member q (extend [] (settled gs)) ≡ not (member (negate_req (negate_req q)) (map (entry_req ks) xs)) && member (negate_req q) (map (entry_req ks) xs)
        extended q = extend_none q (settled gs) ∙ settled_member (negate_req q) gs ∙ (rw (same (negate_req (negate_req q)), same (negate_req q)))

    pub negated_narrow : AllNarrow (settled gs)
    unfolding settled
    negated_narrow =
        keep_narrow (λ r. not (member (negate_req r) gs)) gs
        (all_narrow gs (λ q h. let w = of_member (entry_req ks) q xs (sym (same q) ∙ h) in rw w.is at (entry_narrow ks w.at)))

  -- .. where into inserts requirements one after the other, the first one first
  module _ (into : List Requirement → List Requirement → List Requirement) (none_left : (rs : List Requirement) → into [] rs ≡ rs)
      (one_more_lem : (y : Requirement) (ys rs : List Requirement) → into (y ∷ ys) rs ≡ into ys (insert y rs)) where
    into_sorted : (ys rs : List Requirement) → Sorted rs → Sorted (into ys rs)
    into_sorted [] rs s = rw (none_left rs) s
    into_sorted (y ∷ ys) rs s = rw (one_more_lem y ys rs) (into_sorted ys (insert y rs) (insert_sorted y rs s))

    into_member : (q : Requirement) (ys rs : List Requirement) → member q (into ys rs) ≡ member q ys || member q rs
    unfolding member
    into_member q [] rs = ap (member q) (none_left rs)
    into_member q (y ∷ ys) rs =
        ap (member q) (one_more_lem y ys rs) ∙ into_member q ys (insert y rs) ∙ ap (λ t. member q ys || t) (member_insert q y rs)
        ∙ sym (or_assoc (member q ys) (same_req q y) (member q rs)) ∙ ap (λ t. t || member q rs) (or_comm (member q ys) (same_req q y))

    module _ (rs : List Requirement) (read : map (entry_req ks) xs ≡ rs) where
      same : (q : Requirement) → member q (into rs []) ≡ member q (map (entry_req ks) xs)
      unfolding member
      same q = into_member q rs [] ∙ or_comm (member q rs) false ∙ ap (member q) (sym read)

      -- the codes are those of the negations of what parse_requirements leaves of the requirements read
      pub inserted_codes : negated_codes ks cs xs ≡ map code_of (extend [] (settled (into rs [])))
      inserted_codes = negated_codes_lem (into rs []) (into_sorted rs [] tt) same

      pub inserted_narrow : AllNarrow (settled (into rs []))
      inserted_narrow = negated_narrow (into rs []) (into_sorted rs [] tt) same
