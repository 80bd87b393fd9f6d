-- The normal form, and that the walk reads it. Assumes nothing.
use Rattle.std.specs.Prelude.{◌≡◌, Bool, not, cond, ◌&&◌, ◌||◌, ℕ, suc, ◌≤◌, ltb, leb, ℤ}
use Rattle.std.proofs.Math.Path.{refl, ap}
use Rattle.std.proofs.Common.{sym, ◌∙◌, arith}
use Rattle.std.proofs.Math.Bool.{true, false, or-false}
use Rattle.std.proofs.Math.Option.{Option, none, some}
use mathlib.Core.List.{List, [], ◌∷◌, map}
use Rattle.std.proofs.Math.ListN.{length}
use borrow.Author.Tests.{ltb-true, leb-true, le-leb}
use Rattle.std.specs.Int.{w16}
use Rattle.model.specs.Limits.{entry_limit}
use Rattle.model.specs.Signed.{in_range}
use Rattle.model.specs.Expr.{Expr, imm, imm16, imm32, negate, ok, two}
use Rattle.model.specs.declared.Op2.TheVariants.{BitAnd}
use Rattle.model.specs.Sheet.{Sheet, all, atc_for}
use Rattle.model.specs.Requirement.{Requirement, before, extend, haveAtc, haveFlag, haveItem, insert, keep, member, missingAtc, missingFlag, missingItem, negate_req, same_req, settled, sorted}
use Rattle.model.specs.Shop.{Slot, Timer, fifteen, five, item_known, limit_of, plain, req_known, slot_ok, ten, timer_of}
use Rattle.model.specs.Compile.{acquired_expr, acquired_req, atc_test, flag_test, item_test, join_tests, or_rate, rate_of, test}
use Rattle.model.specs.Parse.{few_entries, gather, parse_requirements, signed, value}
use Rattle.model.specs.Normal.{acquired_of, filled_slot, lone, normal, normal_for}
use Rattle.model.proofs.Laws.Checks.{and_left, and_right}
use Rattle.model.proofs.Laws.Reads.{AllOk, ItemOk, SlotOk, limit_reqs, read_back, read_for, unique_reqs}
use Rattle.model.proofs.Laws.Runs.{same_req_true}
use Rattle.model.proofs.Laws.Sets.{Sorted, ext, insert_sorted, keep_sorted, member_insert, member_keep, same_refl, sorted_sorted}
use Rattle.model.proofs.Laws.Bools.{or_move}

-- ---- what a compiled test reads as

value_imm : (z : ℤ) → value (imm z) ≡ some z
unfolding imm
value_imm z = by (in_range w16 z)
  where
    by : (b : Bool) → value (cond b (imm16 z) (imm32 z)) ≡ some z
    by true = refl
    by false = refl

pub neg_neg : (r : Requirement) → negate_req (negate_req r) ≡ r
neg_neg (haveItem i) = refl
neg_neg (missingItem i) = refl
neg_neg (haveAtc i) = refl
neg_neg (missingAtc i) = refl
neg_neg (haveFlag f) = refl
neg_neg (missingFlag f) = refl

negate_test : (r : Requirement) → negate (test r) ≡ test (negate_req r)
unfolding test item_test atc_test flag_test
negate_test (haveItem i) = refl
negate_test (missingItem i) = refl
negate_test (haveAtc i) = refl
negate_test (missingAtc i) = refl
negate_test (haveFlag f) = refl
negate_test (missingFlag f) = refl

-- two tests of equality that imply one another
pub both_ways_lem : (a b : Bool) → (a ≡ true → b ≡ true) → (b ≡ true → a ≡ true) → a ≡ b
both_ways_lem true true f g = refl
both_ways_lem true false f g = sym (f refl)
both_ways_lem false true f g = g refl
both_ways_lem false false f g = refl

same_neg : (a b : Requirement) → same_req (negate_req a) (negate_req b) ≡ same_req a b
same_neg a b = both_ways_lem _ _
    (λ e. let p : a ≡ b = sym (neg_neg a) ∙ ap negate_req (same_req_true (negate_req a) (negate_req b) e) ∙ neg_neg b in rw p (same_refl b))
    (λ e. rw (same_req_true a b e) (same_refl (negate_req b)))

pub same_move : (a b : Requirement) → same_req a (negate_req b) ≡ same_req (negate_req a) b
same_move a b = sym (same_neg a (negate_req b)) ∙ ap (λ c. same_req (negate_req a) c) (neg_neg b)

ok_neg : (h : Sheet) (r : Requirement) → req_known h (negate_req r) ≡ req_known h r
ok_neg h (haveItem i) = refl
ok_neg h (missingItem i) = refl
ok_neg h (haveAtc i) = refl
ok_neg h (missingAtc i) = refl
ok_neg h (haveFlag f) = refl
ok_neg h (missingFlag f) = refl

-- ---- sets of negations

pub extend_member : (q : Requirement) (s qs : List Requirement) → member q (extend s qs) ≡ member (negate_req q) qs || member q s
unfolding member
extend_member q s [] = refl
extend_member q s (x ∷ xs) =
    extend_member q (insert (negate_req x) s) xs ∙ rw (member_insert q (negate_req x) s, same_move q x) (or_move (same_req (negate_req q) x) (member (negate_req q) xs) (member q s))

pub extend_sorted : (s qs : List Requirement) → Sorted s → Sorted (extend s qs)
extend_sorted s [] k = k
extend_sorted s (x ∷ xs) k = extend_sorted (insert (negate_req x) s) xs (insert_sorted (negate_req x) s k)

pub settled_member : (q : Requirement) (g : List Requirement) → member q (settled g) ≡ not (member (negate_req q) g) && member q g
unfolding settled
settled_member q g = member_keep (λ r. not (member (negate_req r) g)) q g

-- the negations of what is settled in g
back_member : (q : Requirement) (g : List Requirement) → member q (extend [] (settled g)) ≡ not (member q g) && member (negate_req q) g
unfolding member
back_member q g = extend_member q [] (settled g) ∙ or-false _ ∙ settled_member (negate_req q) g ∙ rw (neg_neg q)

pub settled_sorted : (g : List Requirement) → Sorted g → Sorted (settled g)
unfolding settled
settled_sorted g k = keep_sorted _ g k

stock_same : (qs : List Requirement) (q : Requirement) → member q (extend [] (settled (extend [] qs))) ≡ member q (settled qs)
unfolding member
stock_same qs q = back_member q (extend [] qs) ∙ simp (extend_member, settled_member, neg_neg, or-false)

stock_law : (qs : List Requirement) → Sorted qs → extend [] (settled (extend [] qs)) ≡ settled qs
stock_law qs k = ext _ _ (extend_sorted [] (settled (extend [] qs)) tt) (settled_sorted qs k) (stock_same qs)

abbrev pub around : Requirement → List Requirement → List Requirement
around a qs = insert (negate_req a) (extend (insert a []) qs)

around_member : (a : Requirement) (qs : List Requirement) (q : Requirement) → member q (around a qs) ≡ same_req q (negate_req a) || (member (negate_req q) qs || (same_req q a || false))
unfolding member
around_member a qs q = rw (member_insert q (negate_req a) (extend (insert a []) qs), extend_member q (insert a []) qs, member_insert q a [])

bool_law : (a b c d : Bool) → not (b || (d || (a || false))) && (a || (c || (b || false))) ≡ (not d && (not a && not b)) && c
bool_law true true true true = refl
bool_law true true true false = refl
bool_law true true false true = refl
bool_law true true false false = refl
bool_law true false true true = refl
bool_law true false true false = refl
bool_law true false false true = refl
bool_law true false false false = refl
bool_law false true true true = refl
bool_law false true true false = refl
bool_law false true false true = refl
bool_law false true false false = refl
bool_law false false true true = refl
bool_law false false true false = refl
bool_law false false false true = refl
bool_law false false false false = refl

unique_same : (a : Requirement) (qs : List Requirement) (q : Requirement) → member q (extend [] (settled (around a qs))) ≡ member q (keep (lone a qs) qs)
unfolding lone
unique_same a qs q =
    back_member q (around a qs)
    ∙ rw (around_member a qs q, around_member a qs (negate_req q), same_neg q a, neg_neg q, ← same_move q a, member_keep (lone a qs) q qs)
    (bool_law (same_req q a) (same_req q (negate_req a)) (member q qs) (member (negate_req q) qs))

unique_law : (a : Requirement) (qs : List Requirement) → Sorted qs → extend [] (settled (around a qs)) ≡ keep (lone a qs) qs
unique_law a qs k = ext _ _ (extend_sorted [] (settled (around a qs)) tt) (keep_sorted (lone a qs) qs k) (unique_same a qs)

module _ (h : Sheet) where
  gather_test : (r : Requirement) (n : Bool) (rs : List Requirement) → req_known h r ≡ true → gather h (test r) n rs ≡ insert (signed n r) rs
  unfolding gather test item_test atc_test flag_test
  gather_test (haveItem i) n rs k = rw (value_imm, k)
  gather_test (missingItem i) n rs k = rw (value_imm, k)
  gather_test (haveAtc i) n rs k = rw (value_imm, k)
  gather_test (missingAtc i) n rs k = rw (value_imm, k)
  gather_test (haveFlag f) n rs k = rw value_imm
  gather_test (missingFlag f) true rs k = rw value_imm
  gather_test (missingFlag f) false rs k = rw value_imm

  gather_negated : (r : Requirement) (rs : List Requirement) → req_known h r ≡ true → gather h (negate (test r)) false rs ≡ insert (negate_req r) rs
  gather_negated r rs k = rw (negate_test r) (gather_test (negate_req r) false rs (ok_neg h r ∙ k))

  gather_join : (e : Expr) (rs s : List Requirement) → all (req_known h) rs ≡ true → gather h (negate (join_tests e rs)) false s ≡ extend (gather h (negate e) false s) rs
  unfolding gather join_tests
  gather_join e [] s k = refl
  gather_join e (r ∷ rs) s k =
      gather_join (two BitAnd e (test r)) rs s (and_right (req_known h r) _ k) ∙ ap (λ t. extend t rs) (gather_negated r (gather h (negate e) false s) (and_left (req_known h r) _ k))

  module _ (w : ℕ) (own-ok : req_known h (acquired_of h w) ≡ true) where
    gather_missing : (s : List Requirement) → gather h (negate (acquired_expr h w)) false s ≡ insert (negate_req (acquired_of h w)) s
    unfolding acquired_expr acquired_of gather
    gather_missing s = by (timer_of h w)
      where
        by : (t : Timer) → gather h (negate (or_rate (rate_of t) (test (acquired_of h w)))) false s ≡ insert (negate_req (acquired_of h w)) s
        by plain = gather_negated (acquired_of h w) s own-ok
        by five = gather_negated (acquired_of h w) s own-ok
        by ten = gather_negated (acquired_of h w) s own-ok
        by fifteen = gather_negated (acquired_of h w) s own-ok

    gather_acquired : (s : List Requirement) → gather h (negate (negate (acquired_expr h w))) false s ≡ insert (acquired_of h w) s
    unfolding acquired_expr acquired_of gather
    gather_acquired s = by (timer_of h w)
      where
        twice : gather h (negate (negate (test (acquired_of h w)))) false s ≡ insert (acquired_of h w) s
        twice = rw (negate_test (acquired_of h w), negate_test (negate_req (acquired_of h w)), neg_neg (acquired_of h w)) (gather_test (acquired_of h w) false s own-ok)

        by : (t : Timer) → gather h (negate (negate (or_rate (rate_of t) (test (acquired_of h w))))) false s ≡ insert (acquired_of h w) s
        by plain = twice
        by five = twice
        by ten = twice
        by fifteen = twice

    unique_normal : (qs : List Requirement) → all (req_known h) qs ≡ true → Sorted qs → unique_reqs h w qs ≡ keep (lone (acquired_of h w) qs) qs
    unfolding unique_reqs parse_requirements gather
    unique_normal [] k s = refl
    unique_normal (r ∷ rs) k s = rw (gathered) (unique_law (acquired_of h w) (r ∷ rs) s)
      where
        gathered : gather h (two BitAnd (negate (two BitAnd (negate (acquired_expr h w)) (join_tests (test r) rs))) (negate (acquired_expr h w))) false [] ≡ around (acquired_of h w) (r ∷ rs)
        gathered =
            ap (λ s₀. gather h (negate (acquired_expr h w)) false (gather h (negate (join_tests (test r) rs)) false s₀)) (gather_acquired [])
            ∙ gather_missing (gather h (negate (join_tests (test r) rs)) false (insert (acquired_of h w) []))
            ∙ ap (λ t. insert (negate_req (acquired_of h w)) t) (gather_join (test r) rs (insert (acquired_of h w) []) (and_right (req_known h r) _ k)
            ∙ ap (λ t. extend t rs) (gather_negated r (insert (acquired_of h w) []) (and_left (req_known h r) _ k)))

  stock_normal : (qs : List Requirement) → all (req_known h) qs ≡ true → Sorted qs → limit_reqs h qs ≡ settled qs
  unfolding limit_reqs parse_requirements settled
  stock_normal [] k s = refl
  stock_normal (r ∷ rs) k s = rw (gathered) (stock_law (r ∷ rs) s)
    where
      gathered : gather h (negate (join_tests (test r) rs)) false [] ≡ extend [] (r ∷ rs)
      gathered = gather_join (test r) rs [] (and_right (req_known h r) _ k) ∙ ap (λ t. extend t rs) (gather_negated r [] (and_left (req_known h r) _ k))

-- ---- from the checks of a compile

pub record SheetOk (h : Sheet) : Type 0 where
  pub items : length h.atc_of ≤ 512
  pub atcs : (w a : ℕ) → atc_for h w ≡ some a → ltb a h.atc_count ≡ true

pub all_insert : (p : Requirement → Bool) (r : Requirement) (xs : List Requirement) → p r ≡ true → all p xs ≡ true → all p (insert r xs) ≡ true
unfolding insert
all_insert p r [] a b = rw a
all_insert p r (x ∷ xs) a b = by (same_req r x) (before r x) (all_insert p r xs a (and_right (p x) _ b))
  where
    by : (e c : Bool) → all p (insert r xs) ≡ true → all p (cond e (x ∷ xs) (cond c (r ∷ x ∷ xs) (x ∷ insert r xs))) ≡ true
    by true c ih = b
    by false true ih = rw a b
    by false false ih = rw (and_left (p x) _ b) ih

pub all_sorted : (p : Requirement → Bool) (xs : List Requirement) → all p xs ≡ true → all p (sorted xs) ≡ true
unfolding sorted
all_sorted p [] a = refl
all_sorted p (x ∷ xs) a = all_insert p x (sorted xs) (and_left (p x) _ a) (all_sorted p xs (and_right (p x) _ a))

insert_length : (r : Requirement) (xs : List Requirement) → length (insert r xs) ≤ suc (length xs)
unfolding insert
insert_length r [] = omega arith
insert_length r (x ∷ xs) = by (same_req r x) (before r x) (insert_length r xs)
  where
    by : (e c : Bool) → length (insert r xs) ≤ suc (length xs) → length (cond e (x ∷ xs) (cond c (r ∷ x ∷ xs) (x ∷ insert r xs))) ≤ suc (suc (length xs))
    by true c ih = omega arith
    by false true ih = omega arith
    by false false ih = omega arith

pub sorted_length : (xs : List Requirement) → length (sorted xs) ≤ length xs
unfolding sorted
sorted_length [] = omega arith
sorted_length (x ∷ xs) = omega (arith, insert_length x (sorted xs), sorted_length xs)

pub keep_length : (p : Requirement → Bool) (xs : List Requirement) → length (keep p xs) ≤ length xs
keep_length p [] = omega arith
keep_length p (x ∷ xs) = by (p x) (keep_length p xs)
  where
    by : (c : Bool) → length (keep p xs) ≤ length xs → length (cond c (x ∷ keep p xs) (keep p xs)) ≤ suc (length xs)
    by true ih = omega arith
    by false ih = omega arith

module _ (h : Sheet) (ok : SheetOk h) where
  owned_ok : (w : ℕ) → ltb w (length h.atc_of) ≡ true → req_known h (acquired_of h w) ≡ true
  unfolding acquired_of
  owned_ok w p = by (atc_for h w) refl
    where
      by : (o : Option ℕ) → atc_for h w ≡ o → req_known h (acquired_req o w) ≡ true
      by none e = p
      by (some a) e = ok.atcs w a e

  module _ (x : Slot) (good : slot_ok h x ≡ true) where
    rest_ok : leb (length x.requirements) entry_limit && all (req_known h) x.requirements ≡ true
    rest_ok = and_right (item_known h x.item) _ good

    pub read_normal : read_back h x ≡ normal h x
    unfolding read_back normal
    read_normal = by x.item (and_left (item_known h x.item) _ good)
      where
        reqs_ok : all (req_known h) (sorted x.requirements) ≡ true
        reqs_ok = all_sorted (req_known h) x.requirements (and_right (leb (length x.requirements) entry_limit) _ rest_ok)

        by : (o : Option ℕ) → item_known h o ≡ true → read_for h o x.limit (sorted x.requirements) ≡ normal_for h o x.limit (sorted x.requirements)
        by none p = refl
        by (some w) p = rw (unique_normal h w (owned_ok w p) (sorted x.requirements) reqs_ok (sorted_sorted x.requirements), stock_normal h (sorted x.requirements) reqs_ok (sorted_sorted x.requirements))

    normal_small : few_entries (normal h x) ≡ true
    unfolding normal settled
    normal_small = by x.item
      where
        few : length (sorted x.requirements) ≤ entry_limit
        few = omega (arith, sorted_length x.requirements, leb-true (length x.requirements) entry_limit (and_left (leb (length x.requirements) entry_limit) _ rest_ok))

        pick : (w l : ℕ) (b : Bool) → few_entries (cond b (filled_slot w 1 (keep (lone (acquired_of h w) (sorted x.requirements)) (sorted x.requirements))) (filled_slot w l (settled (sorted x.requirements)))) ≡ true
        pick w l true = le-leb (length (keep (lone (acquired_of h w) (sorted x.requirements)) (sorted x.requirements))) entry_limit (omega (arith, few, keep_length (lone (acquired_of h w) (sorted x.requirements)) (sorted x.requirements)))
        pick w l false = le-leb (length (settled (sorted x.requirements))) entry_limit (omega (arith, few, keep_length (λ r. not (member (negate_req r) (sorted x.requirements))) (sorted x.requirements)))

        by : (o : Option ℕ) → few_entries (normal_for h o x.limit (sorted x.requirements)) ≡ true
        by none = refl
        by (some w) = pick w (limit_of h w x.limit) (leb (limit_of h w x.limit) 1)

    slot_is_ok : SlotOk h x
    slot_is_ok = record { item_ok = by x.item (and_left (item_known h x.item) _ good); tiny = rw read_normal normal_small }
      where
        by : (o : Option ℕ) → item_known h o ≡ true → ItemOk h o
        by none p = tt
        by (some w) p = (p, omega (arith, ltb-true w (length h.atc_of) p, ok.items))

  pub slots_ok : (xs : List Slot) → all (slot_ok h) xs ≡ true → AllOk h xs
  slots_ok [] p = tt
  slots_ok (x ∷ xs) p = (slot_is_ok x (and_left (slot_ok h x) _ p), slots_ok xs (and_right (slot_ok h x) _ p))

  pub slots_normal : (xs : List Slot) → all (slot_ok h) xs ≡ true → map (read_back h) xs ≡ map (normal h) xs
  slots_normal [] p = refl
  slots_normal (x ∷ xs) p = rw (read_normal x (and_left (slot_ok h x) _ p), slots_normal xs (and_right (slot_ok h x) _ p))
