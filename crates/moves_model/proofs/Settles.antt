-- The normal form of a normal form is itself. Assumes nothing.
use Rattle.std.specs.Prelude.{◌≡◌, Bool, not, ◌&&◌, ℕ, ltb, ℤ, pos, negsuc}
use Rattle.std.proofs.Math.Path.{refl}
use Rattle.std.proofs.Common.{ap, ◌∙◌}
use Rattle.std.proofs.Math.Bool.{true, false, cond}
use Rattle.std.proofs.Math.Option.{Option, none, some}
use mathlib.Core.List.{List, [], ◌∷◌}
use Rattle.std.proofs.Math.Dec.{leb}
use Rattle.model.specs.Sheet.{Sheet, atc_for}
use Rattle.model.specs.Requirement.{Requirement, keep, member, negate_req, same_req, settled, sorted}
use Rattle.model.specs.Shop.{Slot, Timer, atc_limit, between, fifteen, five, limit_of, plain, ten, timer_of}
use Rattle.model.specs.Normal.{acquired_of, filled_slot, lone, normal, normal_filled, normal_for, normal_shop}
use Rattle.model.proofs.Laws.Sets.{Sorted, ext, keep_sorted, member_keep, sorted_sorted, member_sorted}
use Rattle.model.proofs.Laws.Normal.{settled_sorted}

-- ---- limits

between_again : (z : ℤ) → between (pos (between z)) ≡ between z
between_again (negsuc n) = refl
between_again (pos n) = by (ltb n 1) (ltb 10 n) refl refl
  where
    by : (a b : Bool) → ltb n 1 ≡ a → ltb 10 n ≡ b → between (pos (cond a 1 (cond b 10 n))) ≡ cond a 1 (cond b 10 n)
    by true b p q = refl
    by false true p q = refl
    by false false p q = rw (p, q)

pub limit_again : (h : Sheet) (w : ℕ) (z : ℤ) → limit_of h w (pos (limit_of h w z)) ≡ limit_of h w z
unfolding limit_of
limit_again h w z = by (atc_for h w) (timer_of h w)
  where
    by : (o : Option ℕ) (t : Timer) → atc_limit o t (pos (atc_limit o t z)) ≡ atc_limit o t z
    by (some a) t = refl
    by none plain = between_again z
    by none five = refl
    by none ten = refl
    by none fifteen = refl

pub limit_one : (h : Sheet) (w : ℕ) → limit_of h w (pos 1) ≡ 1
unfolding limit_of
limit_one h w = by (atc_for h w) (timer_of h w)
  where
    by : (o : Option ℕ) (t : Timer) → atc_limit o t (pos 1) ≡ 1
    by (some a) t = refl
    by none plain = refl
    by none five = refl
    by none ten = refl
    by none fifteen = refl

-- ---- sets

-- what is sorted stays as it is
sorted_id : (xs : List Requirement) → Sorted xs → sorted xs ≡ xs
sorted_id xs s = ext (sorted xs) xs (sorted_sorted xs) s (λ q. member_sorted q xs)

settled_bool : (x a m : Bool) → not (x && a) && (not a && m) ≡ not a && m
settled_bool true true m = refl
settled_bool true false m = refl
settled_bool false true m = refl
settled_bool false false m = refl

settled_again : (qs : List Requirement) → Sorted qs → settled (settled qs) ≡ settled qs
unfolding settled
settled_again qs s =
    let p : Requirement → Bool = λ r. not (member (negate_req r) qs) in
    let k : Sorted (keep p qs) = keep_sorted p qs s in
    ext _ (keep p qs) (keep_sorted _ (keep p qs) k) k
    (λ q. member_keep _ q (keep p qs) ∙ rw (member_keep p (negate_req q) qs, member_keep p q qs) (settled_bool (p (negate_req q)) (member (negate_req q) qs) (member q qs)))

lone_bool : (x a b m : Bool) → (not (x && a) && b) && ((not a && b) && m) ≡ (not a && b) && m
lone_bool true true b m = refl
lone_bool true false true m = refl
lone_bool true false false m = refl
lone_bool false true true m = refl
lone_bool false true false m = refl
lone_bool false false true m = refl
lone_bool false false false m = refl

lone_again : (a : Requirement) (qs : List Requirement) → Sorted qs → keep (lone a (keep (lone a qs) qs)) (keep (lone a qs) qs) ≡ keep (lone a qs) qs
unfolding lone
lone_again a qs s =
    let p : Requirement → Bool = lone a qs in
    let k : Sorted (keep p qs) = keep_sorted p qs s in
    ext _ (keep p qs) (keep_sorted _ (keep p qs) k) k
    (λ q. member_keep (lone a (keep p qs)) q (keep p qs) ∙ rw (member_keep p (negate_req q) qs, member_keep p q qs)
    (lone_bool (p (negate_req q)) (member (negate_req q) qs) (not (same_req q a) && not (same_req q (negate_req a))) (member q qs)))

-- ---- the normal form is its own

module _ (h : Sheet) where
  filled_again : (w l : ℕ) (qs : List Requirement) → Sorted qs → limit_of h w (pos l) ≡ l → normal h (normal_filled h w l qs) ≡ normal_filled h w l qs
  unfolding normal
  filled_again w l qs s e = by (leb l 1) refl
    where
      by : (b : Bool) → leb l 1 ≡ b → normal h (cond b (filled_slot w 1 (keep (lone (acquired_of h w) qs) qs)) (filled_slot w l (settled qs))) ≡ cond b (filled_slot w 1 (keep (lone (acquired_of h w) qs) qs)) (filled_slot w l (settled qs))
      by true p =
          let ks : List Requirement = keep (lone (acquired_of h w) qs) qs in
          rw (limit_one h w, sorted_id ks (keep_sorted _ qs s)) (ap (filled_slot w 1) (lone_again (acquired_of h w) qs s))
      by false p = rw (e, sorted_id (settled qs) (settled_sorted qs s), p) (ap (filled_slot w l) (settled_again qs s))

  pub normal_again : (x : Slot) → normal h (normal h x) ≡ normal h x
  unfolding normal
  normal_again x = by x.item
    where
      by : (o : Option ℕ) → normal h (normal_for h o x.limit (sorted x.requirements)) ≡ normal_for h o x.limit (sorted x.requirements)
      by none = refl
      by (some w) = filled_again w (limit_of h w x.limit) (sorted x.requirements) (sorted_sorted x.requirements) (limit_again h w x.limit)

  pub shop_again : (xs : List Slot) → normal_shop h (normal_shop h xs) ≡ normal_shop h xs
  shop_again [] = refl
  shop_again (x ∷ xs) = rw (normal_again x, shop_again xs)
