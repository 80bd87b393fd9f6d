-- A shop whose slots are all faithful: its normal form passes 8 where it does, and has the same preview. Assumes nothing.
use Rattle.std.specs.Prelude.{◌≡◌, Bool, true, false, not, cond, ◌&&◌, ℕ, ◌≤◌, leb, get_or, length, ℤ, pos}
use Rattle.std.proofs.Math.Path.{refl, ap}
use Rattle.std.proofs.Common.{sym, ◌∙◌, arith}
use Rattle.std.proofs.Math.Option.{Option, none, some}
use mathlib.Core.List.{List, [], ◌∷◌, map}
use borrow.Author.Tests.{leb-true, le-leb}
use Rattle.std.proofs.lemmas.List.{length-map}
use Rattle.model.specs.Limits.{entry_limit, slot_count}
use Rattle.model.specs.Save.{Save}
use Rattle.model.specs.Sheet.{Sheet, all}
use Rattle.model.specs.Requirement.{Requirement, keep, member, negate_req, settled, sorted}
use Rattle.model.specs.Shop.{Slot, item_known, limit_of, req_known, slot_ok, with_slots}
use Rattle.model.specs.Flags.{inside_for, req_inside, shop_inside, slot_inside}
use Rattle.model.specs.Meaning.{meaning_of, or_old, temp_after}
use Rattle.model.specs.Normal.{acquired_of, filled_slot, lone, normal, normal_for, normal_shop}
use Rattle.model.specs.Preview.{preview_call}
use Rattle.model.proofs.Laws.Checks.{and_left, and_right}
use Rattle.model.proofs.Laws.Normal.{sorted_length, keep_length}
use Rattle.model.proofs.Laws.Places.{padded_all}
use Rattle.faithful_model.specs.Faithful.{is_faithful}
use Rattle.faithful_model.specs.Lists.{all_member, all_of}
use Rattle.signed_model.proofs.Rule.{left_was, left_of, normal_left, rule_same}

-- ---- the normal form passes 8 where the slot does

left_length : (h : Sheet) (w l : ℕ) (rs : List Requirement) → length (left_of h w l rs) ≤ length rs
unfolding left_of settled
left_length h w l rs = by (leb l 1)
  where
    by : (b : Bool) → length (cond b (keep (lone (acquired_of h w) (sorted rs)) (sorted rs)) (settled (sorted rs))) ≤ length rs
    by true = omega (arith, keep_length (lone (acquired_of h w) (sorted rs)) (sorted rs), sorted_length rs)
    by false = omega (arith, keep_length (λ r. not (member (negate_req r) (sorted rs))) (sorted rs), sorted_length rs)

normal_item : (h : Sheet) (x : Slot) → (normal h x).item ≡ x.item
unfolding normal
normal_item h x = by x.item
  where
    pick : (w l : ℕ) (ks qs : List Requirement) (b : Bool) → (cond b (filled_slot w 1 ks) (filled_slot w l qs)).item ≡ some w
    pick w l ks qs true = refl
    pick w l ks qs false = refl

    by : (o : Option ℕ) → (normal_for h o x.limit (sorted x.requirements)).item ≡ o
    by none = refl
    by (some w) = pick w (limit_of h w x.limit) _ _ (leb (limit_of h w x.limit) 1)

pub normal_ok : (h : Sheet) (x : Slot) → slot_ok h x ≡ true → slot_ok h (normal h x) ≡ true
normal_ok h x ok = rw (normal_item h x, and_left (item_known h x.item) _ ok) (by x.item refl)
  where
    rest : leb (length x.requirements) entry_limit && all (req_known h) x.requirements ≡ true
    rest = and_right (item_known h x.item) _ ok

    by : (o : Option ℕ) → x.item ≡ o → leb (length (normal h x).requirements) entry_limit && all (req_known h) (normal h x).requirements ≡ true
    by none e = unfold normal in rw e
    by (some w) e =
        let l = limit_of h w x.limit in
        let few = leb-true (length x.requirements) entry_limit (and_left (leb (length x.requirements) entry_limit) _ rest) in
        rw (normal_left h x w e, le-leb (length (left_of h w l x.requirements)) entry_limit (omega (arith, few, left_length h w l x.requirements)))
        (all_of (req_known h) (left_of h w l x.requirements) (λ r m. all_member (req_known h) r x.requirements (and_right (leb (length x.requirements) entry_limit) _ rest) (left_was h w l r x.requirements m).0))

-- what is left reads no other flags
normal_inside : (h : Sheet) (x : Slot) → slot_inside x ≡ true → slot_inside (normal h x) ≡ true
unfolding slot_inside
normal_inside h x i = by x.item refl
  where
    by : (o : Option ℕ) → x.item ≡ o → inside_for (normal h x).item (normal h x).requirements ≡ true
    by none e = rw (normal_item h x ∙ e)
    by (some w) e =
        rw (normal_left h x w e, normal_item h x ∙ e)
        (all_of req_inside (left_of h w (limit_of h w x.limit) x.requirements) (λ r m. all_member req_inside r x.requirements (rw e at i) (left_was h w (limit_of h w x.limit) r x.requirements m).0))

pub shop_inside_lem : (h : Sheet) (xs : List Slot) → shop_inside xs ≡ true → shop_inside (normal_shop h xs) ≡ true
shop_inside_lem h [] a = refl
shop_inside_lem h (x ∷ xs) a = rw (normal_inside h x (and_left (slot_inside x) _ a)) (shop_inside_lem h xs (and_right (slot_inside x) _ a))

pub shop_ok : (h : Sheet) (xs : List Slot) → all (slot_ok h) xs ≡ true → all (slot_ok h) (normal_shop h xs) ≡ true
shop_ok h [] a = refl
shop_ok h (x ∷ xs) a = rw (normal_ok h x (and_left (slot_ok h x) _ a)) (shop_ok h xs (and_right (slot_ok h x) _ a))

-- ---- what it means is the same

module _ (h : Sheet) (s : Save) where
  meanings_same : (xs : List Slot) → all (is_faithful h) xs ≡ true → map (meaning_of h s) (normal_shop h xs) ≡ map (meaning_of h s) xs
  meanings_same [] f = refl
  meanings_same (x ∷ xs) f = rw (← rule_same h x (and_left (is_faithful h x) _ f) s, meanings_same xs (and_right (is_faithful h x) _ f))

  temp_same : (xs : List Slot) (z : ℤ) → all (is_faithful h) xs ≡ true → temp_after h s (normal_shop h xs) z ≡ temp_after h s xs z
  unfolding temp_after
  temp_same [] z f = refl
  temp_same (x ∷ xs) z f =
      temp_same xs (or_old (meaning_of h s (normal h x)).temp z) (and_right (is_faithful h x) _ f) ∙ ap (λ m. temp_after h s xs (or_old m.temp z)) (sym (rule_same h x (and_left (is_faithful h x) _ f) s))

module _ (h : Sheet) (xs : List Slot) (long : length xs ≡ slot_count) (ok : all (slot_ok h) xs ≡ true) (in-save : shop_inside xs ≡ true) (f : all (is_faithful h) xs ≡ true) where
  with_own : with_slots xs ≡ xs
  with_own = padded_all slot_count xs long

  with_normal : with_slots (normal_shop h xs) ≡ normal_shop h xs
  with_normal = padded_all slot_count (normal_shop h xs) (length-map xs (normal h) ∙ long)

  -- the preview of what is read is the preview of the shop, under any save
  pub preview_same : (s : Save) → preview_call h (normal_shop h xs) s ≡ preview_call h xs s
  unfolding preview_call
  preview_same s = rw (with_normal, with_own, shop_ok h xs ok, ok, shop_inside_lem h xs in-save, in-save, meanings_same h s xs f, temp_same h s xs (get_or s.variables 0 (pos 0)) f)
