-- What is told of the slots of a shop one after the other is what the call answers. Assumes nothing.
use Rattle.std.specs.Prelude.{◌≡◌, true, false, ℕ, ◌+◌, ◌<◌, ◌≤◌, get_or, length, set}
use Rattle.std.proofs.Math.Path.{sym, ap}
use Rattle.std.proofs.Common.{◌∙◌, arith, length-set, get_or-set_same, get_or-set_other}
use mathlib.Core.List.{List, [], map}
use Rattle.std.proofs.Math.Decide.{ℕ_discrete}
use Rattle.std.proofs.Math.ListN.{length-map, get_or-map}
use Rattle.std.proofs.Math.Seq.{ext_get_or}
use Rattle.model.specs.Limits.{slot_count}
use Rattle.model.specs.Refusal.{bad_sheet, bad_shop}
use Rattle.model.specs.Sheet.{Sheet, all, sheet_ok}
use Rattle.model.specs.Shop.{slot_ok, with_slots}
use Rattle.model.proofs.Laws.Places.{any_default, padded_all}
use Rattle.shop.specs.Shapes.{no_slot, slot_of, slots_of}
use Rattle.shop.specs.Slots.{shop_slot}
use Rattle.shop_arrays.specs.Arrays.{Arrays, shop_from, slot_at}
use Rattle.shop_arrays.specs.Slots.{slot_in_lem, slots_long}
use Rattle.signed_model.specs.Findings.{check_call, finding}
use Rattle.signed_check.specs.Answer.{Finding, accepted_as, checked_of, finding_is, finding_of, nothing_told}
use Rattle.signed_check.specs.declared.Finding as code
use Rattle.signed_check.specs.declared.Listed.TheVariants.{Sometimes}
use Rattle.signed_check.specs.declared.Verdict.TheVariants.{Faithful}

-- what a read past the findings would give
blank : code.Finding
blank = record { verdict = Faithful; limit = 0; doubled = 0; lost = 0; listed = Sometimes; settings = 0; codes = [] }

-- the first i findings are there
pub record Filled (f : ℕ → Finding) (c : List code.Finding) (i : ℕ) : Type 0 where
  pub low : i ≤ slot_count
  pub long : length c ≡ slot_count
  pub each : (j : ℕ) (d : code.Finding) → j < i → finding_is (get_or c j d) ≡ f j

pub filled_more : (f : ℕ → Finding) (c : List code.Finding) (i : ℕ) → Filled f c i → i < slot_count → (x : code.Finding) → finding_is x ≡ f i → Filled f (set c i x) (i + 1)
filled_more f c i q l x e = record {
  low = omega arith;
  long = length-set c i x ∙ q.long;
  each = λ j d m. by j d m (ℕ_discrete j i);
}
  where
    by : (j : ℕ) (d : code.Finding) → j < i + 1 → Dec (j ≡ i) → finding_is (get_or (set c i x) j d) ≡ f j
    by j d m (yes s) = rw s (ap finding_is (get_or-set_same c i x d (omega (arith, q.long))) ∙ e)
    by j d m (no s) = ap finding_is (get_or-set_other c i j x d s) ∙ q.each j d (omega arith)

-- arrays stand for twenty slots
pub shop_long : (a : Arrays) → length (slots_of (shop_from a)) ≡ slot_count
unfolding slots_of
shop_long a = length-map (shop_from a).slots slot_of ∙ slots_long a

module _ (h : Sheet) (a : Arrays) where
  pub with_shop : with_slots (slots_of (shop_from a)) ≡ slots_of (shop_from a)
  with_shop = padded_all slot_count (slots_of (shop_from a)) (shop_long a)

  -- check 8 of the shop is check 8 of each slot
  pub slot_passed : all (slot_ok h) (slots_of (shop_from a)) ≡ true → (i : ℕ) → i < slot_count → slot_ok h (slot_of (slot_at a i)) ≡ true
  slot_passed good i l = rw (slot_in_lem a i no_slot l) at (shop_slot h (shop_from a) i no_slot good (omega (arith, slots_long a)))

  abbrev pub told_at : ℕ → Finding
  told_at j = finding_of (finding h (slot_of (slot_at a j)))

  told_slots : (c : List code.Finding) → Filled told_at c slot_count → map finding_is c ≡ map finding_of (map (finding h) (slots_of (shop_from a)))
  unfolding slots_of
  told_slots c q =
      let l = (shop_from a).slots in
      let d = finding_of (finding h (slot_of no_slot)) in
      ext_get_or d (map finding_is c) (map finding_of (map (finding h) (map slot_of l)))
      (length-map c finding_is ∙ q.long ∙ sym (length-map (map (finding h) (map slot_of l)) finding_of ∙ length-map (map slot_of l) (finding h) ∙ length-map l slot_of ∙ slots_long a))
      (λ j m.
      let k : j < slot_count = omega (arith, q.long, length-map c finding_is) in
      any_default (map finding_is c) j d (finding_is blank) (omega arith) ∙ get_or-map finding_is c j blank ∙ q.each j blank k
      ∙ sym (get_or-map finding_of (map (finding h) (map slot_of l)) j (finding h (slot_of no_slot)) ∙ ap finding_of (get_or-map (finding h) (map slot_of l) j (slot_of no_slot) ∙ ap (finding h) (get_or-map slot_of l j no_slot ∙ ap slot_of (slot_in_lem a j no_slot k)))))

  pub told_shop : sheet_ok h ≡ true → all (slot_ok h) (slots_of (shop_from a)) ≡ true → (c : List code.Finding) → Filled told_at c slot_count → accepted_as c ≡ checked_of (check_call h (slots_of (shop_from a)))
  unfolding checked_of check_call
  told_shop ok good c q = rw (with_shop, ok, good, with_shop) (ap (λ (fs : List Finding). record { refusal = 0; slots = fs }) (told_slots c q))

  pub refused_sheet : sheet_ok h ≡ false → nothing_told bad_sheet ≡ checked_of (check_call h (slots_of (shop_from a)))
  unfolding checked_of check_call
  refused_sheet e = rw e

  pub refused_shop : sheet_ok h ≡ true → all (slot_ok h) (slots_of (shop_from a)) ≡ false → nothing_told bad_shop ≡ checked_of (check_call h (slots_of (shop_from a)))
  unfolding checked_of check_call
  refused_shop ok e = rw (with_shop, ok, e)
