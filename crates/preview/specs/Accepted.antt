-- A preview that no check refuses: its pairs are those of the shop's slots, each at its slot's number. Assumes nothing.
use Rattle.std.specs.Prelude.{◌≡◌, true, List, ◌++◌, map, ℕ, ◌+◌, ℤ, pos, length, take, drop, replicate}
use Rattle.std.proofs.Common.{ap, ◌∙◌, append-nil, arith}
use Rattle.std.proofs.lemmas.List.{length-map}
use Rattle.std.proofs.lemmas.List.Edits.{sets, sets-eq}
use Rattle.model.specs.Limits.{slot_count}
use Rattle.model.specs.Save.{Save}
use Rattle.model.specs.Sheet.{Sheet, sheet_refusal, save_refusal}
use Rattle.model.specs.Shop.{Slot, with_slots, shop_refusal}
use Rattle.model.specs.Flags.{shop_inside}
use Rattle.model.specs.Preview.{Preview, preview_call}
use Rattle.model.proofs.Laws.Places.{padded_all}
use Rattle.preview.specs.Shown.{meanings_of, previewed_of}

-- twenty slots are the shop's already
pub with_all : (xs : List Slot) → length xs ≡ slot_count → with_slots xs ≡ xs
with_all xs e = padded_all slot_count xs e

pub accepted_preview : (h : Sheet) (xs : List Slot) (s : Save) → length xs ≡ slot_count → sheet_refusal h ≡ 0 → shop_refusal h xs ≡ 0 → save_refusal h s ≡ 0 → shop_inside xs ≡ true
    → preview_call h xs s ≡ meanings_of h xs s
unfolding preview_call
accepted_preview h xs s e a b d p = rw (a, b, d, with_all xs e, p)

-- twenty values over twenty zeros
pub all_set : (zs : List ℤ) → length zs ≡ slot_count → sets (replicate slot_count (pos 0)) 0 zs ≡ zs
all_set zs e =
    let z : List ℤ = replicate slot_count (pos 0) in
    let k : 0 + length zs ≡ slot_count = omega arith in
    sets-eq zs z 0 (omega arith) ∙ ap (λ (n : ℕ). take 0 z ++ zs ++ drop n z) k ∙ append-nil zs

module _ (p : Preview) (e : length p.slots ≡ slot_count) where
  pub items_are : (previewed_of p).items ≡ map (λ m. m.item) p.slots
  unfolding previewed_of
  items_are = all_set (map (λ m. m.item) p.slots) (length-map p.slots (λ m. m.item) ∙ e)

  pub counts_are : (previewed_of p).counts ≡ map (λ m. m.count) p.slots
  unfolding previewed_of
  counts_are = all_set (map (λ m. m.count) p.slots) (length-map p.slots (λ m. m.count) ∙ e)
