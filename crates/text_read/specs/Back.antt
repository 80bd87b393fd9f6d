-- The shop that is handed out stands for the slots that were read. Assumes nothing.
use Rattle.std.specs.Prelude.{◌≡◌, refl, true, ◌&&◌, List, [], ◌∷◌, map, ℕ, ◌-◌, ◌≤◌, leb, length, replicate}
use Rattle.std.proofs.Common.{ap, ◌∙◌, arith, ltb-true, leb-true, length-append, take_at}
use Rattle.std.proofs.Math.Option.{Option, none, some}
use Rattle.std.proofs.lemmas.List.{length-map, length-replicate}
use Rattle.std.specs.Int.{w16}
use Rattle.model.specs.Limits.{entry_limit}
use Rattle.model.proofs.Laws.Checks.{and_left, and_right}
use Rattle.model.specs.Requirement.{Requirement}
use Rattle.model.specs.Sheet.{all}
use Rattle.model.specs.Shop
use Rattle.model.specs.Signed.{in_range}
use Rattle.shop_codes.specs.Codes.{code_of, requirement_of, AllNarrow}
use Rattle.shop_codes.specs.Laws.{codes_stand}
use Rattle.shop.specs.Shapes.{item_of, entries, slot_of, slots_of}
use Rattle.shop.specs.Slots.{entries_take}
use Rattle.text_model.specs.Text.{item_printable, req_printable, slot_printable}
use Rattle.text_read.specs.Shops.{item_for, row_for, slot_for, shop_for}

-- ---- one slot

all_narrow : (rs : List Requirement) → all req_printable rs ≡ true → AllNarrow rs
all_narrow [] h = tt
all_narrow (r ∷ rs) h = (record { fits = ltb-true _ _ (and_left (req_printable r) _ h) }, all_narrow rs (and_right (req_printable r) _ h))

-- a row is full
pub row_long : (rs : List Requirement) → length rs ≤ entry_limit → length (row_for rs) ≡ entry_limit
row_long rs h = omega (arith, length-append (map code_of rs) (replicate (entry_limit - length rs) 0), length-map rs code_of, length-replicate {A = ℕ} (entry_limit - length rs) 0)

item_back : (o : Option ℕ) → item_of (item_for o) ≡ o
item_back none = refl
item_back (some w) = refl

row_back : (rs : List Requirement) → length rs ≤ entry_limit → AllNarrow rs → map requirement_of (entries (length rs) (row_for rs)) ≡ rs
row_back rs h n =
    let e = entries_take (length rs) (row_for rs) (omega (arith, row_long rs h)) in
    let t = take_at (map code_of rs) (replicate (entry_limit - length rs) 0) (length rs) (length-map rs code_of) in
    ap (map requirement_of) (e ∙ t) ∙ codes_stand rs n

module _ (x : Shop.Slot) (h : slot_printable x ≡ true) where
  counted : leb (length x.requirements) entry_limit && all req_printable x.requirements ≡ true
  counted = and_right (in_range w16 x.limit) _ (and_right (item_printable x.item) _ h)

  pub slot_few : length x.requirements ≤ entry_limit
  slot_few = leb-true (length x.requirements) entry_limit (and_left (leb (length x.requirements) entry_limit) _ counted)

  slot_narrow : AllNarrow x.requirements
  slot_narrow = all_narrow x.requirements (and_right (leb (length x.requirements) entry_limit) _ counted)

  slot_back : slot_of (slot_for x) ≡ x
  unfolding slot_of
  slot_back = rw (item_back x.item, row_back x.requirements slot_few slot_narrow)

-- ---- the shop

slots_back : (xs : List Shop.Slot) → all slot_printable xs ≡ true → map slot_of (map slot_for xs) ≡ xs
slots_back [] h = refl
slots_back (x ∷ xs) h = rw (slot_back x (and_left (slot_printable x) _ h), slots_back xs (and_right (slot_printable x) _ h))

pub shop_back : (xs : List Shop.Slot) → all slot_printable xs ≡ true → slots_of (shop_for xs) ≡ xs
unfolding slots_of
shop_back xs h = slots_back xs h
