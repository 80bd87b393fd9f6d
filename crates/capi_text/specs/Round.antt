-- Over the calls on a shop's text: what was read prints as the same bytes, and what was printed reads as the same slots. Assumes nothing.
use Rattle.std.specs.Prelude.{◌≡◌, Bool, true, false, cond, List, [], ◌∷◌, map, ltb, eqb, ℤ, pos, negsuc, take, drop}
use Rattle.std.proofs.Math.Path.{refl}
use Rattle.std.proofs.Common.{ap, sym, ◌∙◌, arith, ltb-true, ltb-false, lt-ltb, le-ltb, le-leb, eq-eqb, eqb-true, take_at, ext_get_or}
use Rattle.std.proofs.Math.Option.{Option, none, some}
use Prim.Native.Nat.{ℕ, zero, suc, ◌+◌, ◌*◌, ◌≤◌, ◌<◌}
use Rattle.std.proofs.Math.Dec.{leb}
use Rattle.std.proofs.Math.ListN.{length, get_or, length-map, get_or-map}
use Rattle.std.proofs.lemmas.List.Edits.{sets-eq}
use Rattle.std.proofs.Math.Seq.{drop-append-add}
use mir.Syntax.{w16}
use Rattle.model.specs.Limits.{slot_count, entry_limit, wide16}
use Rattle.model.proofs.Laws.Checks.{and_left, and_right}
use Rattle.model.proofs.Laws.Checked.{all_at}
use Rattle.model.specs.Printer.{slot_lines}
use Rattle.model.specs.Sheet.{all}
use Rattle.model.specs.Shop
use Rattle.model.specs.Signed.{in_range}
use Rattle.shop_codes.specs.Codes.{requirement_of}
use Rattle.shop_codes.specs.Laws.{code_narrow}
use Rattle.shop.specs.Shapes.{entries, item_of, slot_of, slots_of}
use Rattle.shop.specs.Slots.{entries_length}
use Rattle.std.specs.Prelude as prelude
use Rattle.shop.specs.declared.Slot.{Slot}
use Rattle.shop.specs.declared.Shop.{Shop}
use Rattle.shop_arrays.specs.Arrays.{Arrays, no_such_item, item_from, item_to, row_at, slot_at, slots_from, shop_from, rows, arrays_of}
use Rattle.shop_arrays.specs.Back.{Full}
use Rattle.shop_arrays.specs.Slots.{slots_long, slot_in_lem}
use Rattle.slots_text.specs.Written.{text_limit}
use Rattle.text_model.proofs.Fits.{both}
use Rattle.text_model.specs.Text.{ReadText, slots, bad, read_text, item_printable, req_printable, slot_printable, printable}
use Rattle.text_model.proofs.Reasons.{bad_told}
use Rattle.text_model.proofs.Inverse.{printed_reads, read_prints, read_printable}
use Rattle.text_read.specs.Shops.{item_for, slot_for, shop_for}
use Rattle.text_read.specs.Back.{row_long, slot_few, shop_back}
use Rattle.capi_text.specs.Calls.{read_call, wrote_text, few, print_call}
use Rattle.capi_text.specs.Arrays.{text_short}

-- ---- the arrays of a shop stand for it

-- what a column holds past its end
abbrev past : Slot
past = record { item = prelude.Some (record { 0 = 0 }); limit = pos 0; requirements = []; len = 0 }

-- a slot that arrays can hold: a full row, and an item that its number stands for
record Held (x : Slot) : Type 0 where
  pub long : length x.requirements ≡ entry_limit
  pub back : item_from (item_to x.item) ≡ x.item

abbrev AllHeld : List Slot → Type 0
AllHeld [] = Unit {0}
AllHeld (x ∷ xs) = Held x × AllHeld xs

held_row : (xs : List Slot) (j : ℕ) → AllHeld xs → j < length xs → take entry_limit (drop (entry_limit * j) (rows xs)) ≡ (get_or xs j past).requirements
held_row [] j h l = absurd (omega arith)
held_row (x ∷ xs) zero h l = take_at x.requirements (rows xs) entry_limit h.0.long
held_row (x ∷ xs) (suc j) h l =
    let e : entry_limit * suc j ≡ length x.requirements + entry_limit * j = omega (arith, h.0.long) in
    ap (take entry_limit) (ap (λ k. drop k (rows (x ∷ xs))) e ∙ drop-append-add x.requirements (rows xs) (entry_limit * j)) ∙ held_row xs j h.1 (omega arith)

held_item : (xs : List Slot) (j : ℕ) → AllHeld xs → j < length xs → item_from (item_to (get_or xs j past).item) ≡ (get_or xs j past).item
held_item [] j h l = absurd (omega arith)
held_item (x ∷ xs) zero h l = h.0.back
held_item (x ∷ xs) (suc j) h l = held_item xs j h.1 (omega arith)

module _ (s : Shop) (long : length s.slots ≡ slot_count) (held : AllHeld s.slots) where
  slot_again : (j : ℕ) → j < slot_count → slot_at (arrays_of s) j ≡ get_or s.slots j past
  unfolding slot_at arrays_of
  slot_again j h =
      rw (
        get_or-map (λ (x : Slot). item_to x.item) s.slots j past,
        get_or-map (λ (x : Slot). x.limit) s.slots j past,
        get_or-map (λ (x : Slot). x.len) s.slots j past,
        held_row s.slots j held (omega arith),
        held_item s.slots j held (omega arith),
      )

  shop_again : shop_from (arrays_of s) ≡ s
  shop_again =
      ap (λ xs. record { slots = xs })
      (ext_get_or past (shop_from (arrays_of s)).slots s.slots (slots_long (arrays_of s) ∙ sym long)
      (λ j l. let m : j < slot_count = omega (arith, slots_long (arrays_of s)) in slot_in_lem (arrays_of s) j past m ∙ slot_again j m))

-- ---- what was read

item_again : (o : Option ℕ) → item_printable o ≡ true → item_from (item_to (item_for o)) ≡ item_for o
unfolding item_from
item_again none h = refl
item_again (some w) h = rw (le-ltb no_such_item w (omega (arith, ltb-true w wide16 h)))

all_held : (xs : List Shop.Slot) → all slot_printable xs ≡ true → AllHeld (map slot_for xs)
all_held [] h = tt
all_held (x ∷ xs) h =
    let p = and_left (slot_printable x) (all slot_printable xs) h in
    (record { long = row_long x.requirements (slot_few x p); back = item_again x.item (and_left (item_printable x.item) _ p) }, all_held xs (and_right (slot_printable x) _ h))

all_few : (xs : List Shop.Slot) → all slot_printable xs ≡ true → all few (map (λ (y : Slot). y.len) (map slot_for xs)) ≡ true
all_few [] h = refl
all_few (x ∷ xs) h = both (few (length x.requirements)) _ (le-leb (length x.requirements) entry_limit (slot_few x (and_left (slot_printable x) _ h))) (all_few xs (and_right (slot_printable x) _ h))

module _ (xs : List Shop.Slot) (p : printable xs ≡ true) where
  each : all slot_printable xs ≡ true
  each = and_right (eqb (length xs) slot_count) (all slot_printable xs) p

  count : length (map slot_for xs) ≡ slot_count
  count = length-map xs slot_for ∙ eqb-true (length xs) slot_count (and_left (eqb (length xs) slot_count) (all slot_printable xs) p)

  -- the arrays that are handed out stand for the slots
  pub slots_again : slots_of (shop_from (arrays_of (shop_for xs))) ≡ xs
  slots_again = ap slots_of (shop_again (shop_for xs) count (all_held xs each)) ∙ shop_back xs each

  few_again : all few (arrays_of (shop_for xs)).lens ≡ true
  unfolding arrays_of
  few_again = all_few xs each

-- reading a text and printing what it left in the arrays gives that text
pub read_then_print : (s out : List ℕ) (a : Arrays) → (read_call (read_text s) a).reason ≡ 0 → print_call (read_call (read_text s) a).arrays out ≡ wrote_text s out
unfolding print_call
read_then_print s out a h = by (read_text s) refl h
  where
    by : (x : ReadText) → read_text s ≡ x → (read_call x a).reason ≡ 0 → cond (all few (read_call x a).arrays.lens) (wrote_text (slot_lines 0 (slots_of (shop_from (read_call x a).arrays))) out) (record { long = 0; out = out }) ≡ wrote_text s out
    by (slots xs) q z = let p = read_printable s xs q in rw (few_again xs p, slots_again xs p, read_prints s xs q)
    by (bad l e) q z = absurd (omega (arith, (bad_told s l e q).some))

-- ---- what was printed

item_fits : (z : ℤ) → item_printable (item_of (item_from z)) ≡ true
unfolding item_from
item_fits (pos n) = by (ltb no_such_item n) refl
  where
    by : (b : Bool) → ltb no_such_item n ≡ b → ltb (cond b no_such_item n) wide16 ≡ true
    by true e = refl
    by false e = lt-ltb n wide16 (omega (arith, ltb-false no_such_item n e))
item_fits (negsuc zero) = refl
item_fits (negsuc (suc n)) = refl

codes_fit : (cs : List ℕ) → all req_printable (map requirement_of cs) ≡ true
codes_fit [] = refl
codes_fit (c ∷ cs) = both (req_printable (requirement_of c)) _ (lt-ltb _ _ (code_narrow c).fits) (codes_fit cs)

module _ (a : Arrays) (least : all few a.lens ≡ true) (low : all (in_range w16) a.limits ≡ true) where
  slot_fits : (i : ℕ) → slot_printable (slot_of (slot_at a i)) ≡ true
  unfolding slot_of slot_at
  slot_fits i =
      let es = entries (get_or a.lens i 0) (row_at a.codes i) in
      let n : length (map requirement_of es) ≡ get_or a.lens i 0 = length-map es requirement_of ∙ entries_length (get_or a.lens i 0) (row_at a.codes i) in
      both (item_printable (item_of (item_from (get_or a.items i (pos 0))))) _ (item_fits (get_or a.items i (pos 0)))
      (both (in_range w16 (get_or a.limits i (pos 0))) _ (all_at (in_range w16) a.limits (pos 0) refl low i)
      (both (leb (length (map requirement_of es)) entry_limit) _ (ap (λ k. leb k entry_limit) n ∙ all_at few a.lens 0 refl least i) (codes_fit es)))

  slots_fit : (i n : ℕ) → all slot_printable (map slot_of (slots_from a i n)) ≡ true
  unfolding slots_from
  slots_fit i zero = refl
  slots_fit i (suc n) = both (slot_printable (slot_of (slot_at a i))) _ (slot_fits i) (slots_fit (suc i) n)

  shop_fits : printable (slots_of (shop_from a)) ≡ true
  unfolding slots_of shop_from
  shop_fits = both (eqb (length (map slot_of (slots_from a 0 slot_count))) slot_count) _ (eq-eqb _ slot_count (length-map (slots_from a 0 slot_count) slot_of ∙ slots_long a)) (slots_fit 0 slot_count)

  -- the text that a print leaves in the array, and its length
  module _ (full : Full a) (out : List ℕ) (size : length out ≡ text_limit) where
    abbrev text : List ℕ
    text = slot_lines 0 (slots_of (shop_from a))

    printed : print_call a out ≡ wrote_text text out
    unfolding print_call
    printed = rw least

    text_again : take (print_call a out).long (print_call a out).out ≡ text
    text_again =
        let f : 0 + length text ≤ length out = omega (arith, text_short a full least (shop_from a) refl) in
        rw (printed, sets-eq text out 0 f) (take_at text (drop (0 + length text) out) (length text) refl)

    -- printing a shop whose limits have 16 bits and reading the text gives the same slots, whatever the arrays held
    pub print_then_read : (b : Arrays) → let r = read_call (read_text (take (print_call a out).long (print_call a out).out)) b in (r.reason ≡ 0) × (slots_of (shop_from r.arrays) ≡ slots_of (shop_from a))
    print_then_read b =
        let q : read_text (take (print_call a out).long (print_call a out).out) ≡ slots (slots_of (shop_from a)) = ap read_text text_again ∙ printed_reads (slots_of (shop_from a)) shop_fits in
        rw q (refl, slots_again (slots_of (shop_from a)) shop_fits)
