-- The text of a requirement, of a slot and of a shop, and how long they are at most. Assumes nothing.
use Rattle.std.specs.Prelude.{◌≡◌, List, [], ◌∷◌, ◌++◌, map, Bool, true, false, cond, ℕ, zero, suc, ◌+◌, ◌*◌, ◌/◌, ◌%◌, ◌≤◌, ◌<◌, ltb, ℤ, pos, negsuc, take, drop, get_or}
use Rattle.std.proofs.Math.Path.{refl}
use Rattle.std.proofs.Math.Option.{Option, none, some}
use Rattle.std.proofs.Common.{arith, add-one, length-append, drop_of_length-le}
use Rattle.std.proofs.Math.ListN.{length}
use Rattle.std.proofs.lemmas.List.{length-map}
use Rattle.std.proofs.Math.Seq.{drop-cons}
use Rattle.model.specs.Limits.{entry_limit, slot_count, wide}
use Rattle.model.specs.Requirement.{Requirement, number}
use Rattle.model.specs.Printer.{digits_to, decimal, signed_decimal, letter, requirements_text, item_text, slot_line, slot_lines, refused_text}
use Rattle.model.specs.Shop
use Rattle.shop_codes.specs.Codes.{unshift, of_kind, requirement_of}
use Rattle.shop.specs.Shapes.{entries, item_of, slot_of, slots_of}
use Rattle.shop.specs.Slots.{entries_take, entries_length}
use Rattle.shop.specs.declared.Slot.{Slot}
use Rattle.model.specs.declared.ItemId.{ItemId}
use Rattle.std.specs.Prelude as prelude
use Rattle.shop.specs.declared.Shop.{Shop}
use Rattle.slots_text.specs.Written.{Space, Part, part_start}

-- a blank, the letter of the kind and the number
abbrev pub requirement_text : Requirement → List ℕ
requirement_text r = 32 ∷ letter r ∷ signed_decimal (number r)

-- what a read past the array would give
abbrev pub beyond : Slot
beyond = record { item = prelude.None; limit = pos 0; requirements = []; len = 0 }

-- no slot has more entries than may be given
pub record FewEach (s : Shop) : Type 0 where
  pub each : (j : ℕ) → j < slot_count → (get_or s.slots j beyond).len ≤ entry_limit

-- ---- lengths

digits_short : (f n : ℕ) → length (digits_to f n) ≤ f
unfolding digits_to
digits_short zero n = omega arith
digits_short (suc f) n = by (ltb n 10) (digits_to f (n / 10)) (digits_short f (n / 10))
  where
    by : (b : Bool) (high : List ℕ) → length high ≤ f → length (cond b ((48 + n) ∷ []) (high ++ (48 + n % 10) ∷ [])) ≤ suc f
    by true high h = omega arith
    by false high h = omega (arith, length-append high ((48 + n % 10) ∷ []))

pub decimal_short : (n : ℕ) → length (decimal n) ≤ 10
unfolding decimal
decimal_short n = digits_short 10 n

signed_short : (z : ℤ) → length (signed_decimal z) ≤ 11
unfolding signed_decimal
signed_short (pos n) = omega (arith, decimal_short n)
signed_short (negsuc n) = omega (arith, decimal_short (suc n))

item_short : (i : Option ℕ) → length (item_text i) ≤ 10
unfolding item_text
item_short none = omega arith
item_short (some w) = decimal_short w

requirements_short : (rs : List Requirement) → length (requirements_text rs) ≤ 13 * length rs
unfolding requirements_text
requirements_short [] = omega arith
requirements_short (r ∷ rs) = omega (arith, signed_short (number r), requirements_short rs, length-append (signed_decimal (number r)) (requirements_text rs))

line_short : (i : ℕ) (x : Shop.Slot) → length (slot_line i x) ≤ 34 + 13 * length x.requirements
unfolding slot_line
line_short i x =
    let r = requirements_text x.requirements in
    let l = signed_decimal x.limit in
    let w = item_text x.item in
    omega (
      arith,
      decimal_short i,
      item_short x.item,
      signed_short x.limit,
      requirements_short x.requirements,
      length-append r (10 ∷ []),
      length-append l (r ++ 10 ∷ []),
      length-append w (32 ∷ (l ++ (r ++ 10 ∷ []))),
      length-append (decimal i) (32 ∷ (w ++ (32 ∷ (l ++ (r ++ 10 ∷ []))))),
    )

slot_short : (i : ℕ) (x : Slot) → x.len ≤ entry_limit → length (slot_line i (slot_of x)) ≤ 450
unfolding slot_of
slot_short i x h =
    let es = entries x.len x.requirements in
    omega (arith, line_short i (slot_of x), length-map es requirement_of, entries_length x.len x.requirements)

lines_short : (i : ℕ) (xs : List Slot) → ((j : ℕ) → j < length xs → (get_or xs j beyond).len ≤ entry_limit) → length (slot_lines i (map slot_of xs)) ≤ 450 * length xs
unfolding slot_lines
lines_short i [] h = omega arith
lines_short i (x ∷ xs) h =
    omega (arith, slot_short i x (h 0 (omega arith)), lines_short (suc i) xs (λ j l. h (suc j) (omega arith)), length-append (slot_line i (slot_of x)) (slot_lines (suc i) (map slot_of xs)))

-- ---- the entries of a slot from entry i on, and the lines of a shop from slot i on

abbrev pub entries_from : ℕ → Slot → List ℕ
entries_from i x = requirements_text (map requirement_of (drop i (take x.len x.requirements)))

module _ (x : Slot) (size : length x.requirements ≡ entry_limit) (few : x.len ≤ entry_limit) where
  pub entries_all : requirements_text (slot_of x).requirements ≡ entries_from 0 x
  unfolding slot_of
  entries_all = rw (entries_take x.len x.requirements (omega arith))

  -- the part of the row that has the entries
  module _ (n : ℕ) (e : n ≡ x.len) where
    pub entries_next : (i : ℕ) → i < length (take n x.requirements) → entries_from i x ≡ requirement_text (requirement_of (get_or (take n x.requirements) i 0)) ++ entries_from (i + 1) x
    unfolding requirements_text
    entries_next i h = rw (e, add-one, drop-cons (take x.len x.requirements) i 0 (rw e at h))

    pub entries_end : (i : ℕ) → length (take n x.requirements) ≤ i → entries_from i x ≡ []
    unfolding requirements_text
    entries_end i h = rw (drop_of_length-le (take x.len x.requirements) {i = i} (rw e at h))

abbrev pub lines_from : ℕ → Shop → List ℕ
lines_from i s = slot_lines i (map slot_of (drop i s.slots))

module _ (s : Shop) (size : length s.slots ≡ slot_count) where
  pub lines_all : slot_lines 0 (slots_of s) ≡ lines_from 0 s
  unfolding slots_of
  lines_all = refl

  pub lines_next : (i : ℕ) → i < slot_count → lines_from i s ≡ slot_line i (slot_of (get_or s.slots i beyond)) ++ lines_from (i + 1) s
  unfolding slot_lines
  lines_next i h = rw (add-one, drop-cons s.slots i beyond (omega arith))

  pub lines_end : (i : ℕ) → slot_count ≤ i → lines_from i s ≡ []
  unfolding slot_lines
  lines_end i h = rw (drop_of_length-le s.slots {i = i} (omega arith))

  pub lines_space : FewEach s → Space 0 (slot_lines 0 (slots_of s))
  unfolding slots_of
  lines_space f = record { fits = omega (arith, lines_short 0 s.slots (λ j l. f.each j (omega arith))) }

-- ---- where each text begins

module _ {xs : List ℕ} {at : ℕ} where
  pub requirement_start : (c : ℕ) → Part xs at (requirement_text (requirement_of c)) (32 ∷ letter (of_kind (c / wide) (unshift (c % wide))) ∷ signed_decimal (number (requirement_of c))) xs at
  unfolding requirement_of
  requirement_start c = part_start

  pub line_start : (i : ℕ) (x : Slot) → Part xs at (slot_line i (slot_of x)) (decimal i ++ (32 ∷ (item_text (item_of x.item) ++ (32 ∷ (signed_decimal x.limit ++ (requirements_text (slot_of x).requirements ++ 10 ∷ [])))))) xs at
  unfolding slot_line slot_of
  line_start i x = part_start

  pub refused_start : (n : ℕ) → Part xs at (refused_text n) ((114 ∷ 101 ∷ 102 ∷ 117 ∷ 115 ∷ 101 ∷ 100 ∷ 32 ∷ []) ++ (decimal n ++ 10 ∷ [])) xs at
  unfolding refused_text
  refused_start n = part_start

pub refused_space : (n : ℕ) → Space 0 (refused_text n)
unfolding refused_text
refused_space n = record { fits = omega (arith, decimal_short n, length-append (decimal n) (10 ∷ [])) }

-- ---- an item or none

pub item_none : (i : prelude.Option ItemId) → i ≡ prelude.None → item_text (item_of i) ≡ 45 ∷ []
unfolding item_text
item_none i e = rw e

pub item_some : (i : prelude.Option ItemId) (w : ItemId) → i ≡ prelude.Some w → item_text (item_of i) ≡ decimal w.0
unfolding item_text
item_some i w e = rw e
