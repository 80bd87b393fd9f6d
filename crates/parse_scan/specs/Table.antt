-- The variables that a block wrote: numbers in an array, of which only those whose bit is set in a mask mean something. Assumes nothing.
use Rattle.std.specs.Prelude.{◌≡◌, refl, Bool, true, false, cond, List, [], ◌∷◌, ℕ, zero, suc, ◌+◌, ◌/◌, ◌^◌, ◌≤◌, ◌<◌, ℤ, pos, length, get_or, set, replicate}
use Rattle.std.proofs.Common.{sym, ap, ◌∙◌, arith}
use Rattle.std.proofs.Math.Option.{Option, none, some}
use Rattle.std.specs.Int.Bits.{bit_or}
use Rattle.std.specs.Int.Count.{count_trailing_zeros}
use Rattle.model.specs.Limits.{slot_count}
use Rattle.model.specs.Parse.{blank}
use Rattle.parse_scan.specs.Bits.{bits_of, bit_at, bit_at_lem, bits_set, bits_length, none_between, or_none}

-- a value is present where its bit is set
abbrev pub present : List Bool → List ℤ → List (Option ℤ)
present [] xs = []
present (b ∷ bs) [] = []
present (b ∷ bs) (x ∷ xs) = cond b (some x) none ∷ present bs xs

-- .. by the mask m
abbrev pub table_of : ℕ → List ℤ → List (Option ℤ)
table_of m xs = present (bits_of slot_count m) xs

-- ---- writing

present_set : (bs : List Bool) (xs : List ℤ) (i : ℕ) (v : ℤ) → present (set bs i true) (set xs i v) ≡ set (present bs xs) i (some v)
present_set [] xs i v = refl
present_set (b ∷ bs) [] zero v = refl
present_set (b ∷ bs) [] (suc i) v = refl
present_set (b ∷ bs) (x ∷ xs) zero v = refl
present_set (b ∷ bs) (x ∷ xs) (suc i) v = ap (λ l. cond b (some x) none ∷ l) (present_set bs xs i v)

pub table_set : (m : ℕ) (xs : List ℤ) (i : ℕ) (v : ℤ) → table_of (bit_or m (2 ^ i)) (set xs i v) ≡ set (table_of m xs) i (some v)
table_set m xs i v = ap (λ l. present l (set xs i v)) (bits_set slot_count i m) ∙ present_set (bits_of slot_count m) xs i v

-- ---- reading

present_at : (bs : List Bool) (xs : List ℤ) (j : ℕ) → j < length xs → get_or (present bs xs) j none ≡ cond (get_or bs j false) (some (get_or xs j (pos 0))) none
present_at [] xs j h = refl
present_at (b ∷ bs) [] j h = absurd (omega arith)
present_at (b ∷ bs) (x ∷ xs) zero h = refl
present_at (b ∷ bs) (x ∷ xs) (suc j) h = present_at bs xs j (omega arith)

present_length : (bs : List Bool) (xs : List ℤ) → length bs ≡ length xs → length (present bs xs) ≡ length xs
present_length [] [] e = refl
present_length [] (x ∷ xs) e = absurd (omega arith)
present_length (b ∷ bs) [] e = absurd (omega arith)
present_length (b ∷ bs) (x ∷ xs) e = ap suc (present_length bs xs (omega arith))

module _ (m : ℕ) (xs : List ℤ) (size : length xs ≡ slot_count) where
  pub table_long : length (table_of m xs) ≡ slot_count
  table_long = present_length (bits_of slot_count m) xs (bits_length slot_count m ∙ sym size) ∙ size

  module _ (j : ℕ) (low : j < slot_count) where
    at_bit : get_or (table_of m xs) j none ≡ cond (bit_at m j) (some (get_or xs j (pos 0))) none
    at_bit = present_at (bits_of slot_count m) xs j (omega arith) ∙ ap (λ b. cond b (some (get_or xs j (pos 0))) none) (bit_at_lem slot_count j m low)

    pub there : bit_at m j ≡ true → some (get_or xs j (pos 0)) ≡ get_or (table_of m xs) j none
    there h = sym (at_bit ∙ rw h)

    pub absent : bit_at m j ≡ false → none ≡ get_or (table_of m xs) j none
    absent h = sym (at_bit ∙ rw h)

-- ---- no bit of the mask is set

none_present : (k : ℕ) (xs : List ℤ) → length xs ≡ k → present (bits_of k 0) xs ≡ replicate k none
unfolding bits_of
none_present zero xs e = refl
none_present (suc k) [] e = absurd (omega arith)
none_present (suc k) (x ∷ xs) e = ap (λ l. none ∷ l) (none_present k xs (omega arith))

-- whatever the array holds
pub table_none : (xs : List ℤ) → length xs ≡ slot_count → table_of 0 xs ≡ blank
table_none xs e = none_present slot_count xs e

-- ---- the next bit that is set

-- the first slot from at on whose bit is set; past the last slot where there is none
abbrev pub next_touched : ℕ → ℕ → ℕ
next_touched m at = at + count_trailing_zeros 32 (m / 2 ^ at)

module _ (xs : List ℤ) (size : length xs ≡ slot_count) (at j : ℕ) (l : at ≤ j) (low : j < slot_count) where
  -- up to there nothing was written
  pub untouched : (m : ℕ) → j < next_touched m at → none ≡ get_or (table_of m xs) j none
  untouched m u = absent m xs size j low (none_between m at j l u)

  -- .. also by the merged masks
  pub untouched_by : (a m : ℕ) → j < next_touched (bit_or a m) at → none ≡ get_or (table_of m xs) j none
  untouched_by a m u = absent m xs size j low (or_none a m j (none_between (bit_or a m) at j l u))
