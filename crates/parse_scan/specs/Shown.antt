-- Whether a block hides a slot (01, Parser: item below 0 or absent adds the negated requirements). Assumes nothing.
use Rattle.std.specs.Prelude.{◌≡◌, refl, Bool, true, false, ◌||◌, List, [], ◌∷◌, ℕ, zero, suc, ◌+◌, ◌≤◌, ◌<◌, ℤ, pos, negsuc, length, get_or}
use Rattle.std.proofs.Common.{sym, ap, ap₂, ◌∙◌, arith, le-ltb}
use Rattle.std.proofs.Math.Bool.{or-true}
use Rattle.std.proofs.Math.Option.{Option, none, some}
use Rattle.std.proofs.Math.Decide.{dec_le, ℕ_discrete}
use Rattle.std.specs.Int.Signed.{lt_z}
use Rattle.model.specs.Limits.{slot_count}
use Rattle.model.specs.Sheet.{Sheet}
use Rattle.model.specs.Requirement.{Requirement}
use Rattle.model.specs.Shop.{Slot}
use Rattle.model.specs.Parse.{update_slot, update_slots}
use Rattle.model.proofs.Laws.Bools.{or_no}
use Rattle.parse_scan.specs.Bits.{one_there}
use Rattle.parse_scan.specs.Table.{table_of, table_long, next_touched, untouched, there}

-- item and count that were written: a count, and no item or one below 0
abbrev pub hides_by : Option ℤ → Option ℤ → Bool
hides_by o none = false
hides_by none (some z) = true
hides_by (some (negsuc k)) (some z) = true
hides_by (some (pos k)) (some z) = false

-- items and counts of all slots: one of them is hidden
unfoldable pub hides_one : List (Option ℤ) → List (Option ℤ) → Bool
hides_one [] ns = false
hides_one (o ∷ ms) [] = false
hides_one (o ∷ ms) (n ∷ ns) = hides_by o n || hides_one ms ns

-- ---- one of them is, or none

none_hidden : (ms ns : List (Option ℤ)) → ((j : ℕ) → j < length ms → hides_by (get_or ms j none) (get_or ns j none) ≡ false) → hides_one ms ns ≡ false
unfolding hides_one
none_hidden [] ns f = refl
none_hidden (o ∷ ms) [] f = refl
none_hidden (o ∷ ms) (n ∷ ns) f = rw (f 0 (omega arith)) (none_hidden ms ns (λ j l. f (suc j) (omega arith)))

one_hidden : (ms ns : List (Option ℤ)) (j : ℕ) → j < length ms → j < length ns → hides_by (get_or ms j none) (get_or ns j none) ≡ true → hides_one ms ns ≡ true
unfolding hides_one
one_hidden [] ns j l k e = absurd (omega arith)
one_hidden (o ∷ ms) [] j l k e = absurd (omega arith)
one_hidden (o ∷ ms) (n ∷ ns) zero l k e = rw e
one_hidden (o ∷ ms) (n ∷ ns) (suc j) l k e = rw (one_hidden ms ns j (omega arith) (omega arith) e) (or-true (hides_by o n))

-- ---- the loop over the mask of counts

-- whatever the counts are, the block hides no slot below n
pub record ShownBelow (im : ℕ) (ids : List ℤ) (cm n : ℕ) : Type 0 where
  pub low : n ≤ slot_count
  pub each : (cs : List ℤ) → length cs ≡ slot_count → (j : ℕ) → j < n → hides_by (get_or (table_of im ids) j none) (get_or (table_of cm cs) j none) ≡ false

module _ (im : ℕ) (ids : List ℤ) (size : length ids ≡ slot_count) (cm : ℕ) where
  pub shown_start : ShownBelow im ids cm 0
  shown_start = record { low = omega arith; each = λ cs e j l. absurd (omega arith) }

  -- up to the next slot with a count
  pub shown_to : (at n : ℕ) → ShownBelow im ids cm at → n ≤ slot_count → n ≤ next_touched cm at → ShownBelow im ids cm n
  shown_to at n v q u = record { low = q; each = λ cs e j l. by cs e j l (dec_le at j) }
    where
      by : (cs : List ℤ) → length cs ≡ slot_count → (j : ℕ) → j < n → Dec (at ≤ j) → hides_by (get_or (table_of im ids) j none) (get_or (table_of cm cs) j none) ≡ false
      by cs e j l (no d) = v.each cs e j (omega arith)
      by cs e j l (yes d) = ap (hides_by (get_or (table_of im ids) j none)) (sym (untouched cs e at j d (omega arith) cm (omega arith)))

  -- one that is not hidden
  pub shown_more : (n : ℕ) → ShownBelow im ids cm n → n < slot_count → ((z : ℤ) → false ≡ hides_by (get_or (table_of im ids) n none) (some z)) → ShownBelow im ids cm (n + 1)
  shown_more n v low f = record { low = omega arith; each = λ cs e j l. by cs e j l (ℕ_discrete j n) }
    where
      told : (o : Option ℤ) → hides_by (get_or (table_of im ids) n none) o ≡ false
      told none = refl
      told (some z) = sym (f z)

      by : (cs : List ℤ) → length cs ≡ slot_count → (j : ℕ) → j < n + 1 → Dec (j ≡ n) → hides_by (get_or (table_of im ids) j none) (get_or (table_of cm cs) j none) ≡ false
      by cs e j l (no d) = v.each cs e j (omega arith)
      by cs e j l (yes d) = rw d (told (get_or (table_of cm cs) n none))

  pub shown_all : (n : ℕ) → ShownBelow im ids cm n → slot_count ≤ n → (cs : List ℤ) → length cs ≡ slot_count → false ≡ hides_one (table_of im ids) (table_of cm cs)
  shown_all n v l cs e = sym (none_hidden (table_of im ids) (table_of cm cs) (λ j k. v.each cs e j (omega (arith, table_long im ids size))))

  -- one that is
  pub hidden_at : (at : ℕ) → next_touched cm at < slot_count → ((z : ℤ) → true ≡ hides_by (get_or (table_of im ids) (next_touched cm at) none) (some z))
      → (cs : List ℤ) → length cs ≡ slot_count → true ≡ hides_one (table_of im ids) (table_of cm cs)
  hidden_at at l f cs e =
      let j = next_touched cm at in
      let b = there cm cs e j l (one_there cm at (omega arith)) in
      sym (one_hidden (table_of im ids) (table_of cm cs) j (omega (arith, table_long im ids size)) (omega (arith, table_long cm cs e))
      (ap (hides_by (get_or (table_of im ids) j none)) (sym b) ∙ sym (f (get_or cs j (pos 0)))))

-- as the code asks for it
pub hides_negative : (k z : ℤ) → lt_z k (pos 0) ≡ hides_by (some k) (some z)
hides_negative (pos k) z = le-ltb k 0 (omega arith)
hides_negative (negsuc k) z = refl

-- ---- where none is

pub shown_any : (h : Sheet) (rs qs : List Requirement) (ms ns : List (Option ℤ)) (xs : List Slot) → hides_one ms ns ≡ false → update_slots h rs ms ns xs ≡ update_slots h qs ms ns xs
unfolding hides_one
shown_any h rs qs [] ns xs e = refl
shown_any h rs qs (o ∷ ms) [] xs e = refl
shown_any h rs qs (o ∷ ms) (n ∷ ns) [] e = refl
shown_any h rs qs (o ∷ ms) (n ∷ ns) (x ∷ xs) e =
    let p = or_no (hides_by o n) (hides_one ms ns) e in
    ap₂ (λ y l. y ∷ l) (one o n p.0) (shown_any h rs qs ms ns xs p.1)
  where
    one : (o n : Option ℤ) → hides_by o n ≡ false → update_slot h rs o n x ≡ update_slot h qs o n x
    one o none f = refl
    one none (some z) f = let c : ◌≡◌ {A = ℕ} 0 1 = cc in absurd (omega arith)
    one (some (negsuc k)) (some z) f = let c : ◌≡◌ {A = ℕ} 0 1 = cc in absurd (omega arith)
    one (some (pos k)) (some z) f = refl
