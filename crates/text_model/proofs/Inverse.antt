-- Printing and reading a shop undo one another: a printed shop reads back as it was, and a text that is read is the printed form of what was read. Assumes nothing.
use Rattle.std.specs.Prelude.{◌≡◌, true, List, [], ◌∷◌, ◌++◌, eqb, length}
use Rattle.std.proofs.Math.Path.{refl, ap}
use Rattle.std.proofs.Common.{sym, arith, eqb-true, eq-eqb}
use Prim.Native.Nat.{ℕ, zero, suc, ◌+◌, ◌≤◌}
use Rattle.model.specs.Limits.{slot_count}
use Rattle.model.specs.Reading.{Answer, got, refused}
use Rattle.model.specs.Sheet.{all}
use Rattle.model.specs.Shop.{Slot}
use Rattle.model.specs.Printer.{slot_line, slot_lines}
use Rattle.model.proofs.Laws.Checks.{and_left, and_right}
use Rattle.text_model.specs.Text.{ReadText, slots, bad, before, line_then, printable, read_lines, read_slot, read_text, slot_printable}
use Rattle.text_model.proofs.Lines.{slot_printed, slot_took}

-- ---- lines that were printed

lines_printed : (n i : ℕ) (xs : List Slot) → length xs ≡ n → i + n ≤ slot_count → all slot_printable xs ≡ true → read_lines n i (slot_lines i xs) ≡ slots xs
unfolding read_lines slot_lines
lines_printed zero i [] l h p = refl
lines_printed zero i (x ∷ xs) l h p = absurd (omega arith)
lines_printed (suc n) i [] l h p = absurd (omega arith)
lines_printed (suc n) i (x ∷ xs) l h p =
    rw (
      slot_printed i x (slot_lines (suc i) xs) (omega arith) (and_left (slot_printable x) (all slot_printable xs) p),
      lines_printed n (suc i) xs (omega arith) (omega arith) (and_right (slot_printable x) (all slot_printable xs) p),
    )

-- a shop that is printed reads back as it was
pub printed_reads : (xs : List Slot) → printable xs ≡ true → read_text (slot_lines 0 xs) ≡ slots xs
unfolding read_text
printed_reads xs p = lines_printed slot_count 0 xs (eqb-true (length xs) slot_count (and_left (eqb (length xs) slot_count) (all slot_printable xs) p)) (omega arith) (and_right (eqb (length xs) slot_count) (all slot_printable xs) p)

-- ---- lines that were read

pub record Lines (n i : ℕ) (s : List ℕ) (xs : List Slot) : Type 0 where
  pub was : slot_lines i xs ≡ s
  pub long : length xs ≡ n
  pub fits : all slot_printable xs ≡ true

pub bad≢slots : {l e : ℕ} {xs : List Slot} → ◌≡◌ {A = ReadText} (bad l e) (slots xs) → ⊥
bad≢slots p = let z : ◌≡◌ {A = ℕ} 0 1 = cc in omega arith

pub slots_same : {xs ys : List Slot} → ◌≡◌ {A = ReadText} (slots xs) (slots ys) → xs ≡ ys
slots_same p = cc

-- the first slot was put before slots that were read
rest_read : (x : Slot) (a : ReadText) (xs : List Slot) → before x a ≡ slots xs → (ys : List Slot) × (a ≡ slots ys) × (x ∷ ys ≡ xs)
rest_read x (slots ys) xs q = (ys, refl, slots_same q)
rest_read x (bad l e) xs q = absurd (bad≢slots q)

one_more_lem : (n i : ℕ) (s : List ℕ) (x : Slot) (r : List ℕ) (ys : List Slot) → (s ≡ slot_line i x ++ r) × (slot_printable x ≡ true) → Lines n (suc i) r ys → Lines (suc n) i s (x ∷ ys)
one_more_lem n i s x r ys a b = record {
  was = unfold slot_lines in rw b.was (sym a.0);
  long = ap suc b.long;
  fits = rw (a.1, b.fits);
}

lines_took : (n i : ℕ) (s : List ℕ) (xs : List Slot) → read_lines n i s ≡ slots xs → Lines n i s xs
unfolding read_lines
lines_took zero i [] xs q = rw (← slots_same q) (record { was = unfold slot_lines in refl; long = refl; fits = refl })
lines_took zero i (c ∷ s) xs q = absurd (bad≢slots q)
lines_took (suc n) i s xs q = by (read_slot i s) refl q (λ r ys. lines_took n (suc i) r ys)
  where
    by : (a : Answer Slot) → read_slot i s ≡ a → line_then i a (λ r. read_lines n (suc i) r) ≡ slots xs → ((r : List ℕ) (ys : List Slot) → read_lines n (suc i) r ≡ slots ys → Lines n (suc i) r ys) → Lines (suc n) i s xs
    by (got x r) e g ih =
        let p = rest_read x (read_lines n (suc i) r) xs g in
        rw (← p.2) (one_more_lem n i s x r p.0 (slot_took i s x r e) (ih r p.0 p.1))
    by (refused m) e g ih = absurd (bad≢slots g)

-- a text that is read is what is printed of the slots read
pub read_prints : (s : List ℕ) (xs : List Slot) → read_text s ≡ slots xs → slot_lines 0 xs ≡ s
unfolding read_text
read_prints s xs q = (lines_took slot_count 0 s xs q).was

-- and these are twenty that can be printed: no other shop is ever read
pub read_printable : (s : List ℕ) (xs : List Slot) → read_text s ≡ slots xs → printable xs ≡ true
unfolding read_text
read_printable s xs q = let k = lines_took slot_count 0 s xs q in rw (eq-eqb (length xs) slot_count k.long, k.fits)
