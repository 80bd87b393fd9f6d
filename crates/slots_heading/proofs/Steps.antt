-- The steps of writing a heading, how long it is, and what the call answers. Assumes nothing.
use Rattle.std.specs.Prelude.{◌≡◌, refl, true, false, ℕ, zero, suc, ◌≤◌, ◌<◌, leb, get_or}
use Rattle.std.proofs.Math.Path.{ap}
use Rattle.std.proofs.Common.{◌∙◌}
use Rattle.std.proofs.Math.Option.{Option}
use mathlib.Core.List.{List, [], ◌∷◌, ◌++◌, map, append_assoc}
use native.Mathlib.Omega.{arith}
use borrow.Author.Tests.{leb-true, le-leb, lt-leb}
use Rattle.std.proofs.Math.ListN.{length, length-append, length-map}
use Rattle.model.specs.Limits.{fewest_items, most_items, most_atcs}
use Rattle.model.specs.Reading.{word}
use Rattle.model.proofs.Laws.Checks.{and_left, and_right}
use Rattle.model.specs.Sheet.{atc_known, all, sheet_ok}
use Rattle.model.specs.Files.{over}
use Rattle.model.specs.Printer.{atc_entry}
use Rattle.shop.specs.Shapes.{sheet_of}
use Rattle.shop.specs.declared.Sheet.{Sheet}
use Rattle.image_numbers.specs.Lengths.{word_1}
use Rattle.image_numbers.specs.Stored.{Stored, Room}
use Rattle.image_write.specs.Call.{wrote, over_is}
use Rattle.image_write.specs.Loop.{Pieces}
use Rattle.slots_heading.specs.Bytes.{entry_of, atcs_bytes, head_bytes, write_head, head_length, head_by}
use Rattle.slots_heading.specs.Steps.{entries_bytes, counts_bytes, timers_bytes, numbers_length}
use Rattle.slots_heading.proofs.RoundTrip.{entry_number, entry_known, Judged, judged}

-- ---- the items' numbers, one by one

pub entries_pieces : (ks : List ℕ) → Pieces (λ i. word (get_or ks i 0)) (entries_bytes ks)
unfolding entries_bytes
entries_pieces ks = record { none = λ f. refl; next = λ h f. refl }

entries_past : (k : ℕ) (ks : List ℕ) (h f : ℕ) → entries_bytes (k ∷ ks) h (suc f) ≡ entries_bytes ks h f
unfolding entries_bytes
entries_past k ks zero f = refl
entries_past k ks (suc h) f = ap (λ (l : List ℕ). word (get_or ks f 0) ++ l) (entries_past k ks h (suc f))

entries_are : (ks : List ℕ) → entries_bytes ks (length ks) 0 ≡ atcs_bytes (map atc_entry ks)
unfolding entries_bytes atcs_bytes
entries_are [] = refl
entries_are (k ∷ ks) = rw (entry_number k) (ap (λ (l : List ℕ). word k ++ l) (entries_past k ks (length ks) 0 ∙ entries_are ks))

-- ---- the two halves

module _ (ks : List ℕ) (h : Sheet) (b : ℕ) where
  pub halves : (n : ℕ) → n ≡ length ks → head_bytes (head_by ks h b) ≡ counts_bytes n h.atcs ks ++ timers_bytes h b
  unfolding head_bytes sheet_of
  halves n e = rw (e, append_assoc, append_assoc, entries_are ks, length-map ks atc_entry)

-- ---- how long it is

-- no atc's number takes more than a byte
atcs_length : (m : ℕ) (xs : List (Option ℕ)) → m ≤ most_atcs → all (atc_known m) xs ≡ true → length (atcs_bytes xs) ≡ length xs
unfolding atcs_bytes
atcs_length m [] f k = refl
atcs_length m (x ∷ xs) f k =
    let a = leb-true (entry_of x) m (entry_known m x (and_left (atc_known m x) (all (atc_known m) xs) k)) in
    omega (arith, length-append (word (entry_of x)) (atcs_bytes xs), word_1 (entry_of x) (omega (arith, a)), atcs_length m xs f (and_right (atc_known m x) (all (atc_known m) xs) k))

module _ (ks : List ℕ) (h : Sheet) (b : ℕ) (ok : sheet_ok (sheet_of ks h) ≡ true) where
  fine : Judged (sheet_of ks h)
  fine = judged (sheet_of ks h) ok

  pub items_few : length ks ≤ most_items
  unfolding sheet_of
  items_few =
      let i = fine.items in
      omega (arith, length-map ks atc_entry, leb-true (length (map atc_entry ks)) most_items (and_right (leb fewest_items (length (map atc_entry ks))) (leb (length (map atc_entry ks)) most_items) i))

  pub head_length_lem : length (head_bytes (head_by ks h b)) ≡ numbers_length (length ks) h b
  unfolding head_bytes sheet_of
  head_length_lem =
      let n = length (map atc_entry ks) in
      let e = word h.timer15.0 ++ word b in
      let d = word h.timer10.0 ++ e in
      let c = word h.timer5.0 ++ d in
      let a = atcs_bytes (map atc_entry ks) in
      omega (
        arith,
        length-append (word n) (word h.atcs ++ (a ++ c)),
        length-append (word h.atcs) (a ++ c),
        length-append a c,
        length-append (word h.timer5.0) d,
        length-append (word h.timer10.0) e,
        length-append (word h.timer15.0) (word b),
        atcs_length h.atcs (map atc_entry ks) (leb-true h.atcs most_atcs fine.atcs) fine.known,
        length-map ks atc_entry,
        ap (λ (k : ℕ). length (word k)) (length-map ks atc_entry),
      )

-- ---- the answer of the call

module _ (ks : List ℕ) (h : Sheet) (b : ℕ) (xs : List ℕ) where
  pub call_no : sheet_ok (sheet_of ks h) ≡ false → wrote 1 xs ≡ write_head (head_by ks h b) xs
  unfolding write_head
  call_no e = rw e

  module _ (ok : sheet_ok (sheet_of ks h) ≡ true) where
    pub call_short : length xs < numbers_length (length ks) h b → wrote 16 xs ≡ write_head (head_by ks h b) xs
    unfolding write_head
    call_short l =
        let q = lt-leb (length (head_bytes (head_by ks h b))) (length xs) (omega (arith, head_length_lem ks h b ok)) in
        rw (ok, q)

    module _ (l : numbers_length (length ks) h b ≤ length xs) where
      pub call_room : Room xs 0 (head_bytes (head_by ks h b))
      call_room = record { fits = omega (arith, head_length_lem ks h b ok) }

      pub call_fine : {ys : List ℕ} {r : ℕ} → Stored xs 0 (head_bytes (head_by ks h b)) ys r → (wrote 0 ys ≡ write_head (head_by ks h b) xs) × (r ≡ head_length (head_by ks h b) xs)
      unfolding write_head head_length
      call_fine {ys} {r} s =
          let c = head_bytes (head_by ks h b) in
          let f : length c ≤ length xs = omega (arith, head_length_lem ks h b ok) in
          let e : ys ≡ over c xs = s.is ∙ over_is xs c f in
          let n : r ≡ length c = omega (arith, s.place) in
          (rw (ok, le-leb (length c) (length xs) f, e), rw (ok, le-leb (length c) (length xs) f, n))
