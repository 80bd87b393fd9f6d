-- A heading that was written reads back, and one that was read is written as it was. Assumes nothing.
use Rattle.std.specs.Prelude.{◌≡◌, refl, Bool, true, ◌&&◌, ℕ, zero, suc, ◌≤◌, ◌<◌, ltb, leb, eqb, length}
use Rattle.std.proofs.Common.{ap, ◌∙◌, arith}
use Rattle.std.proofs.Math.Bool.{not}
use Rattle.std.proofs.Math.Option.{Option, none, some}
use mathlib.Core.List.{List, [], ◌∷◌, ◌++◌, append_assoc}
use borrow.Author.Tests.{leb-true, ltb-true}
use Rattle.std.proofs.Math.Dec.{leb-zero}
use Rattle.model.specs.Limits.{fewest_items, most_items, most_atcs, wide}
use Rattle.model.specs.Reading.{Answer, got, onward, number, word}
use Rattle.model.proofs.Laws.Reading.{read_word, write_number, number_low, split, along}
use Rattle.model.proofs.Laws.Checks.{and_left, and_right}
use Rattle.model.specs.Sheet
use Rattle.model.specs.Sheet.{item_count, atc_known, all, timers_ok, sheet_ok}
use Rattle.model.specs.Printer.{must, atc_entry, read_atcs, read_timers, read_sheet}
use Rattle.slots_sheet.specs.Outcome.{Head, read_head}
use Rattle.slots_sheet.specs.Checked.{let_through, read_sheet_ok}
use Rattle.slots_heading.specs.Bytes.{entry_of, atcs_bytes, head_bytes}

-- ---- an item's number

pub entry_number : (k : ℕ) → entry_of (atc_entry k) ≡ k
entry_number zero = refl
entry_number (suc a) = refl

pub entry_back : (x : Option ℕ) → atc_entry (entry_of x) ≡ x
entry_back none = refl
entry_back (some a) = refl

pub entry_known : (m : ℕ) (x : Option ℕ) → atc_known m x ≡ true → leb (entry_of x) m ≡ true
entry_known m none h = leb-zero m
entry_known m (some a) h = h

-- ---- what check 1 lets through

pub record Judged (h : Sheet.Sheet) : Type 0 where
  pub items : leb fewest_items (item_count h) && leb (item_count h) most_items ≡ true
  pub atcs : leb h.atc_count most_atcs ≡ true
  pub known : all (atc_known h.atc_count) h.atc_of ≡ true
  pub five : ltb h.timer5 (item_count h) ≡ true
  pub ten : ltb h.timer10 (item_count h) && not (eqb h.timer10 h.timer5) ≡ true
  pub fifteen : ltb h.timer15 (item_count h) && (not (eqb h.timer15 h.timer5) && not (eqb h.timer15 h.timer10)) ≡ true

pub judged : (h : Sheet.Sheet) → sheet_ok h ≡ true → Judged h
unfolding sheet_ok
judged h e =
    let n = leb fewest_items (item_count h) && leb (item_count h) most_items in
    let m = leb h.atc_count most_atcs in
    let k = all (atc_known h.atc_count) h.atc_of in
    let a = ltb h.timer5 (item_count h) in
    let b = ltb h.timer10 (item_count h) && not (eqb h.timer10 h.timer5) in
    let c = ltb h.timer15 (item_count h) && (not (eqb h.timer15 h.timer5) && not (eqb h.timer15 h.timer10)) in
    let t = and_right (n && m && k) (timers_ok h) e in
    let e₁ = and_left (n && m && k) (timers_ok h) e in
    let e₂ = and_left (n && m) k e₁ in
    let t₁ = and_left (a && b) c t in
    record {
      items = and_left n m e₂;
      atcs = and_right n m e₂;
      known = and_right (n && m) k e₁;
      five = and_left a b t₁;
      ten = and_right a b t₁;
      fifteen = and_right (a && b) c t;
    }

-- ---- written, then read

back_atcs : (m : ℕ) (xs : List (Option ℕ)) (s : List ℕ) → m ≤ most_atcs → all (atc_known m) xs ≡ true → read_atcs (length xs) m (atcs_bytes xs ++ s) ≡ got xs s
unfolding read_atcs atcs_bytes
back_atcs m [] s f k = refl
back_atcs m (x ∷ xs) s f k =
    let a = entry_known m x (and_left (atc_known m x) (all (atc_known m) xs) k) in
    let l : entry_of x < wide = omega (arith, leb-true (entry_of x) m a) in
    rw (
      append_assoc,
      read_word wide (entry_of x) (atcs_bytes xs ++ s) l l,
      a,
      back_atcs m xs s f (and_right (atc_known m x) (all (atc_known m) xs) k),
      entry_back x,
    )

module _ (d : Head) (ok : sheet_ok d.sheet ≡ true) (low : d.setup < wide) (s : List ℕ) where
  fine : Judged d.sheet
  fine = judged d.sheet ok

  few : item_count d.sheet ≤ most_items
  few = leb-true (item_count d.sheet) most_items (and_right (leb fewest_items (item_count d.sheet)) (leb (item_count d.sheet) most_items) fine.items)

  -- an item's number is short enough
  item_low : (k : ℕ) → ltb k (item_count d.sheet) ≡ true → k < wide
  item_low k h = omega (arith, few, ltb-true k (item_count d.sheet) h)

  back_timers : (t : List ℕ) → read_timers d.sheet.atc_of d.sheet.atc_count (word d.sheet.timer5 ++ (word d.sheet.timer10 ++ (word d.sheet.timer15 ++ t))) ≡ got d.sheet t
  unfolding read_timers
  back_timers t =
      let h = d.sheet in
      let n = item_count h in
      let a = item_low h.timer5 fine.five in
      let b = item_low h.timer10 (and_left (ltb h.timer10 n) (not (eqb h.timer10 h.timer5)) fine.ten) in
      let c = item_low h.timer15 (and_left (ltb h.timer15 n) (not (eqb h.timer15 h.timer5) && not (eqb h.timer15 h.timer10)) fine.fifteen) in
      rw (
        read_word wide h.timer5 (word h.timer10 ++ (word h.timer15 ++ t)) a a,
        fine.five,
        read_word wide h.timer10 (word h.timer15 ++ t) b b,
        fine.ten,
        read_word wide h.timer15 t c c,
        fine.fifteen,
      )

  pub written_read : read_head (head_bytes d ++ s) ≡ got d s
  unfolding read_head read_sheet head_bytes
  written_read =
      let h = d.sheet in
      let t = word d.setup ++ s in
      let u = word h.timer5 ++ (word h.timer10 ++ (word h.timer15 ++ t)) in
      let m = leb-true h.atc_count most_atcs fine.atcs in
      let n : item_count h < wide = omega (arith, few) in
      let k : h.atc_count < wide = omega (arith, m) in
      rw (
        append_assoc,
        append_assoc,
        append_assoc,
        append_assoc,
        append_assoc,
        append_assoc,
        read_word wide (item_count h) (word h.atc_count ++ (atcs_bytes h.atc_of ++ u)) n n,
        fine.items,
        read_word wide h.atc_count (atcs_bytes h.atc_of ++ u) k k,
        fine.atcs,
        back_atcs h.atc_count h.atc_of u m fine.known,
        back_timers t,
        read_word wide d.setup s low low,
      )

-- ---- read, then written

-- a number that a test let through: the bytes before the others are its own
record Taken {A : Type 0} (f : ℕ → List ℕ → Answer A) (s : List ℕ) (x : A) (r : List ℕ) : Type 0 where
  value : ℕ
  rest : List ℕ
  bytes : s ≡ word value ++ rest
  then : f value rest ≡ got x r

taken : {A : Type 0} (ok : ℕ → Bool) (f : ℕ → List ℕ → Answer A) (s : List ℕ) {x : A} {r : List ℕ} → onward (number wide s) (λ k t. must (ok k) (f k t)) ≡ got x r → Taken f s x r
taken ok f s e =
    let u = split (number wide s) (λ k t. must (ok k) (f k t)) e in
    record { value = u.value; rest = u.rest; bytes = write_number wide s u.value u.rest u.first; then = (let_through (ok u.value) (f u.value u.rest) u.then).1 }

-- one number more in front
before : (k : ℕ) {s t u : List ℕ} → s ≡ word k ++ t → t ≡ u → s ≡ word k ++ u
before k e f = e ∙ ap (λ (l : List ℕ). word k ++ l) f

same_atcs : (n m : ℕ) (s : List ℕ) {xs : List (Option ℕ)} {r : List ℕ} → read_atcs n m s ≡ got xs r → (length xs ≡ n) × (s ≡ atcs_bytes xs ++ r)
unfolding read_atcs atcs_bytes
same_atcs zero m s e = along (λ ys t. (length ys ≡ 0) × (s ≡ atcs_bytes ys ++ t)) e (refl, refl)
same_atcs (suc n) m s e =
    let u = taken (λ k. leb k m) _ s e in
    let v = split (read_atcs n m u.rest) _ u.then in
    let w = same_atcs n m u.rest v.first in
    along (λ ys r. (length ys ≡ suc n) × (s ≡ atcs_bytes ys ++ r)) v.then (ap suc w.0, rw (append_assoc, entry_number u.value) (before u.value {u = atcs_bytes v.value ++ v.rest} u.bytes w.1))

same_timers : (xs : List (Option ℕ)) (m : ℕ) (s : List ℕ) {h : Sheet.Sheet} {r : List ℕ} → read_timers xs m s ≡ got h r
    → (h.atc_of ≡ xs) × (h.atc_count ≡ m) × (s ≡ word h.timer5 ++ (word h.timer10 ++ (word h.timer15 ++ r)))
unfolding read_timers
same_timers xs m s e =
    let u = taken (λ a. ltb a (length xs)) _ s e in
    let v = taken (λ b. ltb b (length xs) && not (eqb b u.value)) _ u.rest u.then in
    let w = taken (λ c. ltb c (length xs) && (not (eqb c u.value) && not (eqb c v.value))) _ v.rest v.then in
    along (λ h r. (h.atc_of ≡ xs) × (h.atc_count ≡ m) × (s ≡ word h.timer5 ++ (word h.timer10 ++ (word h.timer15 ++ r)))) w.then
    (refl, refl, before u.value {u = word v.value ++ (word w.value ++ w.rest)} u.bytes (before v.value {u = word w.value ++ w.rest} v.bytes w.bytes))

-- the counts and the atcs are those of the sheet
of_sheet : (h : Sheet.Sheet) (n m : ℕ) (xs : List (Option ℕ)) (s t : List ℕ) → h.atc_of ≡ xs → h.atc_count ≡ m → length xs ≡ n
    → s ≡ word n ++ (word m ++ (atcs_bytes xs ++ t)) → s ≡ word (item_count h) ++ (word h.atc_count ++ (atcs_bytes h.atc_of ++ t))
of_sheet h n m xs s t p q l e = rw (p, q, l) e

same_sheet : (s : List ℕ) {h : Sheet.Sheet} {r : List ℕ} → read_sheet s ≡ got h r
    → s ≡ word (item_count h) ++ (word h.atc_count ++ (atcs_bytes h.atc_of ++ (word h.timer5 ++ (word h.timer10 ++ (word h.timer15 ++ r)))))
unfolding read_sheet
same_sheet s {h} {r} e =
    let u = taken (λ n. leb fewest_items n && leb n most_items) _ s e in
    let v = taken (λ m. leb m most_atcs) _ u.rest u.then in
    let w = split (read_atcs u.value v.value v.rest) _ v.then in
    let k = same_atcs u.value v.value v.rest w.first in
    let t = same_timers w.value v.value w.rest w.then in
    of_sheet h u.value v.value w.value s (word h.timer5 ++ (word h.timer10 ++ (word h.timer15 ++ r))) t.0 t.1 k.0
    (before u.value u.bytes (before v.value v.bytes (k.1 ∙ ap (λ (l : List ℕ). atcs_bytes w.value ++ l) t.2)))

pub read_then_written : (s : List ℕ) (d : Head) (r : List ℕ) → read_head s ≡ got d r → s ≡ head_bytes d ++ r
unfolding read_head head_bytes
read_then_written s d r e =
    let u = split (read_sheet s) _ e in
    let v = split (number wide u.rest) _ u.then in
    along (λ d r. s ≡ head_bytes d ++ r) v.then
    (rw (append_assoc, append_assoc, append_assoc, append_assoc, append_assoc, append_assoc)
    (same_sheet s u.first
    ∙ ap (λ (l : List ℕ). word (item_count u.value) ++ (word u.value.atc_count ++ (atcs_bytes u.value.atc_of ++ (word u.value.timer5 ++ (word u.value.timer10 ++ (word u.value.timer15 ++ l))))))
    (write_number wide u.rest v.value v.rest v.first)))

-- what was read passes check 1, and its setup number has 32 bits: so it can be written
pub read_judged : (s : List ℕ) (d : Head) (r : List ℕ) → read_head s ≡ got d r → (sheet_ok d.sheet ≡ true) × (d.setup < wide)
unfolding read_head
read_judged s d r e =
    let u = split (read_sheet s) _ e in
    let v = split (number wide u.rest) _ u.then in
    along (λ d r. (sheet_ok d.sheet ≡ true) × (d.setup < wide)) v.then (read_sheet_ok s u.first, number_low wide u.rest v.value v.rest v.first)
