-- Over lk_read_heading and lk_write_heading, each by its own promise: a heading read and written again, and one written and read again. Assumes nothing.
use Rattle.std.specs.Prelude.{◌≡◌, Bool, true, false, not, ◌&&◌, ltb, leb, eqb}
use Rattle.std.proofs.Math.Path.{refl, ap, ap₂}
use Rattle.std.proofs.Common.{sym, ◌∙◌, arith, take_at, drop_at}
use Rattle.std.proofs.Math.Option.{Option}
use mathlib.Core.List.{List, [], ◌∷◌, map, ◌++◌}
use Prim.Native.Nat.{ℕ, zero, suc, ◌≤◌, ◌<◌}
use borrow.Author.Tests.{leb-true, le-leb, lt-leb}
use Rattle.std.proofs.Math.ListN.{length, take, drop, length-append}
use Rattle.std.proofs.lemmas.List.{length-map}
use Rattle.model.specs.Limits.{fewest_items, most_items, most_atcs, wide, input_limit}
use Rattle.model.specs.Refusal.{check, first_of, over_limit, slice_short}
use Rattle.model.specs.Reading.{Answer, got, refused, onward, refusal_of, number}
use Rattle.model.proofs.Laws.Reading.{passed}
use Rattle.model.proofs.Laws.Checks.{first_passed}
use Rattle.model.proofs.Laws.Checks as Checks
use Rattle.model.proofs.Laws.Refused.{Proper, accepts, proper_onward, proper_cond, proper_number}
use Rattle.model.specs.Sheet
use Rattle.model.specs.Sheet.{item_count, sheet_ok, sheet_refusal}
use Rattle.model.specs.Files.{Wrote, wrote_of, over}
use Rattle.model.specs.Printer.{must, atc_entry, read_atcs, read_timers, read_sheet}
use Rattle.shop.specs.Shapes.{sheet_of}
use Rattle.image_write.specs.Call.{wrote, length_of}
use Rattle.slots_sheet.specs.Outcome.{Head, read_head}
use Rattle.slots_heading.specs.Bytes.{entry_of, head_bytes, head_by, write_head, head_length}
use Rattle.slots_heading.proofs.RoundTrip.{entry_back, written_read, read_then_written, read_judged}
use Rattle.capi_values.specs.Values.{sheet_by}
use Rattle.capi_stage.specs.declared.Headed.{Headed}
use Rattle.capi_stage.specs.declared.Written.{Written}
use Rattle.capi_stage.specs.Answers.{stage_head, Told, told, numbers_of, told_of, head_told}

-- lk_read_heading of the bytes s into the array ks answered r and left the array ks', as it promises
abbrev pub HeadReadBy : List ℕ → List ℕ → Headed → List ℕ → Type 0
HeadReadBy s ks r ks' = told r ks' ≡ head_told s ks

-- lk_write_heading of a sheet and a setup number into a slice answered w and left the slice out', as it promises
abbrev pub HeadWrittenBy : Head → List ℕ → Written → List ℕ → Type 0
HeadWrittenBy d out w out' = (wrote w.refusal out' ≡ write_head d out) × (w.len ≡ head_length d out)

-- what a read hands on: the array's first items are the sheet's
abbrev pub head_in : Headed → List ℕ → Head
head_in r ks = head_by (take r.items ks) (sheet_by r.atcs r.timer5 r.timer10 r.timer15) r.setup

-- ---- no heading is refused with 0, so that 0 is acceptance

proper_must : {A : Type 0} (b : Bool) (a : Answer A) → Proper a → Proper (must b a)
proper_must true a h = h
proper_must false a h = omega arith

-- a number that a test lets through, and what follows it
proper_tested : {A : Type 0} (ok : ℕ → Bool) (f : ℕ → List ℕ → Answer A) (s : List ℕ) → ((k : ℕ) (r : List ℕ) → Proper (f k r)) → Proper (onward (number wide s) (λ k r. must (ok k) (f k r)))
proper_tested ok f s h = proper_onward (number wide s) (λ k r. must (ok k) (f k r)) (proper_number wide s) (λ k r. proper_must (ok k) (f k r) (h k r))

proper_atcs : (n m : ℕ) (s : List ℕ) → Proper (read_atcs n m s)
unfolding read_atcs
proper_atcs zero m s = tt
proper_atcs (suc n) m s =
    proper_tested (λ k. leb k m) (λ k r. onward (read_atcs n m r) (λ xs t. got (atc_entry k ∷ xs) t)) s
    (λ k r. proper_onward (read_atcs n m r) (λ xs t. got (atc_entry k ∷ xs) t) (proper_atcs n m r) (λ xs t. tt))

proper_timers : (xs : List (Option ℕ)) (m : ℕ) (s : List ℕ) → Proper (read_timers xs m s)
unfolding read_timers
proper_timers xs m s =
    let last : ℕ → ℕ → ℕ → List ℕ → Answer Sheet.Sheet = λ a b c u. got (record { atc_of = xs; atc_count = m; timer5 = a; timer10 = b; timer15 = c }) u in
    let third : ℕ → ℕ → ℕ → Bool = λ a b c. ltb c (length xs) && (not (eqb c a) && not (eqb c b)) in
    let second : ℕ → ℕ → Bool = λ a b. ltb b (length xs) && not (eqb b a) in
    let from15 : ℕ → ℕ → List ℕ → Answer Sheet.Sheet = λ a b t. onward (number wide t) (λ c u. must (third a b c) (last a b c u)) in
    let from10 : ℕ → List ℕ → Answer Sheet.Sheet = λ a r. onward (number wide r) (λ b t. must (second a b) (from15 a b t)) in
    proper_tested (λ a. ltb a (length xs)) from10 s
    (λ a r. proper_tested (second a) (from15 a) r (λ b t. proper_tested (third a b) (last a b) t (λ c u. tt)))

proper_sheet : (s : List ℕ) → Proper (read_sheet s)
unfolding read_sheet
proper_sheet s =
    proper_tested (λ n. leb fewest_items n && leb n most_items) (λ n r. onward (number wide r) (λ m t. must (leb m most_atcs) (onward (read_atcs n m t) (λ xs u. read_timers xs m u)))) s
    (λ n r. proper_tested (λ m. leb m most_atcs) (λ m t. onward (read_atcs n m t) (λ xs u. read_timers xs m u)) r
    (λ m t. proper_onward (read_atcs n m t) (λ xs u. read_timers xs m u) (proper_atcs n m t) (λ xs u. proper_timers xs m u)))

proper_head : (s : List ℕ) → Proper (read_head s)
unfolding read_head
proper_head s =
    proper_onward (read_sheet s) (λ h r. onward (number wide r) (λ b t. got (record { sheet = h; setup = b }) t)) (proper_sheet s)
    (λ h r. proper_onward (number wide r) (λ b t. got (record { sheet = h; setup = b }) t) (proper_number wide r) (λ b t. tt))

-- ---- what a read that was not refused hands on

refusal_is : (s ks : List ℕ) (a : Answer Head) → (told_of s ks a).answer.refusal ≡ refusal_of a
refusal_is s ks (got d t) = refl
refusal_is s ks (refused e) = refl

same_atcs : (xs : List (Option ℕ)) → map atc_entry (map entry_of xs) ≡ xs
same_atcs [] = refl
same_atcs (x ∷ xs) = rw (entry_back x, same_atcs xs)

same_head : (d : Head) (s t ks : List ℕ) → head_in (numbers_of s d t) (map entry_of d.sheet.atc_of ++ ks) ≡ d
unfolding sheet_of
same_head d s t ks =
    let xs = d.sheet.atc_of in
    rw (take_at (map entry_of xs) ks (length xs) (length-map xs entry_of), same_atcs xs)

pub record Handed (s : List ℕ) (r : Headed) (ks' : List ℕ) : Type 0 where
  pub short : length s ≤ input_limit
  pub read : read_head s ≡ got (head_in r ks') (drop r.at s)
  pub bytes : head_bytes (head_in r ks') ≡ take r.at s
  pub place : r.at ≡ length (head_bytes (head_in r ks'))

-- by the head and the bytes left
handed_by : (s ks : List ℕ) (r : Headed) (ks' : List ℕ) (d : Head) (t : List ℕ) → length s ≤ input_limit → read_head s ≡ got d t → told r ks' ≡ told_of s ks (got d t) → Handed s r ks'
handed_by s ks r ks' d t l e p =
    let is : s ≡ head_bytes d ++ t = read_then_written s d t e in
    let n : r ≡ numbers_of s d t = ap (λ (x : Told). x.answer) p in
    let k : ks' ≡ map entry_of d.sheet.atc_of ++ drop (item_count d.sheet) ks = ap (λ (x : Told). x.attached) p in
    let h : head_in r ks' ≡ d = ap₂ head_in n k ∙ same_head d s t (drop (item_count d.sheet) ks) in
    let a : r.at ≡ length (head_bytes d) = ap (λ (x : Headed). x.at) n ∙ omega (arith, ap length is, length-append (head_bytes d) t) in
    record {
      short = l;
      read = e ∙ ap₂ (λ (x : Head) (u : List ℕ). got x u) (sym h) (sym (ap (drop r.at) is ∙ drop_at (head_bytes d) t r.at (sym a)));
      bytes = ap head_bytes h ∙ sym (ap (take r.at) is ∙ take_at (head_bytes d) t r.at (sym a));
      place = a ∙ ap (λ (x : Head). length (head_bytes x)) (sym h);
    }

pub handed : (s ks : List ℕ) (r : Headed) (ks' : List ℕ) → HeadReadBy s ks r ks' → r.refusal ≡ 0 → Handed s r ks'
unfolding head_told stage_head
handed s ks r ks' p z =
    let j = proper_cond (leb (length s) input_limit) (read_head s) (refused over_limit) (proper_head s) (omega arith) in
    let a = accepts (stage_head s) j (sym (refusal_is s ks (stage_head s)) ∙ sym (ap (λ (x : Told). x.answer.refusal) p) ∙ z) in
    let q = passed (leb (length s) input_limit) (read_head s) over_limit a.value a.rest a.was in
    handed_by s ks r ks' a.value a.rest (leb-true (length s) input_limit q.0) q.1 (p ∙ ap (told_of s ks) a.was)

-- ---- read, then written: the same bytes; what stood past them stays, and a slice that is too short is not written

pub record SameHead (s out : List ℕ) (r : Headed) (w : Written) (out' : List ℕ) : Type 0 where
  pub fits : r.at ≤ length out → (w.refusal ≡ 0) × (w.len ≡ r.at) × (out' ≡ take r.at s ++ drop r.at out)
  pub short : length out < r.at → (w.refusal ≡ slice_short) × (w.len ≡ 0) × (out' ≡ out)

by_answer : (d : Head) (out : List ℕ) (w : Written) (out' : List ℕ) (x : Wrote) → HeadWrittenBy d out w out' → write_head d out ≡ x
    → (w.refusal ≡ x.answer) × (w.len ≡ length_of x.answer (head_bytes d)) × (out' ≡ x.slice)
unfolding head_length
by_answer d out w out' x p e =
    (ap (λ (y : Wrote). y.answer) (p.0 ∙ e), p.1 ∙ ap (λ (y : Wrote). length_of y.answer (head_bytes d)) e, ap (λ (y : Wrote). y.slice) (p.0 ∙ e))

module _ (d : Head) (ok : sheet_ok d.sheet ≡ true) (out : List ℕ) where
  wrote_all : length (head_bytes d) ≤ length out → write_head d out ≡ wrote 0 (over (head_bytes d) out)
  unfolding write_head
  wrote_all l = rw (ok, le-leb (length (head_bytes d)) (length out) l)

  wrote_none : length out < length (head_bytes d) → write_head d out ≡ wrote slice_short out
  unfolding write_head
  wrote_none l = rw (ok, lt-leb (length (head_bytes d)) (length out) l)

pub read_then_write : (s ks : List ℕ) (r : Headed) (ks' : List ℕ) → HeadReadBy s ks r ks' → r.refusal ≡ 0
    → (out : List ℕ) (w : Written) (out' : List ℕ) → HeadWrittenBy (head_in r ks') out w out' → SameHead s out r w out'
read_then_write s ks r ks' p z out w out' q =
    let h = handed s ks r ks' p z in
    let d = head_in r ks' in
    let ok = (read_judged s d (drop r.at s) h.read).0 in
    let n = h.place in
    record {
      fits = λ l.
          let x = by_answer d out w out' (wrote 0 (over (head_bytes d) out)) q (wrote_all d ok out (omega (arith, n))) in
          (x.0, x.1 ∙ sym n, x.2 ∙ ap₂ (λ (b : List ℕ) (k : ℕ). b ++ drop k out) h.bytes (sym n));
      short = λ l. by_answer d out w out' (wrote slice_short out) q (wrote_none d ok out (omega (arith, n)));
    }

-- ---- written, then read before any image: the same sheet and setup number, and the place where that image begins

module _ (d : Head) (low : d.setup < wide) (out : List ℕ) (w : Written) (out' : List ℕ) (written : HeadWrittenBy d out w out') (fine : w.refusal ≡ 0) where
  answered : (write_head d out).answer ≡ 0
  answered = sym (ap (λ (x : Wrote). x.answer) written.0) ∙ fine

  was : (sheet_ok d.sheet ≡ true) × (out' ≡ over (head_bytes d) out)
  unfolding write_head
  was = by (first_of (sheet_refusal d.sheet ∷ long_enough ∷ [])) refl answered
    where
      long_enough : ℕ
      long_enough = check (leb (length (head_bytes d)) (length out)) slice_short

      by : (n : ℕ) → first_of (sheet_refusal d.sheet ∷ long_enough ∷ []) ≡ n → (wrote_of n (head_bytes d) out).answer ≡ 0 → (sheet_ok d.sheet ≡ true) × (out' ≡ over (head_bytes d) out)
      by zero q e = (Checks.passed (sheet_ok d.sheet) 0 (first_passed (sheet_refusal d.sheet) (long_enough ∷ []) q).0, ap (λ (x : Wrote). x.slice) written.0 ∙ rw q)
      by (suc n) q e = absurd (omega arith)

  length_is : w.len ≡ length (head_bytes d)
  unfolding head_length
  length_is = written.1 ∙ ap (λ (k : ℕ). length_of k (head_bytes d)) answered

  bytes_are : take w.len out' ≡ head_bytes d
  bytes_are = ap (take w.len) was.1 ∙ take_at (head_bytes d) (drop (length (head_bytes d)) out) w.len (sym length_is)

  pub write_then_read : (image ks : List ℕ) (r : Headed) (ks' : List ℕ) → length (take w.len out' ++ image) ≤ input_limit → HeadReadBy (take w.len out' ++ image) ks r ks'
      → (r.refusal ≡ 0) × (r.at ≡ w.len) × (head_in r ks' ≡ d)
  unfolding head_told stage_head
  write_then_read image ks r ks' l p =
      let s = take w.len out' ++ image in
      let e : read_head s ≡ got d image = ap (λ (b : List ℕ). read_head (b ++ image)) bytes_are ∙ written_read d was.0 low image in
      let q : told r ks' ≡ told_of s ks (got d image) = p ∙ rw (le-leb (length s) input_limit l, e) in
      let n : r ≡ numbers_of s d image = ap (λ (x : Told). x.answer) q in
      let k : ks' ≡ map entry_of d.sheet.atc_of ++ drop (item_count d.sheet) ks = ap (λ (x : Told). x.attached) q in (
        ap (λ (x : Headed). x.refusal) n,
        ap (λ (x : Headed). x.at) n ∙ omega (arith, length-append (take w.len out') image, ap length bytes_are, length_is),
        ap₂ head_in n k ∙ same_head d s image (drop (item_count d.sheet) ks),
      )
