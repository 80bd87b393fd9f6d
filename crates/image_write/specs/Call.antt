-- What the call answers and leaves: refused by the judgement, by the slice's length, or written. Assumes nothing.
use Rattle.std.specs.Prelude.{◌≡◌, Result, Ok, Err, IfOk, ◌&&◌, ℕ, zero, suc, ◌+◌, ◌≤◌, ◌<◌, drop}
use Rattle.std.proofs.Math.Path.{ap}
use Rattle.std.proofs.Common.{◌∙◌, subst, arith}
use Rattle.std.proofs.Math.Bool.{true, false}
use mathlib.Core.List.{List, [], ◌++◌}
use Rattle.std.proofs.Math.Dec.{leb}
use borrow.Author.Tests.{leb-true, le-leb, lt-leb}
use Rattle.std.proofs.Math.ListN.{length}
use Rattle.std.proofs.lemmas.List.Edits.{sets, sets-eq}
use Rattle.model.specs.Limits.{block_limit, command_limit, node_limit}
use Rattle.model.specs.Refusal.{over_limit}
use Rattle.model.specs.Reading.{refused}
use Rattle.model.specs.Image.{image, read_within}
use Rattle.model.specs.Memory.{Memory, script_of}
use Rattle.model.specs.Record.{record_image, held_kept, limits_kept, kept_ok, judged_record}
use Rattle.model.specs.Files.{Wrote, over, write_checked}
use Rattle.model.specs.RecordCalls.{write_in}
use Rattle.model.proofs.Laws.Reading.{passed}
use Rattle.model.proofs.Laws.Refused.{Proper}
use Rattle.model.proofs.Laws.Checks.{and_left, and_right}
use Rattle.memory.specs.RecordLaws.{judged_sound, proper_record}
use Rattle.judge_terms.specs.Told.{Kept}
use Rattle.judge_record.specs.Stages.{Accepted, JudgedAs}
use Rattle.model.specs.Refusals.{refusal_number, refusal_in}
use Rattle.model.specs.declared.Refusal.{Refusal}
use Rattle.model.specs.declared.Refusal.TheVariants.{SliceShort}
use Rattle.image_numbers.specs.Stored.{Stored, Room}

-- ---- the answer as the contract says it

-- a refusal's number and a slice
abbrev pub wrote : ℕ → List ℕ → Wrote
wrote n s = record { answer = n; slice = s }

abbrev pub length_of : ℕ → List ℕ → ℕ
length_of zero b = length b
length_of (suc n) b = 0

-- the length of the image where it was written, else 0
unfoldable pub length_in : Memory → List ℕ → ℕ
length_in m out = length_of (write_in m out).answer (image (script_of m).blocks)

abbrev Called : Memory → List ℕ → Result ℕ Refusal → List ℕ → Type 0
Called m xs r ys = (wrote (refusal_in r) ys ≡ write_in m xs) × IfOk r (λ n. n ≡ length_in m xs)

-- ---- refused by the judgement

pub call_no : (m : Memory) (xs : List ℕ) (e : Refusal) → JudgedAs m (Err e) → Called m xs (Err e) xs
unfolding JudgedAs write_in write_checked
call_no m xs e j = (go (refusal_number e) j (subst Proper j (proper_record m)), tt)
  where
    go : (n : ℕ) → judged_record m ≡ refused n → 0 < n → wrote n xs ≡ write_in m xs
    go zero j h = absurd (omega arith)
    go (suc n) j h = rw j

-- ---- judged fine

pub over_is : (xs b : List ℕ) → length b ≤ length xs → sets xs 0 b ≡ over b xs
over_is xs b h = let e : 0 + length b ≡ length b = omega arith in sets-eq b xs 0 (omega arith) ∙ ap (λ (k : ℕ). b ++ drop k xs) e

pub accepted_of : {m : Memory} {len : ℕ} → JudgedAs m (Ok len) → Accepted m len
unfolding JudgedAs
accepted_of j = j

module _ {m : Memory} {len : ℕ} (A : Accepted m len) where
  pub fine_kept : Kept m.coded.nodes.count m.coded.count m.count
  unfolding judged_record kept_ok limits_kept
  fine_kept =
      let b = leb m.count block_limit in
      let c = leb m.coded.count command_limit in
      let n = leb m.coded.nodes.count node_limit in
      let all = (passed (kept_ok m) (read_within m.coded.count m.coded.nodes.count (record_image m)) over_limit A.blocks [] A.judged).0 in
      let k = and_left (b && (c && n)) (held_kept m) all in
      let l = and_right b (c && n) k in
      record { nodes = leb-true m.coded.nodes.count node_limit (and_right c n l); commands = leb-true m.coded.count command_limit (and_left c n l); blocks = leb-true m.count block_limit (and_left b (c && n) k) }

  blocks_are : (script_of m).blocks ≡ A.blocks
  blocks_are = (judged_sound m A.blocks [] A.judged).blocks_are

  module _ (xs : List ℕ) where
    pub fine_room : len ≤ length xs → Room xs 0 (record_image m)
    fine_room h = record { fits = omega (arith, A.bytes, ap length A.same) }

    pub call_short : length xs < len → Called m xs (Err SliceShort) xs
    unfolding write_in write_checked
    call_short h =
        let l : leb (length (image A.blocks)) (length xs) ≡ false = lt-leb (length (image A.blocks)) (length xs) (omega (arith, A.bytes)) in
        (rw (A.judged, blocks_are, l), tt)

    pub call_fine : len ≤ length xs → {ys : List ℕ} {r : ℕ} → Stored xs 0 (record_image m) ys r → Called m xs (Ok r) ys
    unfolding write_in write_checked length_in
    call_fine h {ys} {r} s =
        let l : leb (length (image A.blocks)) (length xs) ≡ true = le-leb (length (image A.blocks)) (length xs) (omega (arith, A.bytes)) in
        let e : ys ≡ over (image A.blocks) xs = s.is ∙ ap (sets xs 0) A.same ∙ over_is xs (image A.blocks) (omega (arith, A.bytes)) in
        let n : r ≡ length (image A.blocks) = omega (arith, s.place, ap length A.same) in
        (rw (A.judged, blocks_are, l, e), rw (A.judged, blocks_are, l, n))
