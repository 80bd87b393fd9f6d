-- Both round trips over lk_read and lk_write, each call by its own promise: an accepted image read and written again, a script written and read again. Assumes nothing.
use Rattle.std.proofs.Math.Path.{◌≡◌, refl, ap}
use Rattle.std.proofs.Common.{sym, ◌∙◌, arith, take_at}
use Rattle.std.specs.Prelude.{List, [], ◌∷◌, ◌++◌, leb, ℤ, replicate, take, drop}
use Prim.Native.Nat.{ℕ, zero, suc, ◌≤◌, ◌<◌}
use Rattle.std.proofs.Math.ListN.{length}
use Rattle.model.specs.Limits.{block_limit}
use Rattle.model.specs.Refusal.{check, first_of, slice_short}
use Rattle.model.specs.Reading.{Answer, got, refused, refusal_of}
use Rattle.model.specs.Script.{Block}
use Rattle.model.specs.Image.{image, read_image}
use Rattle.model.specs.Memory.{Memory, memory_in, script_of, put_blocks}
use Rattle.model.specs.Record.{judged_record}
use Rattle.model.specs.Files.{Wrote, wrote_of, over, write_checked}
use Rattle.model.specs.RecordCalls.{write_in}
use Rattle.model.proofs.Laws.Checks.{first_passed}
use Rattle.model.proofs.Laws.Image.{same_bytes}
use Rattle.model.proofs.Laws.Refused.{accepts}
use Rattle.memory.specs.View.{memory_of}
use Rattle.memory.specs.Sound.{Long}
use Rattle.memory.specs.RecordLaws.{proper_record}
use Rattle.memory.specs.ReadRecord.{Empty, read_blocks_lem}
use Rattle.image_read.specs.Outcome.{held, read_into}
use Rattle.image_write.specs.Call.{wrote, length_of, length_in}
use Rattle.capi.specs.declared.Kept.{Kept}
use Rattle.capi.specs.declared.Written.{Written}
use Rattle.capi.specs.Answers.{counts_in, outcome_by, read_as}
use Rattle.engine.specs.Files.{read_writes, read_short, written_reads}

-- the five arrays of a script, of any content
pub record Lent : Type 0 where
  pub ws : List ℕ
  pub val : List ℤ
  pub cw : List ℕ
  pub bw : List ℕ
  pub births : List ℕ

-- with the kept counts that a call answered, or none
abbrev pub kept : Lent → Kept → Memory
kept a r = memory_of a.ws a.val a.cw a.bw (counts_in r)

abbrev pub empty : Lent → Memory
empty a = memory_in a.ws a.val a.cw a.bw 0 0 0

-- lk_read of some bytes into the arrays a answered r and left b, as it promises: the image carries no marks (02, A.2)
abbrev pub ReadBy : List ℕ → Lent → Kept → Lent → Type 0
ReadBy bytes a r b = (read_as r b.ws b.val b.cw b.bw ≡ read_into (empty a) (read_image bytes)) × (b.births ≡ replicate block_limit 0) × (r.compiles ≡ 0)

-- lk_write of a script into a slice answered w and left the slice out', as it promises
abbrev pub WrittenBy : Memory → List ℕ → Written → List ℕ → Type 0
WrittenBy m out w out' = (wrote w.refusal out' ≡ write_in m out) × (w.len ≡ length_in m out)

-- ---- what a read that was not refused left

pub record Held (bytes : List ℕ) (a : Lent) (m : Memory) : Type 0 where
  pub blocks : List Block
  pub rest : List ℕ
  pub was : read_image bytes ≡ got blocks rest
  pub is : m ≡ put_blocks (empty a) blocks

read_held : (bytes : List ℕ) (a : Lent) (r : Kept) (b : Lent) → ReadBy bytes a r b → r.refusal ≡ 0 → Held bytes a (kept b r)
unfolding read_as read_into
read_held bytes a r b p e = by (read_image bytes) refl (rw e at p.0)
  where
    by : (x : Answer (List Block)) → read_image bytes ≡ x → held (kept b r) ≡ read_into (empty a) x → Held bytes a (kept b r)
    by (got bs t) q u = record { blocks = bs; rest = t; was = q; is = cc }
    by (refused n) q u = let z : ◌≡◌ {A = ℕ} 0 1 = cc in absurd (omega arith)

none_kept : (a : Lent) → Empty (empty a)
none_kept a = record { blocks = refl; commands = refl; nodes = refl }

-- ---- read, then written: the same bytes; what stood past them stays, and a slice that is too short is not written

pub record SameBytes (bytes out : List ℕ) (w : Written) (out' : List ℕ) : Type 0 where
  pub fits : length bytes ≤ length out → (w.refusal ≡ 0) × (w.len ≡ length bytes) × (out' ≡ bytes ++ drop (length bytes) out)
  pub short : length out < length bytes → (w.refusal ≡ slice_short) × (w.len ≡ 0) × (out' ≡ out)

-- long: the lengths of the four arrays, which the types of lk_read say
module _ (bytes : List ℕ) (a : Lent) (long : Long (empty a)) (r : Kept) (b : Lent) (read : ReadBy bytes a r b) (fine : r.refusal ≡ 0) where
  was : Held bytes a (kept b r)
  was = read_held bytes a r b read fine

  image_is : image (script_of (kept b r)).blocks ≡ bytes
  image_is = ap (λ (m : Memory). image (script_of m).blocks) was.is ∙ ap image (read_blocks_lem (empty a) (none_kept a) long bytes was.blocks was.rest was.was) ∙ same_bytes bytes was.blocks was.rest was.was

  length_is : (out : List ℕ) (n : ℕ) → (write_in (kept b r) out).answer ≡ n → length_in (kept b r) out ≡ length_of n bytes
  unfolding length_in
  length_is out n e = rw (e, image_is)

  pub read_written : (out : List ℕ) (w : Written) (out' : List ℕ) → WrittenBy (kept b r) out w out' → SameBytes bytes out w out'
  read_written out w out' p = record {
    fits = λ l.
        let e = ap (λ (m : Memory). write_in m out) was.is ∙ read_writes (empty a) (none_kept a) long bytes was.blocks was.rest was.was out l in
        (ap (λ (x : Wrote). x.answer) (p.0 ∙ e), p.1 ∙ length_is out 0 (ap (λ (x : Wrote). x.answer) e), ap (λ (x : Wrote). x.slice) (p.0 ∙ e));
    short = λ l.
        let e = ap (λ (m : Memory). write_in m out) was.is ∙ read_short (empty a) (none_kept a) long bytes was.blocks was.rest was.was out l in
        (ap (λ (x : Wrote). x.answer) (p.0 ∙ e), p.1 ∙ length_is out slice_short (ap (λ (x : Wrote). x.answer) e), ap (λ (x : Wrote). x.slice) (p.0 ∙ e));
  }

-- ---- written, then read: the same blocks

module _ (m : Memory) (out : List ℕ) (w : Written) (out' : List ℕ) (written : WrittenBy m out w out') (fine : w.refusal ≡ 0) where
  answered : (write_in m out).answer ≡ 0
  answered = sym (ap (λ (x : Wrote). x.answer) written.0) ∙ fine

  passed : (refusal_of (judged_record m) ≡ 0) × (out' ≡ over (image (script_of m).blocks) out)
  unfolding write_in write_checked
  passed = by (first_of (refusal_of (judged_record m) ∷ long_enough ∷ [])) refl answered
    where
      long_enough : ℕ
      long_enough = check (leb (length (image (script_of m).blocks)) (length out)) slice_short

      by : (n : ℕ) → first_of (refusal_of (judged_record m) ∷ long_enough ∷ []) ≡ n → (wrote_of n (image (script_of m).blocks) out).answer ≡ 0
          → (refusal_of (judged_record m) ≡ 0) × (out' ≡ over (image (script_of m).blocks) out)
      by zero q e = ((first_passed (refusal_of (judged_record m)) (long_enough ∷ []) q).0, ap (λ (x : Wrote). x.slice) written.0 ∙ rw q)
      by (suc n) q e = absurd (omega arith)

  -- the bytes that it wrote
  bytes_are : take w.len out' ≡ image (script_of m).blocks
  unfolding length_in
  bytes_are =
      let n : w.len ≡ length (image (script_of m).blocks) = written.1 ∙ ap (λ (k : ℕ). length_of k (image (script_of m).blocks)) answered in
      rw passed.1 (take_at (image (script_of m).blocks) (drop (length (image (script_of m).blocks)) out) w.len (sym n))

  -- they are the image of its blocks
  reads : read_image (take w.len out') ≡ got (script_of m).blocks []
  reads =
      let j = accepts (judged_record m) (proper_record m) passed.0 in
      ap read_image bytes_are ∙ written_reads m j.value j.rest j.was

  pub written_read : (a : Lent) → Long (empty a) → (r : Kept) (b : Lent) → ReadBy (take w.len out') a r b → (r.refusal ≡ 0) × ((script_of (kept b r)).blocks ≡ (script_of m).blocks)
  unfolding read_as read_into
  written_read a long r b read =
      let z = accepted r.refusal (read.0 ∙ ap (read_into (empty a)) reads) in
      let k = read_held (take w.len out') a r b read z in
      let e : k.blocks ≡ (script_of m).blocks = cc (k.was, reads) in
      (z, ap (λ (x : Memory). (script_of x).blocks) k.is ∙ read_blocks_lem (empty a) (none_kept a) long (take w.len out') k.blocks k.rest k.was ∙ e)
    where
      accepted : (n : ℕ) → outcome_by n (kept b r) ≡ held (put_blocks (empty a) (script_of m).blocks) → n ≡ 0
      accepted zero p = refl
      accepted (suc n) p = let z : ◌≡◌ {A = ℕ} 0 1 = cc in absurd (omega arith)
