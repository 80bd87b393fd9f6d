-- From stage to stage of a reclaim: the packed record, its image, what is read from it, and the answer (02, A.4). Assumes nothing.
use Rattle.std.proofs.Math.Path.{◌≡◌, refl, sym, ap}
use Rattle.std.specs.Result.{IsOk, result_unwrap_or}
use Rattle.std.proofs.Common.{◌∙◌, subst, arith, length-append, take_at}
use Rattle.std.specs.Prelude.{Bool, true, false, List, [], ℕ, ◌≤◌, ◌<◌, ℤ, length, take, drop, Result, Ok, Err, IfOk}
use Rattle.std.proofs.lemmas.List.Edits.{sets}
use borrow.Author.Tests.{le-leb}
use Rattle.model.specs.Limits.{block_limit, command_limit, node_limit}
use Rattle.model.specs.Refusal.{bad_roots}
use Rattle.model.specs.Refusals.{refusal_in}
use Rattle.model.specs.declared.Refusal.{Refusal}
use Rattle.model.specs.Script.{Block}
use Rattle.model.specs.Reading.{got, refusal_of}
use Rattle.model.specs.Image.{image, read_image}
use Rattle.model.specs.Memory.{Memory, memory_in, script_of, put_blocks}
use Rattle.model.specs.Record.{judged_record}
use Rattle.model.specs.Files.{Wrote, over, write_checked}
use Rattle.model.specs.RecordCalls.{Born, record_refusal, write_in}
use Rattle.model.proofs.Laws.Files.{write_then_read}
use Rattle.model.proofs.Laws.Refused.{Accepts, accepts}
use Rattle.model.proofs.Laws.Checks.{first_alone}
use Rattle.memory.specs.View.{memory_of, born_of, empty_in}
use Rattle.memory.specs.declared.Counts.{Counts}
use Rattle.memory.specs.RecordLaws.{judged_sound, proper_record}
use Rattle.memory.specs.Transfer.{accepted_script, judged_kept}
use Rattle.image_read.specs.Outcome.{outcome, read_into}
use Rattle.model.specs.Refusals.{refuses}
use Rattle.image_write.specs.Call.{wrote, length_of, length_in}
use Rattle.image_write.specs.Lengths.{most_bytes, record_short}
use Rattle.reclaim_model.specs.Reclaim.{kept_blocks, moved_words, rank, roots_ok, survivors}
use Rattle.reclaim_record.specs.Calls.{lives_in, kept_only_in, moved_in, reclaim_refusal_in, reclaimed_in}
use Rattle.reclaim_record.proofs.Checks.{roots_first, refused_stays}
use Rattle.reclaim_record.specs.Packed.{Packed}
use Rattle.reclaim_record.proofs.Packed.{Route, route}
use Rattle.reclaim_reach.specs.Words.{Safe}
use Rattle.reclaim_reach.specs.Marks.{Reaching}
use Rattle.reclaim_reach.specs.Judged.{marks_reached, safe}
use Rattle.reclaim_pack.specs.Table.{ranks_to, rank_to, table_rank, Ranks, Small, followed_to, packed_to}
use Rattle.reclaim_pack.specs.Whole.{table_ranks, table_small, table_places, packs}
use Rattle.reclaim.specs.Answer.{ReclaimedAs}
use Rattle.reclaim.specs.Stages.{Arrays, PackedBy, lives_of, KeptOnly}

judged_of : (m : Memory) → record_refusal m ≡ 0 → Accepts (judged_record m)
judged_of m e = accepts (judged_record m) (proper_record m) e

-- ---- written as an image

module _ (m : Memory) (fine : record_refusal m ≡ 0) (out : List ℕ) (room : most_bytes block_limit command_limit node_limit ≤ length out)
    (i : Result ℕ Refusal) (out' : List ℕ) (w : (wrote (refusal_in i) out' ≡ write_in m out) × IfOk i (λ n. n ≡ length_in m out)) where
  abbrev bytes : List ℕ
  bytes = image (script_of m).blocks

  short : length (image (script_of m).blocks) ≤ length out
  short =
      let j = judged_of m fine in
      let k = judged_kept m j.value j.rest j.was in
      let s = record_short m j.value j.rest j.was in
      omega (arith, k.0, k.1, k.2, s, ap (λ (bs : List Block). length (image bs)) (judged_sound m j.value j.rest j.was).blocks_are)

  written : write_in m out ≡ wrote 0 (over (image (script_of m).blocks) out)
  unfolding write_in write_checked
  written = rw (fine, le-leb (length bytes) (length out) short)

  accepted : refusal_in i ≡ 0
  accepted = ap (λ (x : Wrote). x.answer) (w.0 ∙ written)

  out_is : out' ≡ over (image (script_of m).blocks) out
  out_is = ap (λ (x : Wrote). x.slice) (w.0 ∙ written)

  pub always_ok : IsOk i
  always_ok = by i accepted
    where
      by : (i : Result ℕ Refusal) → refusal_in i ≡ 0 → IsOk i
      by (Ok n) e = refl
      by (Err e) z = absurd (refuses e z)

  module _ (len : ℕ) (ok : i ≡ Ok len) where
    len_is : len ≡ length (image (script_of m).blocks)
    unfolding length_in
    len_is = rw ok at w.1 ∙ ap (λ (x : Wrote). length_of x.answer bytes) written

    pub bytes_fit : len ≤ length out'
    bytes_fit = omega (arith, len_is, ap length out_is, length-append bytes (drop (length bytes) out))

    pub bytes_read : read_image (take len out') ≡ got (script_of m).blocks []
    bytes_read =
        let j = judged_of m fine in
        ap read_image (ap (take len) out_is ∙ take_at bytes (drop (length bytes) out) len (sym len_is)) ∙ write_then_read (script_of m) (accepted_script m j.value j.rest j.was)

-- ---- read from it

module _ (m : Memory) (ws : List ℕ) (vs : List ℤ) (cw bw s : List ℕ) (i : Result Counts Refusal) (p : outcome i ws vs cw bw ≡ read_into m (read_image s)) (bs : List Block) (r : List ℕ) (e : read_image s ≡ got bs r) where
  pub read_is : (d : Counts) → memory_of ws vs cw bw (result_unwrap_or i d) ≡ put_blocks m bs
  unfolding outcome read_into
  read_is d = by i (p ∙ ap (read_into m) e)
    where
      by : (i : Result Counts Refusal) → outcome i ws vs cw bw ≡ read_into m (got bs r) → memory_of ws vs cw bw (result_unwrap_or i d) ≡ put_blocks m bs
      by (Ok k) u = cc
      by (Err n) u = let z : ◌≡◌ {A = ℕ} 0 1 = cc in absurd (omega arith)

-- ---- packed

module _ (live : List Bool) (k : Counts) (cw bw table : List ℕ) (few : k.blocks ≤ block_limit) (short : k.commands ≤ command_limit) (long : Arrays live table cw bw) where
  abbrev n : ℕ
  n = k.blocks

  room : (k.blocks ≤ length live) × (k.blocks ≤ length table)
  room = (omega (arith, few, long.marks_long), omega (arith, few, long.table_long))

  pub tell_asks : (table' : List ℕ) → table' ≡ ranks_to live k.blocks table → Ranks live k.blocks table'
  tell_asks table' t = subst (Ranks live n) (sym t) (table_ranks live n room.0 table room.1)

  pub pack_asks : (table' : List ℕ) (total : ℕ) → table' ≡ ranks_to live k.blocks table → total ≡ rank_to live k.blocks
      → Small table' k.blocks total × ((b : ℕ) → b < k.blocks → table_rank table' k.blocks total b < block_limit)
  pack_asks table' total t u =
      rw (t, u) (table_small live n room.0 table room.1 few, table_places live n room.0 table room.1 few)

  pub packed_by : (births table' cw' bw' births' moved : List ℕ) (total : ℕ) → table' ≡ ranks_to live k.blocks table → total ≡ rank_to live k.blocks
      → cw' ≡ followed_to (table_rank table' k.blocks total) k.commands cw → bw' ≡ packed_to (table_rank table' k.blocks total) live k.blocks bw
      → births' ≡ sets births 0 (survivors (take k.blocks live) (take k.blocks births)) → moved ≡ moved_words (take k.blocks live)
      → PackedBy live k cw bw births cw' bw' births' moved total
  packed_by births table' cw' bw' births' moved total t u c b v w = record {
    words = λ ws vs.
        let ms = take k.blocks live in
        let f = table_rank table' k.blocks total in
        let q : memory_in ws vs cw' bw' k.nodes k.commands total ≡ memory_in ws vs (followed_to f k.commands cw) (packed_to f live k.blocks bw) k.nodes k.commands (rank_to live k.blocks)
        = λ i. memory_in ws vs (c i) (b i) k.nodes k.commands (u i) in
        subst (λ (m : Memory). Packed (rank ms) ms (memory_of ws vs cw bw k) m) (sym q)
        (packs ws vs cw bw k.nodes k.commands k.blocks live table few short long.marks_long long.table_long long.commands_long long.blocks_long f (λ i. table_rank (t i) k.blocks (u i)));
    marks = v;
    tells = w;
  }

-- ---- from a judged record to its survivors

module _ (ws : List ℕ) (vs : List ℤ) (cw bw : List ℕ) (k : Counts) (fine : record_refusal (memory_of ws vs cw bw k) ≡ 0) where
  abbrev m : Memory
  m = memory_of ws vs cw bw k

  pub kept_low : (k.blocks ≤ block_limit) × (k.commands ≤ command_limit)
  kept_low =
      let j = judged_of m fine in
      let l = judged_kept m j.value j.rest j.was in
      (l.0, l.1)

  pub words_safe : Safe cw bw k.blocks
  words_safe = let j = judged_of m fine in safe m j.value j.rest j.was

  module _ (births rs : List ℕ) (live : List Bool) (reach : Reaching cw bw k.blocks rs live) (cw' bw' births' moved : List ℕ) (total : ℕ) (p : PackedBy live k cw bw births cw' bw' births' moved total) where
    abbrev m' : Memory
    m' = memory_in ws vs cw' bw' k.nodes k.commands total

    same : take k.blocks live ≡ lives_of (memory_of ws vs cw bw k) rs
    same = marks_reached m rs live reach

    way : Route (memory_of ws vs cw bw k) (memory_in ws vs cw' bw' k.nodes k.commands total) (kept_blocks (lives_of (memory_of ws vs cw bw k) rs) (script_of (memory_of ws vs cw bw k)).blocks)
    way =
        let j = judged_of m fine in
        route (born_of ws vs cw bw k births 0) rs m' j.value j.rest j.was (subst (λ (ms : List Bool). Packed (rank ms) ms m m') same (p.words ws vs))

    pub packed_fine : record_refusal (memory_in ws vs cw' bw' k.nodes k.commands total) ≡ 0
    packed_fine = ap refusal_of way.judged

    pub kept_only_lem : (after : Memory) → after ≡ put_blocks (empty_in ws vs cw bw) (script_of (memory_in ws vs cw' bw' k.nodes k.commands total)).blocks → KeptOnly ws vs cw bw k births rs after births' moved
    kept_only_lem after a = record {
      memory = a ∙ ap (put_blocks (empty_in ws vs cw bw)) way.blocks;
      marks = p.marks ∙ ap (λ (ms : List Bool). sets births 0 (survivors ms (take k.blocks births))) same;
      tells = p.tells ∙ ap moved_words same;
    }

-- ---- the answer

module _ (k : Born) (rs moved : List ℕ) where
  answer_refused : (n : ℕ) → n ≡ reclaim_refusal_in k rs → (n ≡ 0 → ⊥) → ReclaimedAs k rs moved n k moved
  answer_refused n e z = let w = refused_stays k rs (λ q. z (e ∙ q)) in record { answer = e; is = sym w.record_is; tells = sym (w.moved moved) }

  pub answer_roots : roots_ok k.memory.count rs ≡ false → ReclaimedAs k rs moved bad_roots k moved
  answer_roots e = answer_refused bad_roots (sym (roots_first k rs e)) (λ q. omega arith)

  module _ (ok : roots_ok k.memory.count rs ≡ true) where
    judged_next : record_refusal k.memory ≡ reclaim_refusal_in k rs
    unfolding reclaim_refusal_in
    judged_next = rw ok (first_alone (record_refusal k.memory))

    pub answer_judged : (n : ℕ) → n ≡ record_refusal k.memory → (n ≡ 0 → ⊥) → ReclaimedAs k rs moved n k moved
    answer_judged n e z = answer_refused n (e ∙ judged_next) z

    pub answer_kept : record_refusal k.memory ≡ 0 → (after : Born) (told : List ℕ) → after ≡ kept_only_in (lives_in k rs) k → told ≡ moved_words (lives_in k rs) → ReclaimedAs k rs moved 0 after told
    unfolding reclaimed_in moved_in
    answer_kept j after told a t = let e : reclaim_refusal_in k rs ≡ 0 = sym judged_next ∙ j in record { answer = sym e; is = rw e a; tells = rw e t }

-- the parts of the kept script, with its marks and any count
pub kept_born : (ws : List ℕ) (vs : List ℤ) (cw bw : List ℕ) (k : Counts) (births rs : List ℕ) (after : Memory) (births' moved : List ℕ) → KeptOnly ws vs cw bw k births rs after births' moved → (n : ℕ)
    → record { memory = after; births = births'; compiles = n } ≡ kept_only_in (lives_in (born_of ws vs cw bw k births n) rs) (born_of ws vs cw bw k births n)
unfolding kept_only_in
kept_born ws vs cw bw k births rs after births' moved p n = λ i. record { memory = p.memory i; births = p.marks i; compiles = n }
