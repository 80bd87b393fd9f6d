-- The whole record is judged as its image would be read. Assumes nothing.
use Rattle.std.specs.Prelude.{◌≡◌, Bool, true, false, ℕ, suc, ◌+◌, ◌-◌, ◌*◌, ◌≤◌, ◌<◌, leb, Ok, Err}
use Rattle.std.proofs.Math.Path.{refl, ap, sym}
use Rattle.std.proofs.Common.{◌∙◌, subst}
use mathlib.Core.List.{List, [], ◌++◌, append_assoc, append-nil}
use native.Mathlib.Omega.{arith}
use Rattle.std.proofs.Math.Dec.{T}
use borrow.Author.Tests.{leb-true, le-leb, lt-leb}
use Rattle.std.proofs.Math.ListN.{length, length-append}
use Rattle.model.specs.Limits.{wide, block_limit, command_limit, node_limit}
use Rattle.model.specs.Reading.{Answer, got, refused, onward, word}
use Rattle.model.specs.Script.{Block}
use Rattle.model.specs.Image.{Limits, limits, read_block, read_blocks, ended, read_within, image}
use Rattle.model.specs.Memory.{Memory, block_word}
use Rattle.model.specs.Record.{block_tail, blocks_image_in, record_image, held_kept, limits_kept, kept_ok, judged_record}
use Rattle.model.proofs.Laws.Reading.{read_word}
use Rattle.model.proofs.Laws.Image.{write_image}
use Rattle.memory.specs.declared.Counts.{Counts}
use Rattle.memory.specs.RecordLaws.{read_sound}
use Rattle.memory.specs.Kept.{sound_kept}
use Rattle.memory.specs.Agree.{past_judged}
use Rattle.image_numbers.specs.Told.{ShortWord}
use Rattle.judge_terms.specs.Told.{Kept}
use Rattle.judge_record.specs.Loop.{Part, Next, part_start, part_next, part_no, part_done, part_bytes}
use Rattle.judge_record.specs.Stages.{Within, Stage, GoodBlock, Staged, Judged, JudgedAs, WalkedAs}
use Rattle.judge_record.specs.Blocks.{block_of_lem, stop_of}
use Rattle.model.specs.Refusals.{refusal_number}
use Rattle.model.specs.declared.Refusal.{Refusal}
use Rattle.model.specs.declared.Refusal.TheVariants.{OverLimit}

-- the kept counts are the limits
abbrev pub limits_of : Memory → Limits
limits_of me = limits me.count me.coded.count me.coded.nodes.count

-- c blocks, where commands and nodes were counted before
abbrev pub many_blocks : Limits → ℕ → ℕ × ℕ → List ℕ → Answer (List Block)
many_blocks l c s t = read_blocks l c s.0 s.1 t

abbrev pub counted : ℕ → ℕ → ℕ × ℕ
counted m n = (m, n)

-- i blocks were judged: ten bytes each besides those of their commands and nodes, and three for the count of blocks
pub record Passing (me : Memory) (i m n p : ℕ) : Type 0 where
  pub part : Part (many_blocks (limits_of me)) (blocks_image_in me) me.count 0 (counted 0 0) (length (word me.count)) i (counted m n) p
  pub low : n ≤ me.coded.nodes.count
  pub room : m ≤ me.coded.count
  pub short : p ≤ 6 * n + 4 * m + 10 * i + 3

-- one block, before c more
module _ (l : Limits) (me : Memory) (c b n m p : ℕ) where
  block_next : {n' m' q : ℕ} (A : GoodBlock (read_block l m n) (word (block_word me b 0) ++ block_tail me b (block_word me b 0)) l.nodes l.commands 10 n m p n' m' q)
      → Next (many_blocks l) (blocks_image_in me) c b A.value (counted m n) p (counted m' n') q
  unfolding read_blocks blocks_image_in
  block_next A = record {
    reads = λ t. rw (append_assoc (word (block_word me b 0) ++ block_tail me b (block_word me b 0)) (blocks_image_in me c (suc b)) t, A.reads (blocks_image_in me c (suc b) ++ t), A.counted, A.held);
    bytes = omega (arith, length-append (word (block_word me b 0) ++ block_tail me b (block_word me b 0)) (blocks_image_in me c (suc b)), A.bytes);
  }

  block_no : {e : ℕ} → ((t : List ℕ) → read_block l m n ((word (block_word me b 0) ++ block_tail me b (block_word me b 0)) ++ t) ≡ refused e) → (t : List ℕ) → many_blocks l (suc c) (counted m n) (blocks_image_in me (suc c) b ++ t) ≡ refused e
  unfolding read_blocks blocks_image_in
  block_no q t = rw (append_assoc (word (block_word me b 0) ++ block_tail me b (block_word me b 0)) (blocks_image_in me c (suc b)) t, q (blocks_image_in me c (suc b) ++ t))

-- ---- kept counts

module _ (k : Counts) where
  pub limits_blocks : block_limit < k.blocks → Within k false
  unfolding limits_kept
  limits_blocks h = record { kept = λ e. absurd (subst T (sym e) tt); over = λ e ws vs cw bw. rw (lt-leb k.blocks block_limit h) }

  pub limits_commands : k.blocks ≤ block_limit → command_limit < k.commands → Within k false
  unfolding limits_kept
  limits_commands b h = record { kept = λ e. absurd (subst T (sym e) tt); over = λ e ws vs cw bw. rw (le-leb k.blocks block_limit b, lt-leb k.commands command_limit h) }

  pub limits_nodes : k.blocks ≤ block_limit → k.commands ≤ command_limit → Within k (leb k.nodes node_limit)
  unfolding limits_kept
  limits_nodes b c = record {
    kept = λ e. record { nodes = leb-true k.nodes node_limit e; commands = c; blocks = b };
    over = λ e ws vs cw bw. rw (le-leb k.blocks block_limit b, le-leb k.commands command_limit c, e);
  }

module _ (me : Memory) where
  pub limits_over : limits_kept me ≡ false → JudgedAs me (Err OverLimit)
  unfolding JudgedAs judged_record kept_ok
  limits_over e = rw e

  module _ (K : Kept me.coded.nodes.count me.coded.count me.count) where
    -- the walk is reading the blocks
    walk_read : read_within me.coded.count me.coded.nodes.count (record_image me) ≡ onward (read_blocks (limits_of me) me.count 0 0 (blocks_image_in me me.count 0 ++ [])) ended
    unfolding read_within record_image
    walk_read =
        let kb = K.blocks in
        rw (read_word wide me.count (blocks_image_in me me.count 0) (omega arith) (omega arith), le-leb me.count block_limit kb, append-nil)

    within : held_kept me ≡ true → judged_record me ≡ read_within me.coded.count me.coded.nodes.count (record_image me)
    unfolding judged_record kept_ok limits_kept
    within e = rw (le-leb me.count block_limit K.blocks, le-leb me.coded.count command_limit K.commands, le-leb me.coded.nodes.count node_limit K.nodes, e)

    pub pass_start : (p : ℕ) → ShortWord me.count p → Passing me 0 0 0 p
    pass_start p s =
        let y = s.short in
        let i = s.is in
        rw i (record { part = part_start (many_blocks (limits_of me)) (blocks_image_in me) me.count 0 (counted 0 0) (length (word me.count)); low = omega arith; room = omega arith; short = omega arith })

    module _ {i m n p : ℕ} (P : Passing me i m n p) where
      module _ (lt : i < me.count) {r : Stage}
          (t : Staged (read_block (limits_of me) m n) (word (block_word me i 0) ++ block_tail me i (block_word me i 0)) me.coded.nodes.count me.coded.count 10 n m p r) where
        pub pass_next : {n' m' q : ℕ} → r ≡ Ok (n', m', q) → Passing me (i + 1) m' n' q
        pass_next {n'} {m'} {q} e =
            let A = block_of_lem t e in
            let s = P.short in
            let z : 0 + i ≡ i = omega arith in
            let N : Next (many_blocks (limits_of me)) (blocks_image_in me) (me.count - (i + 1)) (0 + i) A.value (counted m n) p (counted m' n') q = rw z (block_next (limits_of me) me (me.count - (i + 1)) i n m p A) in
            record {
              part = part_next (many_blocks (limits_of me)) (blocks_image_in me) me.count 0 (counted 0 0) (length (word me.count)) P.part lt A.value N;
              low = A.low;
              room = A.room;
              short = omega (arith, A.short);
            }

        pub pass_no : {e : Refusal} → r ≡ Err e → WalkedAs me (Err e)
        unfolding WalkedAs
        pass_no {e = k} e h =
            let z : 0 + i ≡ i = omega arith in
            within h ∙ walk_read ∙ rw (part_no (many_blocks (limits_of me)) (blocks_image_in me) me.count 0 (counted 0 0) (length (word me.count)) P.part lt {e = refusal_number k}
            (λ u. rw z (block_no (limits_of me) me (me.count - (i + 1)) i n m p (stop_of t e) u)) [])

      pass_bytes : me.count ≤ i → p ≡ length (record_image me)
      unfolding record_image blocks_image_in read_blocks
      pass_bytes ge =
          part_bytes (many_blocks (limits_of me)) (blocks_image_in me) me.count 0 (counted 0 0) (length (word me.count)) P.part ge (λ t. refl) refl
          ∙ sym (length-append (word me.count) (blocks_image_in me me.count 0))

      -- what the walk accepts holds nothing past the kept counts
      pub pass_done : me.count ≤ i → JudgedAs me (Ok p)
      unfolding JudgedAs read_blocks blocks_image_in ended
      pass_done ge =
          let bs = P.part.seen in
          let all : read_within me.coded.count me.coded.nodes.count (record_image me) ≡ got bs []
          = walk_read ∙ rw (part_done (many_blocks (limits_of me)) (blocks_image_in me) me.count 0 (counted 0 0) (length (word me.count)) P.part ge (λ t. refl) []) in
          let same : record_image me ≡ image bs = (write_image me.coded.count me.coded.nodes.count (record_image me) bs [] all).bytes in
          let kept = sound_kept me (read_sound me.coded.count me.coded.nodes.count me bs [] all) in
          record { blocks = bs; judged = within kept ∙ all; same = same; bytes = pass_bytes ge ∙ ap length same }

-- ---- the walk's answer, and whether all that is held is kept

pub walked_done : (me : Memory) (len : ℕ) → JudgedAs me (Ok len) → WalkedAs me (Ok len)
unfolding WalkedAs JudgedAs
walked_done me len j = j

module _ (me : Memory) where
  module _ {r : Judged} (w : WalkedAs me r) where
    pub walked_fine : {len : ℕ} → r ≡ Ok len → JudgedAs me (Ok len)
    unfolding WalkedAs JudgedAs
    walked_fine e = rw e at w

    pub walked_no : {k : Refusal} {b : Bool} → r ≡ Err k → b ≡ held_kept me → b ≡ true → JudgedAs me (Err k)
    unfolding WalkedAs JudgedAs
    walked_no e p q = (rw e at w) (sym p ∙ q)

  pub held_past : {b : Bool} → b ≡ held_kept me → b ≡ false → JudgedAs me (Err OverLimit)
  unfolding JudgedAs
  held_past p q = past_judged me (sym p ∙ q)
