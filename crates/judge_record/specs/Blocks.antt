-- A block is judged as its image would be read. Assumes nothing.
use Rattle.std.specs.Prelude.{◌≡◌, ℕ, ◌+◌, ◌*◌, ◌≤◌, ◌<◌, get_or, Ok, Err}
use Rattle.std.proofs.Math.Path.{refl}
use Rattle.std.proofs.Common.{◌∙◌, arith}
use Rattle.std.proofs.Math.Option.{Option}
use mathlib.Core.List.{List, [], ◌++◌, append_assoc}
use borrow.Author.Tests.{le-leb, lt-leb}
use Rattle.std.proofs.Math.ListN.{length, length-append}
use Rattle.model.specs.Limits.{wide}
use Rattle.model.specs.Reading.{Answer, got, refused, onward, word}
use Rattle.model.specs.Script.{Command, Block, placeholder, code, data_block, commands_nodes, block_nodes, block_commands}
use Rattle.model.specs.Image.{Limits, read_link, read_commands, read_code, block_of, read_block}
use Rattle.model.specs.Memory.{Memory, block_word}
use Rattle.model.specs.Record.{commands_image_in, block_tail}
use Rattle.model.proofs.Laws.Reading.{read_word}
use Rattle.model.proofs.Laws.Image.{said_commands}
use Rattle.image_numbers.specs.Told.{ShortWord}
use Rattle.judge_terms.specs.Told.{Step, Good, Told}
use Rattle.image_numbers.specs.Lengths.{read_over, word_1}
use Rattle.judge_terms.specs.Pieces.{none, good_of, no_of, looser, first_no, paired}
use Rattle.judge_record.specs.Stages.{uncounted, both, read_links, Stage, GoodBlock, Shows, Staged}
use Rattle.memory.specs.NodeLaws.{first_word}
use Rattle.model.specs.Refusals.{refusal_number}
use Rattle.model.specs.declared.Refusal.{Refusal}
use Rattle.model.specs.declared.Refusal.TheVariants.{BadImage, OverLimit}

-- ---- what a stage shows, by its case

pub passed : {f : List ℕ → Answer Block} {w : List ℕ} {l c x n m at n' m' to : ℕ} → GoodBlock f w l c x n m at n' m' to → Staged f w l c x n m at (Ok (n', m', to))
unfolding Shows
passed p = record { shows = p }

pub stopped : {f : List ℕ → Answer Block} {w : List ℕ} {l c x n m at : ℕ} {e : Refusal} → ((t : List ℕ) → f (w ++ t) ≡ refused (refusal_number e)) → Staged f w l c x n m at (Err e)
unfolding Shows
stopped p = record { shows = p }

pub block_of_lem : {f : List ℕ → Answer Block} {w : List ℕ} {l c x n m at n' m' to : ℕ} {r : Stage} → Staged f w l c x n m at r → r ≡ Ok (n', m', to) → GoodBlock f w l c x n m at n' m' to
unfolding Shows
block_of_lem p e = rw e at p.shows

pub stop_of : {f : List ℕ → Answer Block} {w : List ℕ} {l c x n m at : ℕ} {e : Refusal} {r : Stage} → Staged f w l c x n m at r → r ≡ Err e → (t : List ℕ) → f (w ++ t) ≡ refused (refusal_number e)
unfolding Shows
stop_of p e = rw e at p.shows

-- ---- next and else

module _ (b x y n at : ℕ) {q : Step} (P : Told (read_link b) uncounted (word x) n 3 n at q) where
  pub links_told : {r : Step} {m p : ℕ} → q ≡ Ok (m, p) → Told (read_link b) uncounted (word y) m 3 m p r → Told (read_links b) uncounted (word x ++ word y) n 6 n at r
  unfolding read_links
  links_told eq Q =
      let A = good_of P eq in
      paired A (λ a. read_link b) uncounted both (λ v. refl) (looser n 3 A.low (omega arith) Q)

  pub links_no : {e : Refusal} → q ≡ Err e → Told (read_links b) uncounted (word x ++ word y) n 6 n at (Err e)
  unfolding read_links
  links_no eq = none (first_no (read_link b) (word x) _ (word y) (no_of P eq))

-- both read at once
links_join : (b : ℕ) (cs : List Command) (s : List ℕ) → onward (read_link b s) (λ x t. onward (read_link b t) (λ y u. got (code cs x y) u)) ≡ onward (read_links b s) (λ p u. got (code cs p.0 p.1) u)
unfolding read_links
links_join b cs s = go (read_link b s)
  where
    then : (x : Option ℕ) (a : Answer (Option ℕ)) → onward a (λ y u. got (code cs x y) u) ≡ onward (onward a (λ y u. got (both x y) u)) (λ p u. got (code cs p.0 p.1) u)
    then x (got y u) = refl
    then x (refused e) = refl

    go : (a : Answer (Option ℕ)) → onward a (λ x t. onward (read_link b t) (λ y u. got (code cs x y) u)) ≡ onward (onward a (λ x t. onward (read_link b t) (λ y u. got (both x y) u))) (λ p u. got (code cs p.0 p.1) u)
    go (got x t) = then x (read_link b t)
    go (refused e) = refl

-- ---- a code block: its count, its commands, next and else

module _ (l : Limits) (me : Memory) (b n m at len : ℕ) (s : ShortWord (block_word me b 2) len) where
  abbrev held : ℕ
  held = block_word me b 2

  abbrev commands : List ℕ
  commands = commands_image_in me.coded (block_word me b 2) (block_word me b 1)

  abbrev links : List ℕ
  links = word (block_word me b 3) ++ word (block_word me b 4)

  pub code_over : l.commands < m + block_word me b 2 → Staged (block_of l m n 1) (block_tail me b 1) l.nodes l.commands 9 n m at (Err OverLimit)
  unfolding block_of block_tail
  code_over h =
      let u = s.low in
      stopped (λ t. rw (append_assoc, read_word wide (block_word me b 2) ((commands ++ links) ++ t) (omega arith) (omega arith), lt-leb (m + block_word me b 2) l.commands h))

  module _ (room : m + block_word me b 2 ≤ l.commands) where
    counted_read : (t : List ℕ) → block_of l m n 1 (block_tail me b 1 ++ t) ≡ read_code l n (block_word me b 2) (commands ++ (links ++ t))
    unfolding block_of block_tail
    counted_read t =
        let u = s.low in
        rw (append_assoc, read_word wide (block_word me b 2) ((commands ++ links) ++ t) (omega arith) (omega arith), le-leb (m + block_word me b 2) l.commands room, append_assoc)

    module _ {q : Step} (P : Told (read_commands l (block_word me b 2) n) commands_nodes commands l.nodes (4 * block_word me b 2) n (at + len) q) where
      pub code_no : {e : Refusal} → q ≡ Err e → Staged (block_of l m n 1) (block_tail me b 1) l.nodes l.commands 9 n m at (Err e)
      unfolding read_code
      code_no eq = stopped (λ t. counted_read t ∙ rw (no_of P eq (links ++ t)))

      module _ {k p : ℕ} (eq : q ≡ Ok (k, p)) {r : Step} (Q : Told (read_links l.blocks) uncounted links k 6 k p r) where
        A : Good (read_commands l (block_word me b 2) n) commands_nodes commands l.nodes (4 * block_word me b 2) n (at + len) k p
        A = good_of P eq

        code_read : (t : List ℕ) → block_of l m n 1 (block_tail me b 1 ++ t) ≡ onward (read_links l.blocks (links ++ t)) (λ p u. got (code A.value p.0 p.1) u)
        unfolding read_code
        code_read t = counted_read t ∙ rw (A.reads (links ++ t)) (links_join l.blocks A.value (links ++ t))

        pub code_link_no : {e : Refusal} → r ≡ Err e → Staged (block_of l m n 1) (block_tail me b 1) l.nodes l.commands 9 n m at (Err e)
        code_link_no er = stopped (λ t. code_read t ∙ rw (no_of Q er t))

        pub code_told : {k' to : ℕ} → r ≡ Ok (k', to) → Staged (block_of l m n 1) (block_tail me b 1) l.nodes l.commands 9 n m at (Ok (k', m + block_word me b 2, to))
        unfolding block_nodes block_commands block_tail
        code_told er =
            let B = good_of Q er in
            let all : length A.value ≡ block_word me b 2 = (said_commands l (block_word me b 2) n (commands ++ []) A.value [] (A.reads [])).fits.0 in
            let i = s.is in
            let y = s.short in
            let o = A.low in
            passed (record {
              value = code A.value B.value.0 B.value.1;
              reads = λ t. code_read t ∙ rw (B.reads t);
              counted = omega (arith, A.counted, B.counted);
              held = omega arith;
              low = omega (arith, B.counted);
              room = room;
              bytes = omega (arith, A.bytes, B.bytes, length-append (word (block_word me b 2)) (commands ++ links), length-append commands links);
              short = omega (arith, A.short, B.short);
            })

-- ---- the whole block, by its kind

module _ (l : Limits) (me : Memory) (b n m at : ℕ) where
  abbrev bytes : List ℕ
  bytes = word (block_word me b 0) ++ block_tail me b (block_word me b 0)

  pub block_unknown : 3 ≤ get_or me.words (5 * b) 0 → Staged (read_block l m n) bytes l.nodes l.commands 10 n m at (Err BadImage)
  unfolding read_block
  block_unknown g =
      let h : 3 ≤ block_word me b 0 = rw (first_word me.words (5 * b)) g in
      stopped (λ t. rw (append_assoc, read_over 3 (block_word me b 0) (block_tail me b (block_word me b 0) ++ t) h))

  -- the kind is read
  kind_read : block_word me b 0 < 3 → (t : List ℕ) → read_block l m n (bytes ++ t) ≡ block_of l m n (block_word me b 0) (block_tail me b (block_word me b 0) ++ t)
  unfolding read_block
  kind_read h t = rw (append_assoc, read_word 3 (block_word me b 0) (block_tail me b (block_word me b 0) ++ t) h (omega arith))

  kind_long : block_word me b 0 < 3 → length bytes ≡ 1 + length (block_tail me b (block_word me b 0))
  kind_long h = omega (arith, length-append (word (block_word me b 0)) (block_tail me b (block_word me b 0)), word_1 (block_word me b 0) (omega arith))

  bare : (k : ℕ) (x : Block) → block_word me b 0 ≡ k → k < 3 → block_tail me b k ≡ [] → ((t : List ℕ) → block_of l m n k t ≡ got x t) → block_nodes x ≡ 0 → block_commands x ≡ 0 → n ≤ l.nodes → m ≤ l.commands
      → Staged (read_block l m n) bytes l.nodes l.commands 10 n m at (Ok (n, m, at + 1))
  bare k x e h z g zn zc few room =
      let v : length (block_tail me b (block_word me b 0)) ≡ 0 = rw (e, z) in
      let lt : block_word me b 0 < 3 = omega arith in
      passed (record {
        value = x;
        reads = λ t. kind_read lt t ∙ rw (e, z) (g t);
        counted = omega arith;
        held = omega arith;
        low = few;
        room = room;
        bytes = omega (arith, kind_long lt);
        short = omega arith;
      })

  pub block_placeholder : get_or me.words (5 * b) 0 ≡ 0 → n ≤ l.nodes → m ≤ l.commands → Staged (read_block l m n) bytes l.nodes l.commands 10 n m at (Ok (n, m, at + 1))
  unfolding block_of block_tail block_nodes block_commands
  block_placeholder e few room = bare 0 placeholder (first_word me.words (5 * b) ∙ e) (omega arith) refl (λ t. refl) refl refl few room

  pub block_data : get_or me.words (5 * b) 0 ≡ 2 → n ≤ l.nodes → m ≤ l.commands → Staged (read_block l m n) bytes l.nodes l.commands 10 n m at (Ok (n, m, at + 1))
  unfolding block_of block_tail block_nodes block_commands
  block_data e few room = bare 2 data_block (first_word me.words (5 * b) ∙ e) (omega arith) refl (λ t. refl) refl refl few room

  pub block_code : {r : Stage} → get_or me.words (5 * b) 0 ≡ 1 → Staged (block_of l m n 1) (block_tail me b 1) l.nodes l.commands 9 n m (at + 1) r → Staged (read_block l m n) bytes l.nodes l.commands 10 n m at r
  unfolding Shows
  block_code {r} g p = record { shows = go r p.shows }
    where
      e : block_word me b 0 ≡ 1
      e = first_word me.words (5 * b) ∙ g

      lt : block_word me b 0 < 3
      lt = omega (arith, e)

      v : length bytes ≡ 1 + length (block_tail me b 1)
      v = kind_long lt ∙ rw e

      go : (r : Stage) → Shows (block_of l m n 1) (block_tail me b 1) l.nodes l.commands 9 n m (at + 1) r → Shows (read_block l m n) bytes l.nodes l.commands 10 n m at r
      go (Ok (n', m', to)) q =
          let y = q.bytes in
          let z = q.short in
          let w = v in
          record {
            value = q.value;
            reads = λ t. kind_read lt t ∙ rw e (q.reads t);
            counted = q.counted;
            held = q.held;
            low = q.low;
            room = q.room;
            bytes = omega arith;
            short = omega arith;
          }
      go (Err k) q = λ t. kind_read lt t ∙ rw e (q t)
