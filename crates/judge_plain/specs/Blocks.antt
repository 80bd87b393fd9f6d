-- Blocks whose nodes and commands have room are read fine. Assumes nothing.
use Rattle.std.specs.Prelude.{◌≡◌, refl, List, ◌++◌, ℕ, ◌+◌, ◌*◌, ◌≤◌, ℤ, length, get_or, Ok}
use Rattle.std.proofs.Common.{arith}
use Rattle.memory.specs.declared.Counts.{Counts}
use Rattle.model.specs.Reading.{Answer, word}
use Rattle.model.specs.Script.{Block, commands_nodes}
use Rattle.model.specs.Image.{read_link, read_commands, block_of}
use Rattle.model.specs.Record.{commands_image_in, block_tail}
use Rattle.memory.specs.View.{coded_of, memory_of}
use Rattle.judge_terms.specs.Told.{Told, limits_by}
use Rattle.image_numbers.specs.Lengths.{short_word}
use Rattle.judge_record.specs.Stages.{KeptBy, uncounted, read_links, Staged}
use Rattle.judge_record.specs.Links.{link_there}
use Rattle.judge_record.specs.Blocks.{links_told, code_told, block_placeholder, block_data, block_code}
use Rattle.judge_plain.specs.Chain.{Chain, chain_more}
use Rattle.judge_plain.specs.Counted.{Stands, CommandsCount, CodeCount, Held, BlockCount, Follows, Within, Apart}

-- the nodes and commands that a stage says are those counted before, and r and h more
stands : {f : List ℕ → Answer Block} {w : List ℕ} {l c x n m at n' m' to r h : ℕ} → Staged f w l c x n m at (Ok (n', m', to)) → n' ≡ n + r → m' ≡ m + h → Stands f w l c x n m at r h
stands {to = to} p e g = record { to = to; staged = rw (e, g) at p }

module _ (t cw bw : List ℕ) (k : Counts) (K : KeptBy k) (i : ℕ) where
  -- ---- a code block

  link_told : (x n at : ℕ) → x ≤ k.blocks → Told (read_link k.blocks) uncounted (word x) n 3 n at (Ok (n, at + length (word x)))
  link_told x n at le =
      let lb = K.blocks in
      link_there x k.blocks n at (length (word x)) (short_word x (length (word x)) (omega arith) refl) le

  links_fine : (x y n at : ℕ) → x ≤ k.blocks → y ≤ k.blocks → Told (read_links k.blocks) uncounted (word x ++ word y) n 6 n at (Ok (n, (at + length (word x)) + length (word y)))
  links_fine x y n at next else = links_told k.blocks x y n at (link_told x n at next) refl (link_told y n (at + length (word x)) else)

  module _ (held : get_or bw (5 * i + 2) 0 ≤ k.commands) (next : get_or bw (5 * i + 3) 0 ≤ k.blocks) (else : get_or bw (5 * i + 4) 0 ≤ k.blocks) where
    code_read : (ws : List ℕ) (vs : List ℤ) (n m at r to : ℕ) → m + get_or bw (5 * i + 2) 0 ≤ k.commands
        → Told (read_commands (limits_by k) (get_or bw (5 * i + 2) 0) n) commands_nodes (commands_image_in (coded_of ws vs cw k) (get_or bw (5 * i + 2) 0) (get_or bw (5 * i + 1) 0)) k.nodes (4 * get_or bw (5 * i + 2) 0) n (at + length (word (get_or bw (5 * i + 2) 0))) (Ok (n + r, to))
        → Stands (block_of (limits_by k) m n 1) (block_tail (memory_of ws vs cw bw k) i 1) k.nodes k.commands 9 n m at r (get_or bw (5 * i + 2) 0)
    code_read ws vs n m at r to more P =
        let kc = K.commands in
        stands (code_told (limits_by k) (memory_of ws vs cw bw k) i n m at _ (short_word (get_or bw (5 * i + 2) 0) _ (omega arith) refl) more P refl (links_fine (get_or bw (5 * i + 3) 0) (get_or bw (5 * i + 4) 0) (n + r) to next else) refl) refl refl

    code_fine : {r : ℕ} → CommandsCount t cw k (get_or bw (5 * i + 1) 0) (get_or bw (5 * i + 2) 0) r → CodeCount t cw bw k i r
    code_fine {r} C =
        let kc = K.commands in
        record {
          reads = λ ws vs T n m at room more.
              let P = C.reads ws vs T n (at + length (word (get_or bw (5 * i + 2) 0))) room in
              code_read ws vs n m at r P.to more P.told;
        }

  pub code_count : {f h r : ℕ} → CommandsCount t cw k f h r → f ≡ get_or bw (5 * i + 1) 0 → h ≡ get_or bw (5 * i + 2) 0 → h ≤ k.commands → get_or bw (5 * i + 3) 0 ≤ k.blocks → get_or bw (5 * i + 4) 0 ≤ k.blocks → CodeCount t cw bw k i r
  code_count C ef eh fit next else = code_fine (omega arith) next else (rw (ef, eh) at C)

  -- ---- a block, by its kind

  pub count_placeholder : get_or bw (5 * i) 0 ≡ 0 → BlockCount t cw bw k i 0
  count_placeholder e = record {
    reads = λ ws vs T n m h at H room more.
        let z : h ≡ 0 = H.none (λ o. omega arith) in
        stands (block_placeholder (limits_by k) (memory_of ws vs cw bw k) i n m at e (omega arith) (omega arith)) (omega arith) (omega arith);
  }

  pub count_data : get_or bw (5 * i) 0 ≡ 2 → BlockCount t cw bw k i 0
  count_data e = record {
    reads = λ ws vs T n m h at H room more.
        let z : h ≡ 0 = H.none (λ o. omega arith) in
        stands (block_data (limits_by k) (memory_of ws vs cw bw k) i n m at e (omega arith) (omega arith)) (omega arith) (omega arith);
  }

  pub count_code : {r : ℕ} → get_or bw (5 * i) 0 ≡ 1 → CodeCount t cw bw k i r → BlockCount t cw bw k i r
  count_code e C = record {
    reads = λ ws vs T n m h at H room more.
        let z : h ≡ get_or bw (5 * i + 2) 0 = H.code e in
        let S = C.reads ws vs T n m (at + 1) room (omega arith) in
        stands (block_code (limits_by k) (memory_of ws vs cw bw k) i n m at e S.staged) refl (omega arith);
  }

-- ---- the commands that a block holds

pub held_code : (bw : List ℕ) (i h : ℕ) → get_or bw (5 * i) 0 ≡ 1 → h ≡ get_or bw (5 * i + 2) 0 → Held bw i h
held_code bw i h e eh = record { code = λ o. eh; none = λ n. absurd (n e) }

pub held_none : (bw : List ℕ) (i : ℕ) → (get_or bw (5 * i) 0 ≡ 1 → ⊥) → Held bw i 0
held_none bw i n = record { code = λ o. absurd (n o); none = λ m. refl }

-- ---- where the commands of all blocks end

module _ (bw : List ℕ) (k : Counts) {i e : ℕ} (A : Chain (Within bw k) i e) where
  pub apart_more : {e' : ℕ} → (e' ≤ k.commands → Follows bw k i e e') → e' ≤ k.commands → Chain (Within bw k) (i + 1) e'
  apart_more F le = chain_more A (record { follows = F le; kept = le })

  pub apart_done : i ≡ k.blocks → Apart bw k
  apart_done q = record { end = e; ends = rw q at A }
