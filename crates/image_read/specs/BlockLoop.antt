-- Blocks, read one after the other: what holds at the head of the loop. Assumes nothing.
use Rattle.std.specs.Prelude.{◌≡◌, refl, Ok, Err, ℤ, length, drop}
use Rattle.std.proofs.Math.Path.{ap}
use Rattle.std.proofs.Common.{sym, ◌∙◌}
use mathlib.Core.List.{List, [], ◌∷◌, ◌++◌, append-nil}
use Prim.Native.Nat.{ℕ, suc, ◌+◌, ◌-◌, ◌≤◌, ◌<◌}
use native.Mathlib.Omega.{arith}
use Rattle.model.specs.Limits.{command_limit, node_limit}
use Rattle.model.specs.Reading.{Answer, got, refused, onward}
use Rattle.model.specs.Script.{Block, block_nodes, block_commands}
use Rattle.model.specs.Image.{Limits, read_block, read_blocks}
use Rattle.model.specs.Memory.{Memory, memory_in, put_block, put_blocks}
use Rattle.image_numbers.specs.Answers.{seen_more, seen_none}
use Rattle.image_read.specs.Counts.{nodes_block, held_block}
use Rattle.image_read.specs.Told.{limits_of, PutBlock, ToldBlock, ToldBlocks}
use Rattle.model.specs.Refusals.{refusal_number}
use Rattle.model.specs.declared.Refusal.{Refusal}

-- some were read, c are left

pub record BlocksPart (s : List ℕ) (me : Memory) (l : Limits) (a : Answer (List Block)) (c m n p : ℕ) (t : Memory) : Type 0 where
  pub seen : List Block
  pub read : a ≡ onward (read_blocks l c m n (drop p s)) (λ ys r. got (seen ++ ys) r)
  pub place : p ≤ length s
  pub after : t ≡ put_blocks me seen
  pub nodes_low : n ≤ node_limit
  pub commands_low : m ≤ command_limit

put_snoc : (s : Memory) (xs : List Block) (x : Block) → put_blocks s (xs ++ x ∷ []) ≡ put_block (put_blocks s xs) x
unfolding put_blocks
put_snoc s [] x = refl
put_snoc s (y ∷ xs) x = put_snoc (put_block s y) xs x

module _ (s : List ℕ) (w : List ℕ) (v : List ℤ) (cw bw : List ℕ) (b at : ℕ) where
  pub blocks_start : at ≤ length s → BlocksPart s (memory_in w v cw bw 0 0 0) (limits_of b) (read_blocks (limits_of b) b 0 0 (drop at s)) (b - 0) 0 0 at (memory_in w v cw bw 0 0 0)
  unfolding put_blocks
  blocks_start h = let e : b - 0 ≡ b = omega arith in
      rw e (record { seen = []; read = seen_none _; place = h; after = refl; nodes_low = omega arith; commands_low = omega arith })

  module _ (i n m p : ℕ) (w₁ : List ℕ) (v₁ : List ℤ) (cw₁ bw₁ : List ℕ) (lt : i < b)
      (P : BlocksPart s (memory_in w v cw bw 0 0 0) (limits_of b) (read_blocks (limits_of b) b 0 0 (drop at s)) (b - i) m n p (memory_in w₁ v₁ cw₁ bw₁ n m i))
      (w₂ : List ℕ) (v₂ : List ℤ) (cw₂ bw₂ : List ℕ) where
    left : read_blocks (limits_of b) (b - i) m n (drop p s) ≡ onward (read_block (limits_of b) m n (drop p s)) (λ x r. onward (read_blocks (limits_of b) (b - (i + 1)) (m + block_commands x) (n + block_nodes x) r) (λ xs u. got (x ∷ xs) u))
    unfolding read_blocks
    left = let q : b - i ≡ suc (b - (i + 1)) = omega arith in
        ap (λ (g : ℕ). read_blocks (limits_of b) g m n (drop p s)) q

    put_next : (n' m' p' : ℕ) → PutBlock s (memory_in w₁ v₁ cw₁ bw₁ n m i) (read_block (limits_of b) m n (drop p s)) p' (memory_in w₂ v₂ cw₂ bw₂ n' m' (i + 1)) → BlocksPart s (memory_in w v cw bw 0 0 0) (limits_of b) (read_blocks (limits_of b) b 0 0 (drop at s)) (b - (i + 1)) m' n' p' (memory_in w₂ v₂ cw₂ bw₂ n' m' (i + 1))
    put_next n' m' p' x =
        let en : n + block_nodes x.tree ≡ n' = sym (ap (λ (y : Memory). y.coded.nodes.count) x.after ∙ nodes_block (memory_in w₁ v₁ cw₁ bw₁ n m i) x.tree) in
        let em : m + block_commands x.tree ≡ m' = sym (ap (λ (y : Memory). y.coded.count) x.after ∙ held_block (memory_in w₁ v₁ cw₁ bw₁ n m i) x.tree) in
        let go : read_blocks (limits_of b) (b - i) m n (drop p s) ≡ onward (read_blocks (limits_of b) (b - (i + 1)) m' n' (drop p' s)) (λ xs u. got (x.tree ∷ xs) u) = left ∙ rw (x.read, en, em) in
        record {
          seen = P.seen ++ x.tree ∷ [];
          read = P.read ∙ ap (λ (y : Answer (List Block)). onward y (λ ys r. got (P.seen ++ ys) r)) go ∙ seen_more (read_blocks (limits_of b) (b - (i + 1)) m' n' (drop p' s)) P.seen x.tree;
          place = x.place;
          after = x.after ∙ ap (λ (y : Memory). put_block y x.tree) P.after ∙ sym (put_snoc (memory_in w v cw bw 0 0 0) P.seen x.tree);
          nodes_low = x.nodes_low;
          commands_low = x.commands_low;
        }

    pub blocks_next : (n' m' p' : ℕ) → ToldBlock s (memory_in w₁ v₁ cw₁ bw₁ n m i) (read_block (limits_of b) m n (drop p s)) (Ok (n', m', p')) w₂ v₂ cw₂ bw₂ (i + 1) → BlocksPart s (memory_in w v cw bw 0 0 0) (limits_of b) (read_blocks (limits_of b) b 0 0 (drop at s)) (b - (i + 1)) m' n' p' (memory_in w₂ v₂ cw₂ bw₂ n' m' (i + 1))
    unfolding ToldBlock
    blocks_next n' m' p' x = put_next n' m' p' x

    pub blocks_no : (e : Refusal) (w₃ : List ℕ) (v₃ : List ℤ) (cw₃ bw₃ : List ℕ) → ToldBlock s (memory_in w₁ v₁ cw₁ bw₁ n m i) (read_block (limits_of b) m n (drop p s)) (Err e) w₂ v₂ cw₂ bw₂ (i + 1) → ToldBlocks s (memory_in w v cw bw 0 0 0) (read_blocks (limits_of b) b 0 0 (drop at s)) (Err e) w₃ v₃ cw₃ bw₃ b
    unfolding ToldBlock ToldBlocks
    blocks_no e w₃ v₃ cw₃ bw₃ x =
        let go : read_blocks (limits_of b) (b - i) m n (drop p s) ≡ refused (refusal_number e) = left ∙ rw x in
        P.read ∙ ap (λ (y : Answer (List Block)). onward y (λ ys r. got (P.seen ++ ys) r)) go

  pub blocks_done : (i n m p : ℕ) (w₁ : List ℕ) (v₁ : List ℤ) (cw₁ bw₁ : List ℕ) → i ≤ b → b ≤ i
      → BlocksPart s (memory_in w v cw bw 0 0 0) (limits_of b) (read_blocks (limits_of b) b 0 0 (drop at s)) (b - i) m n p (memory_in w₁ v₁ cw₁ bw₁ n m i)
      → ToldBlocks s (memory_in w v cw bw 0 0 0) (read_blocks (limits_of b) b 0 0 (drop at s)) (Ok (n, m, p)) w₁ v₁ cw₁ bw₁ b
  unfolding ToldBlocks read_blocks
  blocks_done i n m p w₁ v₁ cw₁ bw₁ h g P =
      let f : b ≡ i = omega arith in
      let z : b - i ≡ 0 = omega arith in
      let go : read_blocks (limits_of b) (b - i) m n (drop p s) ≡ got [] (drop p s) = ap (λ (g : ℕ). read_blocks (limits_of b) g m n (drop p s)) z in
      record {
        trees = P.seen;
        read = P.read ∙ ap (λ (y : Answer (List Block)). onward y (λ ys r. got (P.seen ++ ys) r)) go ∙ rw append-nil;
        place = P.place;
        after = ap (λ (j : ℕ). memory_in w₁ v₁ cw₁ bw₁ n m j) f ∙ P.after;
      }
