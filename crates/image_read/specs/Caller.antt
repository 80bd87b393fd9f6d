-- What a caller learns of a script that was read: its blocks, its kept counts and that they are within the limits. Assumes nothing.
use Rattle.std.proofs.Math.Path.{◌≡◌, ap}
use Rattle.std.specs.Prelude.{refl, Ok, Err, List, ℕ, ◌+◌, ℤ}
use Rattle.std.proofs.Common.{◌∙◌}
use native.Mathlib.Omega.{arith}
use Rattle.std.proofs.Math.ListN.{length}
use Rattle.model.specs.Reading.{Answer, got, refused}
use Rattle.model.specs.Script.{Block, block_nodes, block_commands, sum_of}
use Rattle.model.specs.Memory.{Memory, memory_in, put_blocks}
use Rattle.memory.specs.View.{memory_of}
use Rattle.memory.specs.declared.Counts.{Counts}
use Rattle.image_read.specs.Counts.{nodes_blocks, held_blocks, count_blocks}
use Rattle.image_read.specs.Outcome.{cleared, read_into, outcome}
use Rattle.model.specs.Refusals.{refusal_number}
use Rattle.model.specs.declared.Refusal.{Refusal}

-- ---- the promise taken apart

-- the kept counts are what the blocks hold
pub record Accepted (ws : List ℕ) (vs : List ℤ) (cw bw : List ℕ) (a : Answer (List Block)) (k : Counts) (t : Memory) : Type 0 where
  pub blocks : List Block
  pub rest : List ℕ
  pub read : a ≡ got blocks rest
  pub after : t ≡ put_blocks (memory_in ws vs cw bw 0 0 0) blocks
  pub nodes_held : k.nodes ≡ sum_of block_nodes blocks
  pub commands_held : k.commands ≡ sum_of block_commands blocks
  pub blocks_held : k.blocks ≡ length blocks

module _ (ws : List ℕ) (vs : List ℤ) (cw bw : List ℕ) (ws' : List ℕ) (vs' : List ℤ) (cw' bw' : List ℕ) where
  pub was_accepted : (a : Answer (List Block)) (k : Counts) → outcome (Ok k) ws' vs' cw' bw' ≡ read_into (memory_in ws vs cw bw 0 0 0) a → Accepted ws vs cw bw a k (memory_of ws' vs' cw' bw' k)
  unfolding outcome read_into
  was_accepted (got bs r) k p =
      let e : memory_of ws' vs' cw' bw' k ≡ put_blocks (memory_in ws vs cw bw 0 0 0) bs = cc in
      let n : k.nodes ≡ 0 + sum_of block_nodes bs = ap (λ (m : Memory). m.coded.nodes.count) e ∙ nodes_blocks (memory_in ws vs cw bw 0 0 0) bs in
      let c : k.commands ≡ 0 + sum_of block_commands bs = ap (λ (m : Memory). m.coded.count) e ∙ held_blocks (memory_in ws vs cw bw 0 0 0) bs in
      let b : k.blocks ≡ 0 + length bs = ap (λ (m : Memory). m.count) e ∙ count_blocks (memory_in ws vs cw bw 0 0 0) bs in
      record { blocks = bs; rest = r; read = refl; after = e; nodes_held = omega arith; commands_held = omega arith; blocks_held = omega arith }
  was_accepted (refused e) k p = let z : ◌≡◌ {A = ℕ} 0 1 = cc in absurd (omega arith)

  pub was_refused : (a : Answer (List Block)) (e : Refusal) → outcome (Err e) ws' vs' cw' bw' ≡ read_into (memory_in ws vs cw bw 0 0 0) a → (a ≡ refused (refusal_number e)) × (memory_in ws' vs' cw' bw' 0 0 0 ≡ cleared)
  unfolding outcome read_into
  was_refused (got bs r) e p = let z : ◌≡◌ {A = ℕ} 0 1 = cc in absurd (omega arith)
  was_refused (refused j) e p = let same : j ≡ refusal_number e = cc in (ap refused same, cc)
