-- The image of a block by its kind, and of the whole record. Assumes nothing.
use Rattle.std.specs.Prelude.{◌≡◌, [], ◌++◌, get_or}
use Rattle.std.proofs.Math.Path.{refl}
use Prim.Native.Nat.{ℕ, zero, suc, ◌*◌}
use Rattle.model.specs.Reading.{word}
use Rattle.model.specs.Memory.{Memory, block_word}
use Rattle.model.specs.Record.{commands_image_in, block_tail, blocks_image_in, record_image}
use Rattle.judge_record.specs.Stages.{block_image_in}
use Rattle.memory.specs.NodeLaws.{first_word}

module _ (m : Memory) where
  module _ (b : ℕ) where
    pub block_image_lem : block_image_in m b ≡ word (get_or m.words (5 * b) 0) ++ block_tail m b (get_or m.words (5 * b) 0)
    block_image_lem = rw (first_word m.words (5 * b))

    pub code_image : block_tail m b 1 ≡ word (block_word m b 2) ++ (commands_image_in m.coded (block_word m b 2) (block_word m b 1) ++ (word (block_word m b 3) ++ word (block_word m b 4)))
    unfolding block_tail
    code_image = refl

    -- nothing follows the other kinds
    pub bare_image : (k : ℕ) → (k ≡ 1 → ⊥) → block_tail m b k ≡ []
    unfolding block_tail
    bare_image zero h = refl
    bare_image (suc zero) h = absurd (h refl)
    bare_image (suc (suc k)) h = refl

  pub record_image_lem : record_image m ≡ word m.count ++ blocks_image_in m m.count 0
  unfolding record_image
  record_image_lem = refl
