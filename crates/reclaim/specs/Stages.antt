-- What the stages of a reclaim leave: marked blocks packed, and the survivors alone (02, A.4). Assumes nothing: these are definitions.
use Rattle.std.specs.Prelude.{◌≡◌, Bool, List, ℕ, ◌*◌, ℤ, length, take}
use Rattle.std.proofs.lemmas.List.Edits.{sets}
use Rattle.model.specs.Limits.{block_limit, command_limit}
use Rattle.model.specs.Memory.{Memory, memory_in, script_of, put_blocks}
use Rattle.memory.specs.View.{memory_of, empty_in}
use Rattle.memory.specs.declared.Counts.{Counts}
use Rattle.reclaim_model.specs.Reclaim.{kept_blocks, moved_words, rank, reached, survivors}
use Rattle.reclaim_record.specs.Packed.{Packed}

pub record Arrays (live : List Bool) (table cw bw : List ℕ) : Type 0 where
  pub marks_long : length live ≡ block_limit
  pub table_long : length table ≡ block_limit
  pub commands_long : length cw ≡ 4 * command_limit
  pub blocks_long : length bw ≡ 5 * block_limit

-- packed for the marks: the words of commands and blocks, whatever the expressions, the birth marks, and what is told
pub record PackedBy (live : List Bool) (k : Counts) (cw bw births cw' bw' births' moved : List ℕ) (total : ℕ) : Type 0 where
  pub words : (ws : List ℕ) (vs : List ℤ) → Packed (rank (take k.blocks live)) (take k.blocks live) (memory_of ws vs cw bw k) (memory_in ws vs cw' bw' k.nodes k.commands total)
  pub marks : births' ≡ sets births 0 (survivors (take k.blocks live) (take k.blocks births))
  pub tells : moved ≡ moved_words (take k.blocks live)

-- the blocks that the roots reach
abbrev pub lives_of : Memory → List ℕ → List Bool
lives_of m rs = reached (script_of m).blocks rs

pub record KeptOnly (ws : List ℕ) (vs : List ℤ) (cw bw : List ℕ) (k : Counts) (births rs : List ℕ) (after : Memory) (births' moved : List ℕ) : Type 0 where
  pub memory : after ≡ put_blocks (empty_in ws vs cw bw) (kept_blocks (lives_of (memory_of ws vs cw bw k) rs) (script_of (memory_of ws vs cw bw k)).blocks)
  pub marks : births' ≡ sets births 0 (survivors (lives_of (memory_of ws vs cw bw k) rs) (take k.blocks births))
  pub tells : moved ≡ moved_words (lives_of (memory_of ws vs cw bw k) rs)
