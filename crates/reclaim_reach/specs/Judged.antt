-- A judged record's words are safe, and the marks of what its roots reach are the definition's on its script. Assumes nothing.
use Rattle.std.specs.Prelude.{◌≡◌, Bool, true, ℕ, ◌+◌, ◌*◌, ◌≤◌, ◌<◌, length, take}
use Rattle.std.proofs.Common.{sym, ◌∙◌, add-zero}
use Rattle.std.proofs.Math.Path.{ap, subst}
use mathlib.Core.List.{List, [], Memᴰ}
use native.Mathlib.Omega.{arith}
use Rattle.std.proofs.Math.Decide.{dec_le}
use Rattle.std.proofs.Math.ListN.{get_or, get_or-eq_default}
use Rattle.model.specs.Limits.{command_limit}
use Rattle.model.specs.Script.{Block, placeholder, block_at}
use Rattle.model.specs.Reading.{got}
use Rattle.model.specs.Memory.{Memory, memory_in, script_of, block_word}
use Rattle.model.specs.Record.{judged_record}
use Rattle.model.proofs.Laws.Judged.{accepted_held}
use Rattle.memory.specs.Sound.{SoundKind}
use Rattle.memory.specs.RecordLaws.{judged_sound}
use Rattle.memory.specs.Transfer.{accepted_script, blocks_counted, judged_kept}
use Rattle.reclaim_model.specs.Rename.{links_of, Every}
use Rattle.reclaim_model.specs.Reclaim.{reached}
use Rattle.reclaim_model.proofs.Laws.Reached.{Leads, root, onward, marks_are, reached_long, reached_root, reached_closed, reached_only}
use Rattle.reclaim_model.proofs.Laws.Reclaimed.{links_below, sound_at}
use Rattle.reclaim_reach.specs.Words.{links_at, Safe}
use Rattle.reclaim_reach.specs.Marks.{blocks_of, Reaching, links_in}

-- the same marks with every expression
module _ (m : Memory) where
  abbrev plain : Memory
  plain = memory_in [] [] m.coded.words m.words 0 0 m.count

  same_links : (b : ℕ) → Dec (m.count ≤ b) → links_of (block_at (script_of m).blocks b) ≡ links_of (block_at (script_of plain).blocks b)
  same_links b (yes d) =
      ap links_of
      (get_or-eq_default (script_of m).blocks placeholder (omega (arith, blocks_counted m)) ∙ sym (get_or-eq_default (script_of plain).blocks placeholder (omega (arith, blocks_counted plain))))
  same_links b (no d) = links_in m b (omega arith) ∙ sym (links_in plain b (omega arith))

  same_leads : (rs : List ℕ) (b : ℕ) → Leads (script_of m).blocks rs b → Leads (script_of plain).blocks rs b
  same_leads rs b (root p) = root p
  same_leads rs b (onward {b = a} q p) = onward (same_leads rs a q) (subst (Memᴰ b) (same_links a (dec_le m.count a)) p)

  same_length : length (script_of m).blocks ≡ length (script_of plain).blocks
  same_length = blocks_counted m ∙ sym (blocks_counted plain)

  reached_of : (rs : List ℕ) → reached (script_of m).blocks rs ≡ reached (blocks_of m.coded.words m.words m.count) rs
  reached_of rs =
      let bs = (script_of m).blocks in
      marks_are (script_of plain).blocks rs (reached bs rs) (reached_long bs rs ∙ same_length) (λ r p l. reached_root bs rs r p (omega (arith, same_length)))
      (λ b e. subst (Every (λ k. get_or (reached bs rs) k true ≡ true)) (same_links b (dec_le m.count b)) (reached_closed bs rs b e))
      (λ b e. same_leads rs b (reached_only bs rs b e))

  -- so the code's marks are those of the definition
  pub marks_reached : (rs : List ℕ) (live : List Bool) → Reaching m.coded.words m.words m.count rs live → take m.count live ≡ reached (script_of m).blocks rs
  marks_reached rs live t = t.is ∙ sym (reached_of rs)

-- ---- the words of a judged record are safe

module _ (m : Memory) (bs : List Block) (r : List ℕ) (judged : judged_record m ≡ got bs r) where
  abbrev blocks : List Block
  blocks = (script_of m).blocks

  links_inside : (b : ℕ) → b < m.count → Every (λ k. k < m.count) (links_at m.coded.words m.words b)
  links_inside b l =
      let d = (accepted_held (script_of m) (accepted_script m bs r judged)).1 in
      subst (λ (n : ℕ). Every (λ k. k < n) (links_at m.coded.words m.words b)) (blocks_counted m)
      (subst (Every (λ k. k < length blocks)) (links_in m b l) (links_below (length blocks) (block_at blocks b) (sound_at (length blocks) blocks b d.sound)))

  held_fits : (b : ℕ) → b < m.count → get_or m.words (5 * b) 0 ≡ 1 → (j : ℕ) → j < get_or m.words (5 * b + 2) 0 → get_or m.words (5 * b + 1) 0 + j < command_limit
  unfolding SoundKind
  held_fits b l e j q =
      let kept = (judged_kept m bs r judged).1 in
      let kind : block_word m b 0 ≡ 1 = ap (λ (n : ℕ). get_or m.words n 0) (add-zero (5 * b)) ∙ e in
      let commands : SoundKind m b 1 = subst (SoundKind m b) kind ((judged_sound m bs r judged).sound.block b l) in
      let last = (commands (get_or m.words (5 * b + 1) 0 + j) (omega arith) (omega arith)).low in
      omega arith

  pub safe : Safe m.coded.words m.words m.count
  safe = record { few = (judged_kept m bs r judged).0; fits = held_fits; inside = links_inside }
