-- A record that an image was read into is judged, and has the blocks that the image says. Assumes nothing.
use Rattle.std.specs.Prelude.{◌≡◌, ℕ}
use Rattle.std.proofs.Math.Path.{ap}
use Rattle.std.proofs.Common.{◌∙◌, arith}
use mathlib.Core.List.{List, [], ◌++◌}
use Rattle.model.specs.Limits.{command_limit, node_limit}
use Rattle.model.specs.Script.{Block}
use Rattle.model.specs.Reading.{got}
use Rattle.model.specs.Image.{read_image}
use Rattle.model.specs.Judge.{script_refusal}
use Rattle.model.specs.Memory.{Memory, script_of, blocks_in, put_blocks}
use Rattle.model.specs.Record.{judged_record}
use Rattle.model.proofs.Laws.Image.{image_fits}
use Rattle.model.proofs.Laws.Sound.{fits_held}
use Rattle.model.proofs.Laws.Judged.{held_accepted}
use Rattle.memory.specs.Sound.{Sound, Long, Room}
use Rattle.memory.specs.RecordLaws.{judged_sound}
use Rattle.memory.specs.PutBlocks.{put_sound}
use Rattle.memory.specs.Transfer.{accepted_record}

-- a record with nothing in it, as an image is read into
pub record Empty (m : Memory) : Type 0 where
  pub blocks : m.count ≡ 0
  pub commands : m.coded.count ≡ 0
  pub nodes : m.coded.nodes.count ≡ 0

module _ (m : Memory) (e : Empty m) (long : Long m) (s : List ℕ) (bs : List Block) (r : List ℕ) (p : read_image s ≡ got bs r) where
  none_in : (script_of m).blocks ≡ []
  unfolding script_of blocks_in
  none_in = ap (λ (n : ℕ). blocks_in m n 0) e.blocks

  sound : Sound m
  sound = record { block = λ b l. absurd (omega (arith, l, e.blocks)) }

  -- what was read is judged, and has the blocks that the image says
  pub read_judged : judged_record (put_blocks m bs) ≡ got bs []
  unfolding script_of
  read_judged =
      let k = fits_held command_limit node_limit bs (image_fits s bs r p) in
      let room : Room m bs = record { blocks = omega (arith, k.few, e.blocks); commands = omega (arith, k.commands, e.commands); nodes = omega (arith, k.nodes, e.nodes) } in
      let t = put_sound m bs sound long room in
      let same : (script_of (put_blocks m bs)).blocks ≡ bs = t.blocks_are ∙ ap (λ (xs : List Block). xs ++ bs) none_in in
      let ok : script_refusal (script_of (put_blocks m bs)) ≡ 0 = held_accepted (script_of (put_blocks m bs))
      (record { blocks = rw same k.few; commands = omega (arith, k.commands, t.commands_counted, e.commands); nodes = omega (arith, k.nodes, t.nodes_counted, e.nodes) })
      (record { few = rw same k.few; sound = rw same k.sound; commands = rw same (omega (arith, t.commands_counted)); nodes = rw same (omega (arith, t.nodes_counted)) }) in
      accepted_record (put_blocks m bs) t.sound ok ∙ ap (λ (xs : List Block). got xs []) same

  pub read_blocks_lem : (script_of (put_blocks m bs)).blocks ≡ bs
  read_blocks_lem = (judged_sound (put_blocks m bs) bs [] read_judged).blocks_are
