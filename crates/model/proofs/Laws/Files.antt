-- Both round trips in the terms of the calls: what was read and written again, what was written and read again. Assumes nothing.
use Rattle.std.specs.Prelude.{◌≡◌, refl, List, [], ℕ}
use Rattle.std.proofs.Common.{arith}
use Rattle.model.specs.Limits.{command_limit, node_limit}
use Rattle.model.specs.Script.{Block, Script}
use Rattle.model.specs.Reading.{Answer, got, refusal_of, refused}
use Rattle.model.specs.Image.{image, read_image, read_within}
use Rattle.model.specs.Judge.{script_refusal}
use Rattle.model.specs.Parse.{value}
use Rattle.model.specs.Files.{got_of, read_call}
use Rattle.model.proofs.Laws.Image.{same_blocks, same_bytes}
use Rattle.model.proofs.Laws.Judged.{accepted_held}
use Rattle.model.proofs.Laws.Refused.{Accepts, accepts, proper_within}
use Rattle.model.proofs.Laws.Sound.{held_fits}

-- an accepted image, read and written again, is the same bytes
pub read_then_write : (s : List ℕ) → (read_call s).answer ≡ 0 → image (read_call s).script.blocks ≡ s
unfolding read_call read_image
read_then_write s e = by (accepts (read_within command_limit node_limit s) (proper_within command_limit node_limit s) (answered (read_within command_limit node_limit s) e))
  where
    answered : (a : Answer (List Block)) → (got_of a).answer ≡ 0 → refusal_of a ≡ 0
    answered (got bs r) e = refl
    answered (refused n) e = e

    by : Accepts (read_within command_limit node_limit s) → image (got_of (read_within command_limit node_limit s)).script.blocks ≡ s
    by a = rw a.was (same_bytes s a.value a.rest a.was)

-- a judged script, written and read again, has the same blocks
pub write_then_read : (sc : Script) → script_refusal sc ≡ 0 → read_image (image sc.blocks) ≡ got sc.blocks []
write_then_read sc e =
    let h = accepted_held sc e in
    let c = h.0 in
    let k = h.1 in
    same_blocks sc.blocks (held_fits command_limit node_limit sc.blocks
    (record { few = k.few; sound = k.sound; commands = omega (arith, k.commands, c.commands); nodes = omega (arith, k.nodes, c.nodes) }))
