-- Freed places: after an accepted reclaim the kept counts are what the survivors hold, so that check 9 counts from there (02, A.4). Assumes nothing.
use Rattle.std.specs.Prelude.{◌≡◌, Bool, true, List, ℕ}
use Rattle.std.proofs.Math.Path.{sym, ap}
use Rattle.std.proofs.Common.{◌∙◌, arith, le-leb}
use Rattle.std.proofs.Math.ListN.{length}
use Rattle.model.specs.Script.{Block, Script, block_commands, block_nodes, sum_of}
use Rattle.model.specs.Image.{Limits}
use Rattle.model.specs.Judge.{counted, script_refusal}
use Rattle.model.specs.Memory.{script_of}
use Rattle.model.specs.Compile.{has_room}
use Rattle.model.specs.RecordCalls.{Born}
use Rattle.model.proofs.Laws.Judged.{Room, room_low}
use Rattle.memory.specs.Sound.{Long}
use Rattle.memory.specs.Transfer.{accepted_script, blocks_counted}
use Rattle.reclaim_model.specs.Rename.{rename_block}
use Rattle.reclaim_model.specs.Reclaim.{kept_blocks, rank, survivors}
use Rattle.reclaim_model.specs.Changes.{kept_only}
use Rattle.reclaim_model.proofs.Laws.Reached.{reached_long}
use Rattle.reclaim_model.proofs.Laws.Survivors.{rank_most}
use Rattle.reclaim_model.proofs.Laws.Reclaimed.{commands_same, length_kept, nodes_renamed, reclaim_held, reclaim_judged, sum_map}
use Rattle.reclaim_record.specs.Calls.{reclaim_refusal_in, lives_in, kept_only_in, reclaimed_in}
use Rattle.reclaim_record.proofs.Stands.{born_script, fresh_put}
use Rattle.reclaim_record.proofs.Checks.{was_judged}

-- the kept counts after a reclaim
pub record RoomAgain (k : Born) (rs : List ℕ) : Type 0 where
  -- as many blocks as survive, and of commands and nodes what those hold
  pub blocks : (reclaimed_in k rs).memory.count ≡ rank (lives_in k rs) (length (lives_in k rs))
  pub commands : (reclaimed_in k rs).memory.coded.count ≡ sum_of block_commands (survivors (lives_in k rs) (script_of k.memory).blocks)
  pub nodes : (reclaimed_in k rs).memory.coded.nodes.count ≡ sum_of block_nodes (survivors (lives_in k rs) (script_of k.memory).blocks)
  -- which is what 9 and 19 of the next compile count from
  pub counts : script_of (reclaimed_in k rs).memory ≡ counted (kept_blocks (lives_in k rs) (script_of k.memory).blocks)
  -- none is above what it was, so what had room under any limits has room
  pub room : (l : Limits) (xs : List Block) → has_room l (script_of k.memory) xs ≡ true → has_room l (script_of (reclaimed_in k rs).memory) xs ≡ true

low_room : (l : Limits) (sc : Script) (xs : List Block) → Room l sc xs → has_room l sc xs ≡ true
unfolding has_room
low_room l sc xs r = rw (le-leb _ _ r.blocks, le-leb _ _ r.commands, le-leb _ _ r.nodes)

module _ (k : Born) (rs : List ℕ) (g : Long k.memory) (e : reclaim_refusal_in k rs ≡ 0) where
  abbrev ms : List Bool
  ms = lives_in k rs

  abbrev old : List Block
  old = (script_of k.memory).blocks

  ok : script_refusal (script_of k.memory) ≡ 0
  ok = let a = was_judged k rs e in accepted_script k.memory a.value a.rest a.was

  left : script_of (reclaimed_in k rs).memory ≡ counted (kept_blocks (lives_in k rs) (script_of k.memory).blocks)
  unfolding reclaimed_in kept_only_in
  left = rw e (fresh_put k.memory (kept_blocks ms old) g (unfold kept_only in reclaim_judged (born_script k) rs ok)).is

  long : length (kept_blocks (lives_in k rs) (script_of k.memory).blocks) ≡ rank (lives_in k rs) (length (lives_in k rs))
  long = unfold kept_only in length_kept (born_script k) rs ok

  commands_left : sum_of block_commands (kept_blocks (lives_in k rs) (script_of k.memory).blocks) ≡ sum_of block_commands (survivors (lives_in k rs) (script_of k.memory).blocks)
  unfolding kept_blocks
  commands_left = sum_map block_commands (rename_block (rank ms)) (commands_same (rank ms)) (survivors ms old)

  nodes_left_lem : sum_of block_nodes (kept_blocks (lives_in k rs) (script_of k.memory).blocks) ≡ sum_of block_nodes (survivors (lives_in k rs) (script_of k.memory).blocks)
  unfolding kept_blocks
  nodes_left_lem = sum_map block_nodes (rename_block (rank ms)) (nodes_renamed (rank ms)) (survivors ms old)

  pub room_again : RoomAgain k rs
  unfolding script_of
  room_again =
      let t = (reclaimed_in k rs).memory in
      record {
        blocks = sym (blocks_counted t) ∙ ap (λ (s : Script). length s.blocks) left ∙ long;
        commands = ap (λ (s : Script). s.commands) left ∙ commands_left;
        nodes = ap (λ (s : Script). s.nodes) left ∙ nodes_left_lem;
        counts = left;
        room = λ l xs p.
            let d = reclaim_held (born_script k) rs ok in
            let r = room_low l (script_of k.memory) xs p in
            rw left (low_room l (counted (kept_blocks ms old)) xs
            (record {
              blocks = omega (arith, long, rank_most ms (length ms), reached_long old rs, r.blocks);
              commands = omega (arith, d.commands, r.commands);
              nodes = omega (arith, d.nodes, r.nodes);
            }));
      }
