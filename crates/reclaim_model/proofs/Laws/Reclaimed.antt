-- A reclaim leaves the survivors under their new numbers with every link followed, and a script that is accepted. Assumes nothing.
use Rattle.std.specs.Prelude.{◌≡◌, Bool}
use Rattle.std.proofs.Math.Path.{refl, ap, ap₂}
use Rattle.std.proofs.Common.{◌∙◌}
use Rattle.std.proofs.Math.Bool.{true, false}
use Rattle.std.proofs.Math.Option.{Option, none, some}
use mathlib.Core.List.{List, [], ◌∷◌, map}
use Prim.Native.Nat.{ℕ, zero, suc, ◌+◌, ◌<◌}
use native.Mathlib.Omega.{arith}
use Rattle.std.proofs.Math.ListN.{get_or, length, length-map, get_or-map}
use Rattle.model.specs.Refusal.{bad_roots, check}
use Rattle.model.specs.Script.{Command, return, goto, set_variable, set_other, if_else, end_if, other_command, Block, placeholder, code, data_block, block_at, command_nodes, commands_nodes, block_nodes, block_commands, sum_of}
use Rattle.model.specs.Judge.{counted, script_refusal}
use Rattle.model.proofs.Laws.Checks.{first_passed, passed}
use Rattle.model.proofs.Laws.Image.{FitsLink}
use Rattle.model.proofs.Laws.Sound.{SoundCommand, SoundCommands, SoundBlock, SoundBlocks, Held}
use Rattle.model.proofs.Laws.Judged.{accepted_held, held_accepted}
use Rattle.reclaim_model.specs.Rename.{target, with_link, targets, links_of, Every, rename_link, rename_command, rename_block, IsLink}
use Rattle.reclaim_model.specs.Reclaim.{roots_ok, survivors, rank, kept_blocks}
use Rattle.reclaim_model.specs.Changes.{BornScript, lives, kept_only, reclaim_refusal, reclaimed}
use Rattle.reclaim_model.proofs.Laws.RenamedRun.{Renamed, has_link, drop_link}
use Rattle.reclaim_model.proofs.Laws.RenamedParse.{Numbered}
use Rattle.reclaim_model.proofs.Laws.Reached.{mark_on, mark_in, reached_long, reached_closed}
use Rattle.reclaim_model.proofs.Laws.Survivors.{length_left, rank_most, rank_in, rank_apart, left_at, sum_left}

-- ---- the links of a sound block are below the number

pub every_both : (P Q R : ℕ → Type 0) → ((k : ℕ) → P k → Q k → R k) → (ks : List ℕ) → Every P ks → Every Q ks → Every R ks
every_both P Q R h [] a b = tt
every_both P Q R h (k ∷ ks) a b = (h k a.0 b.0, every_both P Q R h ks a.1 b.1)

module _ (n : ℕ) where
  link_below : (o : Option ℕ) (ks : List ℕ) → FitsLink n o → Every (λ k. k < n) ks → Every (λ k. k < n) (with_link o ks)
  unfolding FitsLink
  link_below none ks p a = a
  link_below (some k) ks p a = (p, a)

  target_below : (c : Command) → SoundCommand n c → FitsLink n (target c)
  unfolding SoundCommand FitsLink
  target_below return p = tt
  target_below (goto k) p = p
  target_below (set_variable t e) p = tt
  target_below (set_other e) p = tt
  target_below (if_else e k) p = p.1
  target_below (end_if k) p = p
  target_below other_command p = tt

  targets_below : (cs : List Command) → SoundCommands n cs → Every (λ k. k < n) (targets cs)
  unfolding SoundCommands targets
  targets_below [] p = tt
  targets_below (c ∷ cs) p = link_below (target c) (targets cs) (target_below c p.0) (targets_below cs p.1)

  pub links_below : (x : Block) → SoundBlock n x → Every (λ k. k < n) (links_of x)
  unfolding SoundBlock links_of
  links_below placeholder p = tt
  links_below (code cs nx el) p = link_below nx (with_link el (targets cs)) p.1 (link_below el (targets cs) p.2 (targets_below cs p.0))
  links_below data_block p = tt

  pub sound_at : (bs : List Block) (b : ℕ) → SoundBlocks n bs → SoundBlock n (block_at bs b)
  unfolding SoundBlocks SoundBlock
  sound_at [] b p = tt
  sound_at (x ∷ bs) zero p = p.0
  sound_at (x ∷ bs) (suc b) p = sound_at bs b p.1

-- ---- a renamed block is sound, and holds as much

module _ (f : ℕ → ℕ) (n n' : ℕ) where
  abbrev Low : ℕ → Type 0
  Low k = f k < n'

  link_renamed : (o : Option ℕ) → IsLink Low o → FitsLink n' (rename_link f o)
  unfolding FitsLink
  link_renamed none p = tt
  link_renamed (some k) p = p

  command_renamed : (c : Command) → SoundCommand n c → IsLink Low (target c) → SoundCommand n' (rename_command f c)
  unfolding SoundCommand
  command_renamed return p l = tt
  command_renamed (goto k) p l = l
  command_renamed (set_variable t e) p l = p
  command_renamed (set_other e) p l = p
  command_renamed (if_else e k) p l = (p.0, l)
  command_renamed (end_if k) p l = l
  command_renamed other_command p l = tt

  commands_renamed : (cs : List Command) → SoundCommands n cs → Every Low (targets cs) → SoundCommands n' (map (rename_command f) cs)
  unfolding SoundCommands targets
  commands_renamed [] p a = tt
  commands_renamed (c ∷ cs) p a = (command_renamed c p.0 (has_link Low (target c) (targets cs) a), commands_renamed cs p.1 (drop_link Low (target c) (targets cs) a))

  pub block_renamed : (x : Block) → SoundBlock n x → Every Low (links_of x) → SoundBlock n' (rename_block f x)
  unfolding SoundBlock links_of rename_block
  block_renamed placeholder p a = tt
  block_renamed (code cs nx el) p a =
      let b = drop_link Low nx (with_link el (targets cs)) a in
      (commands_renamed cs p.0 (drop_link Low el (targets cs) b), link_renamed nx (has_link Low nx (with_link el (targets cs)) a), link_renamed el (has_link Low el (targets cs) b))
  block_renamed data_block p a = tt

  pub sound_left : (ms : List Bool) (xs : List Block) → ((b : ℕ) → get_or ms b false ≡ true → Every Low (links_of (block_at xs b))) → SoundBlocks n xs → SoundBlocks n' (map (rename_block f) (survivors ms xs))
  unfolding SoundBlocks survivors
  sound_left [] xs h p = tt
  sound_left (m ∷ ms) [] h p = tt
  sound_left (true ∷ ms) (x ∷ xs) h p = (block_renamed x p.0 (h 0 refl), sound_left ms xs (λ b. h (suc b)) p.1)
  sound_left (false ∷ ms) (x ∷ xs) h p = sound_left ms xs (λ b. h (suc b)) p.1

module _ (f : ℕ → ℕ) where
  nodes_command : (c : Command) → command_nodes (rename_command f c) ≡ command_nodes c
  unfolding command_nodes
  nodes_command return = refl
  nodes_command (goto k) = refl
  nodes_command (set_variable t e) = refl
  nodes_command (set_other e) = refl
  nodes_command (if_else e k) = refl
  nodes_command (end_if k) = refl
  nodes_command other_command = refl

  nodes_commands : (cs : List Command) → commands_nodes (map (rename_command f) cs) ≡ commands_nodes cs
  unfolding commands_nodes
  nodes_commands [] = refl
  nodes_commands (c ∷ cs) = ap₂ ◌+◌ (nodes_command c) (nodes_commands cs)

  pub nodes_renamed : (x : Block) → block_nodes (rename_block f x) ≡ block_nodes x
  unfolding block_nodes rename_block
  nodes_renamed placeholder = refl
  nodes_renamed (code cs nx el) = nodes_commands cs
  nodes_renamed data_block = refl

  pub commands_same : (x : Block) → block_commands (rename_block f x) ≡ block_commands x
  unfolding block_commands rename_block
  commands_same placeholder = refl
  commands_same (code cs nx el) = length-map cs (rename_command f)
  commands_same data_block = refl

pub sum_map : {A : Type 0} (f : A → ℕ) (g : A → A) → ((x : A) → f (g x) ≡ f x) → (xs : List A) → sum_of f (map g xs) ≡ sum_of f xs
sum_map f g h [] = refl
sum_map f g h (x ∷ xs) = ap₂ ◌+◌ (h x) (sum_map f g h xs)

-- ---- an accepted reclaim passed its checks and leaves the survivors

pub record ReclaimPassed (m : BornScript) (rs : List ℕ) : Type 0 where
  pub roots : roots_ok (length m.script.blocks) rs ≡ true
  pub judged : script_refusal m.script ≡ 0

pub reclaim_passed : (m : BornScript) (rs : List ℕ) → reclaim_refusal m rs ≡ 0 → ReclaimPassed m rs
unfolding reclaim_refusal
reclaim_passed m rs e =
    let p = first_passed (check (roots_ok (length m.script.blocks) rs) bad_roots) (script_refusal m.script ∷ []) e in
    record { roots = passed _ 17 p.0; judged = (first_passed (script_refusal m.script) [] p.1).0 }

pub reclaim_done : (m : BornScript) (rs : List ℕ) → reclaim_refusal m rs ≡ 0 → reclaimed m rs ≡ kept_only (lives m rs) m
unfolding reclaimed
reclaim_done m rs e = rw e

-- ---- what a reclaim of an accepted script leaves

module _ (m : BornScript) (rs : List ℕ) (j : script_refusal m.script ≡ 0) where
  abbrev bs : List Block
  bs = m.script.blocks

  abbrev ms : List Bool
  ms = lives m rs

  -- what a survivor links to survives
  pub links_live : (b : ℕ) → get_or (lives m rs) b false ≡ true → Every (λ k. get_or (lives m rs) k false ≡ true) (links_of (block_at m.script.blocks b))
  links_live b e =
      let d = (accepted_held m.script j).1 in
      every_both (λ k. k < length bs) (λ k. get_or ms k true ≡ true) (λ k. get_or ms k false ≡ true)
      (λ k l q. mark_on ms k (omega (arith, reached_long bs rs)) q) (links_of (block_at bs b))
      (links_below (length bs) (block_at bs b) (sound_at (length bs) bs b d.sound)) (reached_closed bs rs b e)

  pub length_kept : length (kept_only (lives m rs) m).script.blocks ≡ rank (lives m rs) (length (lives m rs))
  unfolding kept_only kept_blocks
  length_kept = length-map (survivors ms bs) (rename_block (rank ms)) ∙ length_left ms bs (reached_long bs rs)

  block_kept_lem : (b : ℕ) → get_or ms b false ≡ true → block_at (kept_only ms m).script.blocks (rank ms b) ≡ rename_block (rank ms) (block_at bs b)
  unfolding kept_only kept_blocks rename_block
  block_kept_lem b e = get_or-map (rename_block (rank ms)) (survivors ms bs) (rank ms b) placeholder ∙ ap (rename_block (rank ms)) (left_at ms bs placeholder b (reached_long bs rs) e)

  pub reclaim_renamed : Renamed (λ k. get_or (lives m rs) k false ≡ true) (rank (lives m rs)) m.script.blocks (kept_only (lives m rs) m).script.blocks
  reclaim_renamed = record { links = links_live; same = block_kept_lem }

  pub reclaim_numbered : Numbered (λ k. get_or (lives m rs) k false ≡ true) (rank (lives m rs)) (length m.script.blocks) (length (kept_only (lives m rs) m).script.blocks)
  reclaim_numbered = record {
    inside = λ k e. omega (arith, mark_in ms k e, reached_long bs rs);
    inside' = λ k e. omega (arith, rank_in ms k e, length_kept);
    apart = λ a b p q e. rank_apart ms a b p q e;
  }

  -- what is left holds no more than before
  pub reclaim_held : Held m.script.commands m.script.nodes (kept_blocks (lives m rs) m.script.blocks)
  unfolding kept_blocks
  reclaim_held =
      let d = (accepted_held m.script j).1 in
      let f = rank ms in
      let ys = survivors ms bs in
      let len : length (map (rename_block f) ys) ≡ rank ms (length ms) = length-map ys (rename_block f) ∙ length_left ms bs (reached_long bs rs) in
      let low : (b : ℕ) → get_or ms b false ≡ true → Every (λ k. f k < length (map (rename_block f) ys)) (links_of (block_at bs b)) = λ b e.
      every_both (λ k. get_or ms k false ≡ true) (λ k. get_or ms k false ≡ true) (λ k. f k < length (map (rename_block f) ys)) (λ k p q. omega (arith, rank_in ms k p)) (links_of (block_at bs b)) (links_live b e) (links_live b e) in
      record {
        few = omega (arith, rank_most ms (length ms), reached_long bs rs, d.few);
        sound = sound_left f (length bs) (length (map (rename_block f) ys)) ms bs low d.sound;
        commands = omega (arith, sum_map block_commands (rename_block f) (commands_same f) ys, sum_left block_commands ms bs, d.commands);
        nodes = omega (arith, sum_map block_nodes (rename_block f) (nodes_renamed f) ys, sum_left block_nodes ms bs, d.nodes);
      }

  -- the script that is left passes 2 to 5
  pub reclaim_judged : script_refusal (kept_only (lives m rs) m).script ≡ 0
  unfolding kept_only
  reclaim_judged =
      let c = (accepted_held m.script j).0 in
      let e = reclaim_held in
      held_accepted (counted (kept_blocks ms bs))
      (record { blocks = e.few; commands = omega (arith, e.commands, c.commands); nodes = omega (arith, e.nodes, c.nodes) })
      (record { few = e.few; sound = e.sound; commands = omega arith; nodes = omega arith })
