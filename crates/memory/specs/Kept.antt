-- Kept counts and what the blocks hold: a sound record holds nothing past them, and one that was sound under other counts is sound where it holds nothing past its own. Assumes nothing.
use Rattle.std.specs.Prelude.{◌≡◌, true}
use Rattle.std.proofs.Math.Path.{refl, ap, ap₂}
use mathlib.Core.List.{List, ◌∷◌}
use Prim.Native.Nat.{ℕ, zero, suc, ◌+◌, ◌≤◌, ◌<◌}
use Rattle.std.proofs.Common.{arith}
use Rattle.std.proofs.Math.Dec.{ltb}
use borrow.Author.Tests.{ltb-true, lt-ltb}
use Rattle.model.specs.Expr.{Expr}
use Rattle.model.specs.Script.{Command, Block, set_variable, set_other, if_else, code}
use Rattle.model.specs.Memory.{Nodes, Coded, Memory, left_at, right_at, tree_to, tree, command_word, set_in, command_by, command_in, commands_in, block_word, link_in, block_by, block_in, blocks_in, script_of}
use Rattle.model.specs.Record.{root_kept, set_kept, roots_kept, command_kept, commands_kept, block_kept, blocks_kept, held_kept}
use Rattle.model.proofs.Laws.Checks.{and_left, and_right}
use Rattle.memory.specs.Sound.{Well, well_two, well_one, well_imm16, well_imm32, well_other, Root, SoundTarget, SoundBy, SoundCommand, SoundCommands, SoundKind, SoundBlock, Sound}
use Rattle.memory.specs.RecordLaws.{from_first}

-- ---- the same arrays under other kept counts

abbrev pub recounted_nodes : Nodes → ℕ → Nodes
recounted_nodes ns n = record { words = ns.words; values = ns.values; count = n }

abbrev pub recounted_coded : Coded → ℕ → ℕ → Coded
recounted_coded co n c = record { nodes = recounted_nodes co.nodes n; words = co.words; count = c }

abbrev pub recounted : Memory → ℕ → ℕ → Memory
recounted m n c = record { coded = recounted_coded m.coded n c; words = m.words; count = m.count }

-- ---- a sound record, under counts that are not smaller

module _ (co : Coded) (n c : ℕ) (hn : co.nodes.count ≤ n) (hc : co.count ≤ c) where
  root_kept_lem : (i j : ℕ) → Root co.nodes (command_word co i j) → root_kept (recounted_coded co n c) i j ≡ true
  root_kept_lem i j r = let l = r.low in lt-ltb (command_word co i j) n (omega arith)

  target_kept : (i t : ℕ) → SoundTarget co i t → Root co.nodes (command_word co i 2) → set_kept (recounted_coded co n c) i t ≡ true
  unfolding set_kept SoundTarget
  target_kept i zero h r = rw (root_kept_lem i 1 h, root_kept_lem i 2 r)
  target_kept i (suc t) h r = root_kept_lem i 2 r

  roots_kept_lem : (i k : ℕ) → SoundBy co i k → roots_kept (recounted_coded co n c) i k ≡ true
  unfolding roots_kept SoundBy
  roots_kept_lem i zero h = refl
  roots_kept_lem i (suc zero) h = refl
  roots_kept_lem i (suc (suc zero)) h = target_kept i (command_word co i 3) h.0 h.1
  roots_kept_lem i (suc (suc (suc zero))) h = root_kept_lem i 1 h
  roots_kept_lem i (suc (suc (suc (suc k)))) h = refl

  commands_kept_lem : (h f : ℕ) → SoundCommands co h f → commands_kept (recounted_coded co n c) h f ≡ true
  unfolding commands_kept command_kept
  commands_kept_lem zero f s = refl
  commands_kept_lem (suc h) f s =
      let a = s f (omega arith) (omega arith) in
      let l = a.low in
      rw (lt-ltb f c (omega arith), roots_kept_lem f (command_word co f 0) a.by, commands_kept_lem h (suc f) (λ i p q. s i (omega arith) (omega arith)))

module _ (m : Memory) (n c : ℕ) (hn : m.coded.nodes.count ≤ n) (hc : m.coded.count ≤ c) where
  block_kept_lem : (b k : ℕ) → SoundKind m b k → block_kept (recounted m n c) b k ≡ true
  unfolding block_kept SoundKind
  block_kept_lem b zero s = refl
  block_kept_lem b (suc zero) s = commands_kept_lem m.coded n c hn hc (block_word m b 2) (block_word m b 1) s
  block_kept_lem b (suc (suc k)) s = refl

  blocks_kept_lem : (h b : ℕ) → ((j : ℕ) → b ≤ j → j < b + h → SoundBlock m j) → blocks_kept (recounted m n c) h b ≡ true
  unfolding blocks_kept
  blocks_kept_lem zero b s = refl
  blocks_kept_lem (suc h) b s = rw (block_kept_lem b (block_word m b 0) (s b (omega arith) (omega arith)), blocks_kept_lem h (suc b) (λ j p q. s j (omega arith) (omega arith)))

  pub more_kept : Sound m → held_kept (recounted m n c) ≡ true
  unfolding held_kept
  more_kept s = blocks_kept_lem m.count 0 (λ j p q. s.block j (omega arith))

pub sound_kept : (m : Memory) → Sound m → held_kept m ≡ true
sound_kept m s = more_kept m m.coded.nodes.count m.coded.count (omega arith) (omega arith) s

-- ---- a record that holds nothing past its counts, and was sound under others

well_same : (ns : Nodes) (n : ℕ) {i : ℕ} → Well ns i → Well (recounted_nodes ns n) i
well_same ns n (well_two o c l w r v) = well_two o c l (well_same ns n w) r (well_same ns n v)
well_same ns n (well_one o c l w) = well_one o c l (well_same ns n w)
well_same ns n (well_imm16 c) = well_imm16 c
well_same ns n (well_imm32 c) = well_imm32 c
well_same ns n (well_other c) = well_other c

module _ (co : Coded) (n c : ℕ) where
  kept_root : (i j : ℕ) → Root co.nodes (command_word co i j) → root_kept (recounted_coded co n c) i j ≡ true → Root (recounted_nodes co.nodes n) (command_word co i j)
  kept_root i j r k = record { low = ltb-true (command_word co i j) n k; well = well_same co.nodes n r.well }

  kept_set : (i t : ℕ) → SoundTarget co i t → Root co.nodes (command_word co i 2) → set_kept (recounted_coded co n c) i t ≡ true
      → SoundTarget (recounted_coded co n c) i t × Root (recounted_nodes co.nodes n) (command_word co i 2)
  unfolding set_kept SoundTarget
  kept_set i zero h r k =
      let a = root_kept (recounted_coded co n c) i 1 in
      let b = root_kept (recounted_coded co n c) i 2 in
      (kept_root i 1 h (and_left a b k), kept_root i 2 r (and_right a b k))
  kept_set i (suc zero) h r k = (tt, kept_root i 2 r k)
  kept_set i (suc (suc t)) h r k = absurd h

  kept_by : (i k : ℕ) → SoundBy co i k → roots_kept (recounted_coded co n c) i k ≡ true → SoundBy (recounted_coded co n c) i k
  unfolding roots_kept SoundBy
  kept_by i zero h e = tt
  kept_by i (suc zero) h e = tt
  kept_by i (suc (suc zero)) h e = kept_set i (command_word co i 3) h.0 h.1 e
  kept_by i (suc (suc (suc zero))) h e = kept_root i 1 h e
  kept_by i (suc (suc (suc (suc zero)))) h e = tt
  kept_by i (suc (suc (suc (suc (suc zero))))) h e = tt
  kept_by i (suc (suc (suc (suc (suc (suc k)))))) h e = absurd h

  kept_command : (i : ℕ) → SoundCommand co i → command_kept (recounted_coded co n c) i ≡ true → SoundCommand (recounted_coded co n c) i
  unfolding command_kept
  kept_command i s e =
      let a = ltb i c in
      let b = roots_kept (recounted_coded co n c) i (command_word co i 0) in
      record { low = ltb-true i c (and_left a b e); by = kept_by i (command_word co i 0) s.by (and_right a b e) }

  kept_commands : (h f : ℕ) → SoundCommands co h f → commands_kept (recounted_coded co n c) h f ≡ true → SoundCommands (recounted_coded co n c) h f
  unfolding commands_kept
  kept_commands zero f s e = λ i p q. absurd (omega arith)
  kept_commands (suc h) f s e =
      let a = command_kept (recounted_coded co n c) f in
      let b = commands_kept (recounted_coded co n c) h (suc f) in
      from_first (SoundCommand (recounted_coded co n c)) h f (kept_command f (s f (omega arith) (omega arith)) (and_left a b e))
      (kept_commands h (suc f) (λ i p q. s i (omega arith) (omega arith)) (and_right a b e))

module _ (m : Memory) (n c : ℕ) where
  kept_block : (b k : ℕ) → SoundKind m b k → block_kept (recounted m n c) b k ≡ true → SoundKind (recounted m n c) b k
  unfolding block_kept SoundKind
  kept_block b zero s e = tt
  kept_block b (suc zero) s e = kept_commands m.coded n c (block_word m b 2) (block_word m b 1) s e
  kept_block b (suc (suc zero)) s e = tt
  kept_block b (suc (suc (suc k))) s e = absurd s

  kept_blocks_lem : (h b : ℕ) → ((j : ℕ) → b ≤ j → j < b + h → SoundBlock m j) → blocks_kept (recounted m n c) h b ≡ true → (j : ℕ) → b ≤ j → j < b + h → SoundBlock (recounted m n c) j
  unfolding blocks_kept
  kept_blocks_lem zero b s e = λ j p q. absurd (omega arith)
  kept_blocks_lem (suc h) b s e =
      let x = block_kept (recounted m n c) b (block_word m b 0) in
      let y = blocks_kept (recounted m n c) h (suc b) in
      from_first (SoundBlock (recounted m n c)) h b (kept_block b (block_word m b 0) (s b (omega arith) (omega arith)) (and_left x y e))
      (kept_blocks_lem h (suc b) (λ j p q. s j (omega arith) (omega arith)) (and_right x y e))

  pub kept_sound : Sound m → held_kept (recounted m n c) ≡ true → Sound (recounted m n c)
  unfolding held_kept
  kept_sound s e = record { block = λ b h. kept_blocks_lem m.count 0 (λ j p q. s.block j (omega arith)) e b (omega arith) (omega arith) }

-- ---- the trees are the same

module _ (ns : Nodes) (n : ℕ) where
  trees_same : (d i : ℕ) → tree_to (recounted_nodes ns n) d i ≡ tree_to ns d i
  unfolding tree_to
  trees_same zero i = refl
  trees_same (suc d) i = rw (trees_same d (left_at ns i), trees_same d (right_at ns i))

  tree_same : (i : ℕ) → tree (recounted_nodes ns n) i ≡ tree ns i
  unfolding tree
  tree_same i = trees_same (suc i) i

module _ (co : Coded) (n c : ℕ) where
  set_same : (i t : ℕ) → set_in (recounted_coded co n c) i t ≡ set_in co i t
  unfolding set_in
  set_same i zero = ap₂ set_variable (tree_same co.nodes n (command_word co i 1)) (tree_same co.nodes n (command_word co i 2))
  set_same i (suc t) = ap set_other (tree_same co.nodes n (command_word co i 2))

  command_same : (i k : ℕ) → command_by (recounted_coded co n c) i k ≡ command_by co i k
  unfolding command_by
  command_same i zero = refl
  command_same i (suc zero) = refl
  command_same i (suc (suc zero)) = set_same i (command_word co i 3)
  command_same i (suc (suc (suc zero))) = ap (λ (e : Expr). if_else e (command_word co i 3)) (tree_same co.nodes n (command_word co i 1))
  command_same i (suc (suc (suc (suc zero)))) = refl
  command_same i (suc (suc (suc (suc (suc k))))) = refl

  commands_same : (h f : ℕ) → commands_in (recounted_coded co n c) h f ≡ commands_in co h f
  unfolding commands_in command_in
  commands_same zero f = refl
  commands_same (suc h) f = ap₂ (λ (x : Command) (xs : List Command). x ∷ xs) (command_same f (command_word co f 0)) (commands_same h (suc f))

module _ (m : Memory) (n c : ℕ) where
  block_same : (b k : ℕ) → block_by (recounted m n c) b k ≡ block_by m b k
  unfolding block_by
  block_same b zero = refl
  block_same b (suc zero) = ap (λ (cs : List Command). code cs (link_in (block_word m b 3)) (link_in (block_word m b 4))) (commands_same m.coded n c (block_word m b 2) (block_word m b 1))
  block_same b (suc (suc k)) = refl

  blocks_same : (h b : ℕ) → blocks_in (recounted m n c) h b ≡ blocks_in m h b
  unfolding blocks_in block_in
  blocks_same zero b = refl
  blocks_same (suc h) b = ap₂ (λ (x : Block) (xs : List Block). x ∷ xs) (block_same b (block_word m b 0)) (blocks_same h (suc b))

  pub script_same : (script_of (recounted m n c)).blocks ≡ (script_of m).blocks
  unfolding script_of
  script_same = blocks_same m.count 0
