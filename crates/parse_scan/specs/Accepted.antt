-- The commands of a code block of an accepted record can be read. Assumes nothing.
use Rattle.std.specs.Prelude.{◌≡◌, true, List, [], ◌∷◌, ℕ, zero, suc, ◌+◌, ◌*◌, ◌^◌, ◌≤◌, ◌<◌, ℤ, pos, negsuc, get_or, length}
use Rattle.std.proofs.Math.Path.{ap, subst}
use Rattle.std.proofs.Common.{◌∙◌, add-zero, arith, lt-ltb}
use Rattle.std.proofs.Math.Decide.{ℕ_discrete}
use Rattle.std.specs.Int.{w16}
use Rattle.model.specs.Limits.{wide16, depth_limit, command_limit, node_limit}
use Rattle.model.specs.Signed.{in_range}
use Rattle.model.specs.Reading.{got, zig}
use Rattle.model.specs.Expr.{Expr, imm16}
use Rattle.model.specs.Script.{Block, block_at}
use Rattle.model.specs.Memory.{Coded, Memory, value_at, tree, command_word, block_word, set_in, command_by, command_in, commands_in, block_by, block_in, script_of}
use Rattle.model.specs.Record.{judged_record}
use Rattle.model.proofs.Laws.ImageExpr.{FitsExpr}
use Rattle.model.proofs.Laws.Sound as Trees
use Rattle.model.proofs.Laws.Judged.{accepted_held}
use Rattle.memory.specs.Sound.{Root, SoundTarget, SoundBy, SoundCommand, SoundCommands, SoundKind}
use Rattle.memory.specs.NodeLaws.{tree_imm16}
use Rattle.memory.specs.RecordLaws.{block_at_lem, judged_sound}
use Rattle.memory.specs.Transfer.{accepted_script, judged_kept}
use Rattle.parse_scan.specs.Ready.{ReadySet, ReadyCommand, Ready}

-- ---- numbers: an Imm16 that an image can hold has 16 bits

short_zig : (z : ℤ) → zig z < wide16 → in_range w16 z ≡ true
unfolding zig
short_zig (pos n) h = lt-ltb n (2 ^ 15) (omega arith)
short_zig (negsuc n) h = lt-ltb n (2 ^ 15) (omega arith)

fits_short : (e : Expr) (z : ℤ) → e ≡ imm16 z → FitsExpr depth_limit e → in_range w16 z ≡ true
unfolding FitsExpr
fits_short e z p f = short_zig z (subst (FitsExpr depth_limit) p f)

-- ---- trees: the commands of a block, one by one

sound_at : (k : ℕ) (bs : List Block) (b : ℕ) → Trees.SoundBlocks k bs → Trees.SoundBlock k (block_at bs b)
unfolding Trees.SoundBlocks Trees.SoundBlock
sound_at k [] b s = tt
sound_at k (x ∷ bs) zero s = s.0
sound_at k (x ∷ bs) (suc b) s = sound_at k bs b s.1

command_at : (k : ℕ) (co : Coded) (h f c : ℕ) → Trees.SoundCommands k (commands_in co h f) → f ≤ c → c < f + h → Trees.SoundCommand k (command_in co c)
unfolding Trees.SoundCommands commands_in
command_at k co zero f c s p q = absurd (omega arith)
command_at k co (suc h) f c s p q = by (ℕ_discrete f c) (command_at k co h (suc f) c s.1)
  where
    by : Dec (f ≡ c) → (suc f ≤ c → c < suc f + h → Trees.SoundCommand k (command_in co c)) → Trees.SoundCommand k (command_in co c)
    by (yes e) ih = subst (λ i. Trees.SoundCommand k (command_in co i)) e s.0
    by (no n) ih = ih (omega arith) (omega arith)

-- ---- a command, from its words and its tree

module _ (co : Coded) (c k : ℕ) (few : co.nodes.count ≤ node_limit) (t : Trees.SoundCommand k (command_in co c)) where
  first_word : command_word co c 0 ≡ get_or co.words (4 * c) 0
  first_word = ap (λ i. get_or co.words i 0) (add-zero (4 * c))

  set_ready : SoundTarget co c 0 × Root co.nodes (command_word co c 2) → get_or co.words (4 * c) 0 ≡ 2 → get_or co.words (4 * c + 3) 0 ≡ 0
      → ReadySet co.nodes.words co.nodes.values (command_word co c 1) (command_word co c 2)
  unfolding SoundTarget command_in command_by set_in Trees.SoundCommand
  set_ready s p q =
      let u = s.0.low in
      let w = s.1.low in
      let f : FitsExpr depth_limit (tree co.nodes (command_word co c 2)) = (rw (first_word, p, q) at t).1 in
      record {
        target = omega arith;
        value = record {
          low = omega arith;
          short = λ e. fits_short (tree co.nodes (command_word co c 2)) (value_at co.nodes (command_word co c 2)) (tree_imm16 co.nodes (command_word co c 2) e) f;
        };
      }

  command_ready : co.count ≤ command_limit → SoundCommand co c → ReadyCommand co.nodes.words co.nodes.values co.words c
  unfolding SoundBy
  command_ready l s =
      let d = s.low in
      let b : SoundBy co c (get_or co.words (4 * c) 0) = subst (SoundBy co c) first_word s.by in
      record {
        low = omega arith;
        sets = λ p q. set_ready (rw (p, q) at b) p q;
        tests = λ p. let r : Root co.nodes (command_word co c 1) = rw p at b in let w = r.low in omega arith;
      }

-- ---- the record

module _ (m : Memory) (bs : List Block) (r : List ℕ) (p : judged_record m ≡ got bs r) (b : ℕ) (h : b < m.count) (e : block_word m b 0 ≡ 1) where
  commands_sound : SoundCommands m.coded (block_word m b 2) (block_word m b 1)
  unfolding SoundKind
  commands_sound = rw e at ((judged_sound m bs r p).sound.block b h)

  count : ℕ
  count = length (script_of m).blocks

  code_is : block_at (script_of m).blocks b ≡ block_by m b 1
  unfolding block_in
  code_is = block_at_lem m b h ∙ ap (block_by m b) e

  trees_sound : Trees.SoundCommands count (commands_in m.coded (block_word m b 2) (block_word m b 1))
  unfolding count block_by Trees.SoundBlock
  trees_sound = (subst (Trees.SoundBlock count) code_is (sound_at count (script_of m).blocks b (accepted_held (script_of m) (accepted_script m bs r p)).1.sound)).0

  pub commands_ready : Ready m.coded.nodes.words m.coded.nodes.values m.coded.words (block_word m b 2) (block_word m b 1)
  commands_ready =
      let k = judged_kept m bs r p in
      record { each = λ c l u. command_ready m.coded c count k.2 (command_at count m.coded (block_word m b 2) (block_word m b 1) c trees_sound l u) k.1 (commands_sound c l u) }
