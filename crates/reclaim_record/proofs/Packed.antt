-- A way to reclaim in memory: links renamed command by command and survivors' words moved together give a record whose image is that of the survivors, and that image read back is what the reclaim leaves. Assumes nothing.
use Rattle.std.specs.Prelude.{◌≡◌, Bool, true, false, get_or, length}
use Rattle.std.proofs.Math.Path.{refl, ap}
use Rattle.std.proofs.Common.{sym, ◌∙◌, arith, ext_get_or}
use mathlib.Core.List.{List, [], ◌∷◌, map}
use Prim.Native.Nat.{ℕ, zero, suc, ◌<◌}
use Rattle.std.proofs.lemmas.List.{length-map}
use Rattle.std.proofs.Math.ListN.{get_or-map}
use Rattle.model.specs.Script.{goto, end_if, Block, placeholder, code, block_at}
use Rattle.model.specs.Reading.{got}
use Rattle.model.specs.Image.{image, read_image}
use Rattle.model.specs.Judge.{script_refusal}
use Rattle.model.specs.Memory.{Nodes, Coded, Memory, command_word, set_in, command_by, command_in, commands_in, block_word, link_in, block_by, block_in, script_of}
use Rattle.model.specs.Record.{judged_record}
use Rattle.model.specs.RecordCalls.{Born}
use Rattle.model.proofs.Laws.Files.{write_then_read}
use Rattle.model.proofs.Laws.Judged.{accepted_held, held_accepted}
use Rattle.memory.specs.Sound.{Root, SoundTarget, SoundBy, SoundCommand, SoundCommands, SoundKind, SoundBlock, Sound}
use Rattle.memory.specs.RecordLaws.{block_at_lem, judged_sound}
use Rattle.memory.specs.Transfer.{accepted_record, accepted_script, blocks_counted}
use Rattle.reclaim_model.specs.Rename.{rename_link, rename_command, rename_block}
use Rattle.reclaim_model.specs.Reclaim.{kept_blocks, rank, survivors}
use Rattle.reclaim_model.proofs.Laws.Reached.{mark_in, reached_long}
use Rattle.reclaim_model.proofs.Laws.Survivors.{length_left, left_at, left_from_lem}
use Rattle.reclaim_model.proofs.Laws.Reclaimed.{reclaim_held}
use Rattle.reclaim_record.specs.Calls.{lives_in}
use Rattle.reclaim_record.specs.Packed.{Followed, Packed, follow_code, follow_link}

module _ (f : ℕ → ℕ) (co co' : Coded) (p : Followed f co co') where
  -- ---- a command

  module _ (c : ℕ) (l : c < co.count) where
    first : command_word co' c 1 ≡ command_word co c 1
    first = p.words c 1 l (omega arith)

    later : command_word co' c 2 ≡ command_word co c 2
    later = p.words c 2 l (omega arith)

    set_follows : (t : ℕ) → set_in co' c t ≡ rename_command f (set_in co c t)
    unfolding set_in
    set_follows zero = rw (p.nodes, first, later)
    set_follows (suc t) = rw (p.nodes, later)

    by_follows : (k : ℕ) → command_word co' c 3 ≡ follow_code f k (command_word co c 3) → command_by co' c k ≡ rename_command f (command_by co c k)
    unfolding command_by follow_code
    by_follows zero e = refl
    by_follows (suc zero) e = ap goto e
    by_follows (suc (suc zero)) e = ap (set_in co' c) e ∙ set_follows (command_word co c 3)
    by_follows (suc (suc (suc zero))) e = rw (p.nodes, first, e)
    by_follows (suc (suc (suc (suc zero)))) e = ap end_if e
    by_follows (suc (suc (suc (suc (suc k))))) e = refl

    pub command_follows : command_in co' c ≡ rename_command f (command_in co c)
    unfolding command_in
    command_follows = ap (command_by co' c) (p.words c 0 l (omega arith)) ∙ by_follows (command_word co c 0) (p.target c l)

    root_follows : (i : ℕ) → Root co.nodes i → Root co'.nodes i
    root_follows i r = rw p.nodes r

    target_sound : (t : ℕ) → SoundTarget co c t → SoundTarget co' c t
    unfolding SoundTarget
    target_sound zero s = rw first (root_follows (command_word co c 1) s)
    target_sound (suc zero) s = tt
    target_sound (suc (suc t)) s = s

    by_sound : (k : ℕ) → command_word co' c 3 ≡ follow_code f k (command_word co c 3) → SoundBy co c k → SoundBy co' c k
    unfolding SoundBy follow_code
    by_sound zero e s = tt
    by_sound (suc zero) e s = tt
    by_sound (suc (suc zero)) e s = (rw e (target_sound (command_word co c 3) s.0), rw later (root_follows (command_word co c 2) s.1))
    by_sound (suc (suc (suc zero))) e s = rw first (root_follows (command_word co c 1) s)
    by_sound (suc (suc (suc (suc zero)))) e s = tt
    by_sound (suc (suc (suc (suc (suc zero))))) e s = tt
    by_sound (suc (suc (suc (suc (suc (suc k)))))) e s = s

  pub command_sound : (c : ℕ) → SoundCommand co c → SoundCommand co' c
  command_sound c s = record {
    low = omega (arith, s.low, p.count);
    by = rw (p.words c 0 s.low (omega arith)) (by_sound c s.low (command_word co c 0) (p.target c s.low) s.by);
  }

  pub commands_follow : (n c : ℕ) → SoundCommands co n c → commands_in co' n c ≡ map (rename_command f) (commands_in co n c)
  unfolding commands_in
  commands_follow zero c s = refl
  commands_follow (suc n) c s =
      λ i. command_follows c (s c (omega arith) (omega arith)).low i ∷ commands_follow n (suc c) (λ j q r. s j (omega arith) (omega arith)) i

-- ---- a block

link_follows : (f : ℕ → ℕ) (w : ℕ) → link_in (follow_link f w) ≡ rename_link f (link_in w)
unfolding follow_link
link_follows f zero = refl
link_follows f (suc k) = refl

module _ (f : ℕ → ℕ) (ms : List Bool) (m m' : Memory) (p : Packed f ms m m') where
  module _ (b : ℕ) (live : get_or ms b false ≡ true) where
    kind_follows : (k : ℕ) → SoundKind m b k → block_by m' (rank ms b) k ≡ rename_block f (block_by m b k)
    unfolding SoundKind block_by rename_block
    kind_follows zero s = refl
    kind_follows (suc zero) s =
        let nx : link_in (block_word m' (rank ms b) 3) ≡ rename_link f (link_in (block_word m b 3)) = ap link_in (p.next b live) ∙ link_follows f (block_word m b 3) in
        let el : link_in (block_word m' (rank ms b) 4) ≡ rename_link f (link_in (block_word m b 4)) = ap link_in (p.else b live) ∙ link_follows f (block_word m b 4) in
        let same : commands_in m'.coded (block_word m' (rank ms b) 2) (block_word m' (rank ms b) 1) ≡ map (rename_command f) (commands_in m.coded (block_word m b 2) (block_word m b 1))
        = rw (p.words b 1 live (omega arith), p.words b 2 live (omega arith)) (commands_follow f m.coded m'.coded p.coded (block_word m b 2) (block_word m b 1) s) in
        λ i. code (same i) (nx i) (el i)
    kind_follows (suc (suc k)) s = refl

    pub block_follows : SoundBlock m b → block_in m' (rank ms b) ≡ rename_block f (block_in m b)
    unfolding block_in
    block_follows s = ap (block_by m' (rank ms b)) (p.words b 0 live (omega arith)) ∙ kind_follows (block_word m b 0) s

    kind_sound : (k : ℕ) → SoundKind m b k → SoundKind m' (rank ms b) k
    unfolding SoundKind
    kind_sound zero s = tt
    kind_sound (suc zero) s =
        λ c q r. command_sound f m.coded m'.coded p.coded c (s c (omega (arith, p.words b 1 live (omega arith))) (omega (arith, p.words b 1 live (omega arith), p.words b 2 live (omega arith))))
    kind_sound (suc (suc zero)) s = tt
    kind_sound (suc (suc (suc k))) s = s

    block_sound : SoundBlock m b → SoundBlock m' (rank ms b)
    block_sound s = rw (p.words b 0 live (omega arith)) (kind_sound (block_word m b 0) s)

  module _ (sound : Sound m) (long : length ms ≡ m.count) where
    abbrev old : List Block
    old = (script_of m).blocks

    fits : length ms ≡ length (script_of m).blocks
    fits = long ∙ sym (blocks_counted m)

    pub packed_sound : Sound m'
    packed_sound = record { block = λ j l. there j l }
      where
        there : (j : ℕ) → j < m'.count → SoundBlock m' j
        there j l =
            let o = left_from_lem ms old placeholder j fits (omega (arith, length_left ms old fits, p.count)) in
            rw (← o.number) (block_sound o.from o.lives (sound.block o.from (omega (arith, mark_in ms o.from o.lives))))

    -- the blocks are the survivors with their links followed
    pub packed_blocks : (script_of m').blocks ≡ map (rename_block f) (survivors ms (script_of m).blocks)
    packed_blocks = ext_get_or placeholder (script_of m').blocks (map (rename_block f) (survivors ms old)) same_long (λ j l. at j l)
      where
        same_long : length (script_of m').blocks ≡ length (map (rename_block f) (survivors ms old))
        same_long = blocks_counted m' ∙ p.count ∙ sym (length_left ms old fits) ∙ sym (length-map (survivors ms old) (rename_block f))

        left : (b : ℕ) → get_or ms b false ≡ true → get_or (map (rename_block f) (survivors ms old)) (rank ms b) placeholder ≡ rename_block f (block_at old b)
        left b e = unfold rename_block in (get_or-map (rename_block f) (survivors ms old) (rank ms b) placeholder ∙ ap (rename_block f) (left_at ms old placeholder b fits e))

        at : (j : ℕ) → j < length (script_of m').blocks → block_at (script_of m').blocks j ≡ get_or (map (rename_block f) (survivors ms old)) j placeholder
        at j l =
            let o = left_from_lem ms old placeholder j fits (omega (arith, length_left ms old fits, p.count, blocks_counted m')) in
            let in-old : o.from < m.count = omega (arith, mark_in ms o.from o.lives) in
            block_at_lem m' j (omega (arith, blocks_counted m'))
            ∙ ap (block_in m') (sym o.number)
            ∙ block_follows o.from o.lives (sound.block o.from in-old)
            ∙ ap (rename_block f) (sym (block_at_lem m o.from in-old))
            ∙ sym (left o.from o.lives)
            ∙ ap (λ (n : ℕ). get_or (map (rename_block f) (survivors ms old)) n placeholder) o.number

-- ---- the whole way

-- a judged record, its words packed for the survivors of a reclaim and the counts of commands and nodes kept: it is judged, it has the survivors with their links followed, and its image reads as them
pub record Route (m m' : Memory) (ys : List Block) : Type 0 where
  pub judged : judged_record m' ≡ got ys []
  pub blocks : (script_of m').blocks ≡ ys
  pub reads : read_image (image ys) ≡ got ys []

pub route : (k : Born) (rs : List ℕ) (m' : Memory) (bs : List Block) (r : List ℕ) → judged_record k.memory ≡ got bs r → Packed (rank (lives_in k rs)) (lives_in k rs) k.memory m'
    → Route k.memory m' (kept_blocks (lives_in k rs) (script_of k.memory).blocks)
unfolding script_of kept_blocks
route k rs m' bs r e p =
    let m = k.memory in
    let ms = lives_in k rs in
    let ys = kept_blocks ms (script_of m).blocks in
    let ok = accepted_script m bs r e in
    let sound = (judged_sound m bs r e).sound in
    let long : length ms ≡ m.count = reached_long (script_of m).blocks rs ∙ blocks_counted m in
    let c = (accepted_held (script_of m) ok).0 in
    let d = reclaim_held (record { script = script_of m; births = []; compiles = 0 }) rs ok in
    let s = packed_sound (rank ms) ms m m' p sound long in
    let b : (script_of m').blocks ≡ ys = packed_blocks (rank ms) ms m m' p sound long in
    let cc' = p.coded.count in
    let nn : m'.coded.nodes.count ≡ m.coded.nodes.count = ap (λ (n : Nodes). n.count) p.coded.nodes in
    let fine : script_refusal (script_of m') ≡ 0 = held_accepted (script_of m')
    (record { blocks = rw b d.few; commands = omega (arith, c.commands); nodes = omega (arith, c.nodes) })
    (record { few = rw b d.few; sound = rw b d.sound; commands = rw b (omega (arith, d.commands)); nodes = rw b (omega (arith, d.nodes)) }) in
    record {
      judged = accepted_record m' s fine ∙ ap (λ (xs : List Block). got xs []) b;
      blocks = b;
      reads = rw b at (write_then_read (script_of m') fine);
    }
