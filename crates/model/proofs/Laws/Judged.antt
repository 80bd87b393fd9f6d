-- A script that is accepted is its own reading and fits its kept counts, and an accepted compile leaves one that is accepted. Assumes nothing.
use Rattle.std.specs.Prelude.{◌≡◌, refl, true, ◌&&◌, List, [], ◌++◌, ℕ, ◌+◌, ◌≤◌, ◌<◌, leb, length, set}
use Rattle.std.proofs.Common.{ap, ◌∙◌, subst, arith, leb-true, le-leb, length-set, length-append}
use Rattle.model.specs.Limits.{block_limit, command_limit, node_limit, slot_count}
use Rattle.model.specs.Refusal.{over_limit}
use Rattle.model.specs.Reading.{got, refused, refusal_of}
use Rattle.model.specs.Script.{Block, Script, sum_of, block_commands, block_nodes, commands_nodes}
use Rattle.model.specs.Image.{Limits, image, read_within}
use Rattle.model.specs.Judge.{counts_ok, judged, script_refusal}
use Rattle.model.specs.Sheet.{Sheet, sheet_ok}
use Rattle.model.specs.Shop.{Slot, with_slots}
use Rattle.model.specs.Compile.{Call, compile_refusal, appended, fresh_blocks, shop_blocks, slots_blocks, root_of, redirect, disc_limits, has_room}
use Rattle.model.proofs.Laws.Checks.{and_left, and_right, compile_passed}
use Rattle.model.proofs.Laws.Compiled.{last_of_is}
use Rattle.model.proofs.Laws.Checks as Checks
use Rattle.model.proofs.Laws.Reading.{passed}
use Rattle.model.proofs.Laws.Image.{FitsLink, FitsScript, read_image_lem, write_image}
use Rattle.model.proofs.Laws.Same.{same_read}
use Rattle.model.proofs.Laws.Refused.{Proper, proper_cond, proper_within, accepts}
use Rattle.model.proofs.Laws.Sound.{SoundBlock, SoundBlocks, SoundCommands, more_blocks, sound_append, sound_set, sum_append, sum_set, Held, fits_held, held_fits}
use Rattle.model.proofs.Laws.FitBlocks.{shop_sound, length_padded}
use Rattle.model.proofs.Laws.Checked.{sheet_low}

-- ---- acceptance

-- what the judgement gives is the script's own blocks
pub judged_same : (sc : Script) (bs : List Block) (r : List ℕ) → judged sc ≡ got bs r → bs ≡ sc.blocks
unfolding judged
judged_same sc bs r p =
    same_read sc.commands sc.nodes sc.blocks bs r
    (passed (counts_ok sc) (read_within sc.commands sc.nodes (image sc.blocks)) over_limit bs r p).1

pub proper_judged : (sc : Script) → Proper (judged sc)
unfolding judged
proper_judged sc = proper_cond (counts_ok sc) (read_within sc.commands sc.nodes (image sc.blocks)) (refused over_limit) (proper_within sc.commands sc.nodes (image sc.blocks)) (omega arith)

-- the kept counts are within their limits, the blocks within the kept counts
pub record Accepted (sc : Script) : Type 0 where
  pub counts : counts_ok sc ≡ true
  pub fits : FitsScript sc.commands sc.nodes sc.blocks

pub accepted_fits : (sc : Script) → script_refusal sc ≡ 0 → Accepted sc
unfolding judged
accepted_fits sc p =
    let a = accepts (judged sc) (proper_judged sc) p in
    let t = passed (counts_ok sc) (read_within sc.commands sc.nodes (image sc.blocks)) over_limit a.value a.rest a.was in
    record {
      counts = t.0;
      fits = subst (λ (bs : List Block). FitsScript sc.commands sc.nodes bs) (judged_same sc a.value a.rest a.was)
          (write_image sc.commands sc.nodes (image sc.blocks) a.value a.rest t.1).fits;
    }

pub record Counts (sc : Script) : Type 0 where
  pub blocks : length sc.blocks ≤ block_limit
  pub commands : sc.commands ≤ command_limit
  pub nodes : sc.nodes ≤ node_limit

pub counts_low : (sc : Script) → counts_ok sc ≡ true → Counts sc
unfolding counts_ok
counts_low sc p =
    let b = leb (length sc.blocks) block_limit in
    let c = leb sc.commands command_limit in
    let n = leb sc.nodes node_limit in
    record {
      blocks = leb-true (length sc.blocks) block_limit (and_left b (c && n) p);
      commands = leb-true sc.commands command_limit (and_left c n (and_right b (c && n) p));
      nodes = leb-true sc.nodes node_limit (and_right c n (and_right b (c && n) p));
    }

pub low_counts : (sc : Script) → Counts sc → counts_ok sc ≡ true
unfolding counts_ok
low_counts sc k = rw (le-leb (length sc.blocks) block_limit k.blocks, le-leb sc.commands command_limit k.commands, le-leb sc.nodes node_limit k.nodes)

-- the judgement of an accepted script gives its blocks and leaves nothing
pub fits_judged : (sc : Script) → Accepted sc → judged sc ≡ got sc.blocks []
unfolding judged
fits_judged sc a =
    let low = (counts_low sc a.counts).commands in
    rw a.counts (read_image_lem sc.commands sc.nodes sc.blocks (omega arith) a.fits)

pub fits_accepted : (sc : Script) → Accepted sc → script_refusal sc ≡ 0
fits_accepted sc a = ap refusal_of (fits_judged sc a)

-- the same in parts: links, depth, and the two sums
pub accepted_held : (sc : Script) → script_refusal sc ≡ 0 → Counts sc × Held sc.commands sc.nodes sc.blocks
accepted_held sc p =
    let a = accepted_fits sc p in
    (counts_low sc a.counts, fits_held sc.commands sc.nodes sc.blocks a.fits)

pub held_accepted : (sc : Script) → Counts sc → Held sc.commands sc.nodes sc.blocks → script_refusal sc ≡ 0
held_accepted sc k d = fits_accepted sc (record { counts = low_counts sc k; fits = held_fits sc.commands sc.nodes sc.blocks d })

-- ---- an accepted compile

pub record Room (l : Limits) (sc : Script) (xs : List Block) : Type 0 where
  pub blocks : length sc.blocks + length xs ≤ l.blocks
  pub commands : sc.commands + sum_of block_commands xs ≤ l.commands
  pub nodes : sc.nodes + sum_of block_nodes xs ≤ l.nodes

pub room_low : (l : Limits) (sc : Script) (xs : List Block) → has_room l sc xs ≡ true → Room l sc xs
unfolding has_room
room_low l sc xs p =
    let b = leb (length sc.blocks + length xs) l.blocks in
    let c = leb (sc.commands + sum_of block_commands xs) l.commands in
    let n = leb (sc.nodes + sum_of block_nodes xs) l.nodes in
    record {
      blocks = leb-true (length sc.blocks + length xs) l.blocks (and_left b (c && n) p);
      commands = leb-true (sc.commands + sum_of block_commands xs) l.commands (and_left c n (and_right b (c && n) p));
      nodes = leb-true (sc.nodes + sum_of block_nodes xs) l.nodes (and_right c n (and_right b (c && n) p));
    }

redirect_sound : (k j : ℕ) → j < k → SoundBlock k (redirect j)
unfolding SoundBlock SoundCommands FitsLink redirect
redirect_sound k j h = (tt, h, tt)

redirect_commands : (j : ℕ) → block_commands (redirect j) ≡ 0
unfolding block_commands redirect
redirect_commands j = refl

redirect_nodes : (j : ℕ) → block_nodes (redirect j) ≡ 0
unfolding block_nodes commands_nodes redirect
redirect_nodes j = refl

-- the root is one of the blocks
root_low : (h : Sheet) (n : ℕ) (xs : List Slot) → root_of h n 0 xs < n + length (shop_blocks h n xs)
unfolding shop_blocks
root_low h n xs = omega (arith, last_of_is n (slots_blocks h n 0 xs))

-- what holds of the blocks before, of those that are pushed, and of the block that is put in the setup's place
pushed_held : (c n : ℕ) (bs xs : List Block) (b : ℕ) (y : Block) → Held c n bs → SoundBlocks (length bs + length xs) xs → SoundBlock (length bs + length xs) y
    → block_commands y ≡ 0 → block_nodes y ≡ 0 → length bs + length xs ≤ block_limit
    → Held (c + sum_of block_commands xs) (n + sum_of block_nodes xs) (set (bs ++ xs) b y)
pushed_held c n bs xs b y d f g yc yn l =
    let k = length bs + length xs in
    let len : length (set (bs ++ xs) b y) ≡ k = length-set (bs ++ xs) b y ∙ length-append bs xs in
    let hc = d.commands in
    let hn = d.nodes in
    record {
      few = omega arith;
      sound = rw len (sound_set k (bs ++ xs) b y (sound_append k bs xs (more_blocks (length bs) k (omega arith) bs d.sound) f) g);
      commands = omega (arith, sum_set block_commands (bs ++ xs) b y yc, sum_append block_commands bs xs);
      nodes = omega (arith, sum_set block_nodes (bs ++ xs) b y yn, sum_append block_nodes bs xs);
    }

-- an accepted compile leaves a script that is accepted
pub kept_judged : (h : Sheet) (sc : Script) (c : Call) → compile_refusal h sc c ≡ 0 → script_refusal (appended h sc c) ≡ 0
unfolding appended
kept_judged h sc c p =
    let q = compile_passed h (script_refusal sc) 0 sc c p in
    let f = sheet_low h (Checks.passed (sheet_ok h) 0 q.sheet) in
    let d = (accepted_held sc q.judged).1 in
    let n = length sc.blocks in
    let xs = with_slots c.shop in
    let ys = fresh_blocks h sc c in
    let m = room_low disc_limits sc ys q.room in
    let e : Held (sc.commands + sum_of block_commands ys) (sc.nodes + sum_of block_nodes ys) (set (sc.blocks ++ ys) c.setup (redirect (root_of h n 0 xs)))
    = pushed_held sc.commands sc.nodes sc.blocks ys c.setup (redirect (root_of h n 0 xs)) d
    (shop_sound h f n (n + length ys) xs (omega (arith, length_padded slot_count c.shop)) q.slots (omega arith))
    (redirect_sound (n + length ys) (root_of h n 0 xs) (root_low h n xs)) (redirect_commands (root_of h n 0 xs)) (redirect_nodes (root_of h n 0 xs)) m.blocks in
    held_accepted (appended h sc c) (record { blocks = e.few; commands = m.commands; nodes = m.nodes }) e
