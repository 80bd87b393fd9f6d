-- The judgement of a sound record is its script's, and so a compile that is accepted on trees leaves an accepted record. Assumes nothing.
use Rattle.std.specs.Prelude.{◌≡◌, List, [], ◌++◌, ℕ, ◌+◌, ◌≤◌, ◌<◌, length, set}
use Rattle.std.proofs.Common.{ap, sym, ◌∙◌, subst, arith, length-set, length-append}
use Rattle.std.proofs.Math.Bool.{and-true}
use Rattle.model.specs.Limits.{block_limit, command_limit, node_limit}
use Rattle.model.specs.Reading.{got, refusal_of}
use Rattle.model.specs.Script.{Block, Script, sum_of, block_commands, block_nodes}
use Rattle.model.specs.Judge.{counts_ok, judged, script_refusal}
use Rattle.model.specs.Sheet.{Sheet}
use Rattle.model.specs.Shop.{with_slots}
use Rattle.model.specs.Compile.{redirect, Call, fresh_blocks, root_of, compile_refusal, appended}
use Rattle.model.specs.Memory.{Memory, script_of, put_blocks, redirect_in}
use Rattle.model.specs.Record.{limits_kept, kept_ok, judged_record}
use Rattle.model.proofs.Laws.Checks.{compile_passed}
use Rattle.model.proofs.Laws.Judged.{accepted_fits, fits_judged, counts_low, kept_judged}
use Rattle.memory.specs.Sound.{Sound, Long, Room}
use Rattle.memory.specs.RecordLaws.{sound_image, length_blocks_in, judged_sound}
use Rattle.memory.specs.Kept.{sound_kept}
use Rattle.memory.specs.PutBlocks.{put_sound, redirect_sound}

-- ---- one judgement

pub blocks_counted : (m : Memory) → length (script_of m).blocks ≡ m.count
unfolding script_of
blocks_counted m = length_blocks_in m m.count 0

pub sound_judged : (m : Memory) → Sound m → judged_record m ≡ judged (script_of m)
unfolding judged_record judged kept_ok limits_kept counts_ok script_of
sound_judged m s = rw (sound_kept m s, and-true, sound_image m s, blocks_counted m)

-- a script from its parts
script_from : (m : Memory) (bs : List Block) (c n : ℕ) → (script_of m).blocks ≡ bs → m.coded.count ≡ c → m.coded.nodes.count ≡ n → script_of m ≡ record { blocks = bs; commands = c; nodes = n }
unfolding script_of
script_from m bs c n p q r = λ i. record { blocks = p i; commands = q i; nodes = r i }

-- a sound record whose script is accepted is accepted, and gives that script's blocks
pub accepted_record : (m : Memory) → Sound m → script_refusal (script_of m) ≡ 0 → judged_record m ≡ got (script_of m).blocks []
accepted_record m s p = sound_judged m s ∙ fits_judged (script_of m) (accepted_fits (script_of m) p)

-- the script of an accepted record is accepted, and has the blocks that its judgement gave
pub judged_script : (m : Memory) (bs : List Block) (r : List ℕ) → judged_record m ≡ got bs r → judged (script_of m) ≡ got bs []
judged_script m bs r p =
    let j = judged_sound m bs r p in
    sym (sound_judged m j.sound) ∙ p ∙ ap (got bs) j.all

pub accepted_script : (m : Memory) (bs : List Block) (r : List ℕ) → judged_record m ≡ got bs r → script_refusal (script_of m) ≡ 0
accepted_script m bs r p = ap refusal_of (judged_script m bs r p)

-- its kept counts are within their limits
pub judged_kept : (m : Memory) (bs : List Block) (r : List ℕ) → judged_record m ≡ got bs r → (m.count ≤ block_limit) × (m.coded.count ≤ command_limit) × (m.coded.nodes.count ≤ node_limit)
unfolding script_of
judged_kept m bs r p =
    let f = counts_low (script_of m) (accepted_fits (script_of m) (accepted_script m bs r p)).counts in
    let fb = f.blocks in
    let n = blocks_counted m in
    (omega arith, f.commands, f.nodes)

-- ---- blocks appended, then one block emptied and linked

-- what the script of m is then
abbrev pub changed : Memory → List Block → List Block → ℕ → ℕ → Script
changed m bs xs b k = record {
  blocks = set (bs ++ xs) b (redirect k);
  commands = m.coded.count + sum_of block_commands xs;
  nodes = m.coded.nodes.count + sum_of block_nodes xs;
}

pub record Changed (m : Memory) (bs xs : List Block) (b k : ℕ) (t : Memory) : Type 0 where
  pub sound : Sound t
  pub long : Long t
  pub script_is : script_of t ≡ changed m bs xs b k

pub change_sound : (m : Memory) (xs : List Block) (b k : ℕ) → Sound m → Long m → Room m xs → b < m.count → Changed m (script_of m).blocks xs b k (redirect_in (put_blocks m xs) b k)
change_sound m xs b k s g r h =
    let rb = r.blocks in
    let p = put_sound m xs s g r in
    let pc = p.counted in
    let q = redirect_sound (put_blocks m xs) b k p.sound p.long (omega arith) (omega arith) in
    record {
      sound = q.sound;
      long = q.long;
      script_is = script_from (redirect_in (put_blocks m xs) b k) (set ((script_of m).blocks ++ xs) b (redirect k)) (m.coded.count + sum_of block_commands xs) (m.coded.nodes.count + sum_of block_nodes xs)
          (q.blocks_are ∙ ap (λ (ys : List Block). set ys b (redirect k)) p.blocks_are) (q.commands_counted ∙ p.commands_counted) (q.nodes_counted ∙ p.nodes_counted);
    }

-- where the changed script is accepted there was room
room_of : (m : Memory) (xs : List Block) (b k : ℕ) → script_refusal (changed m (script_of m).blocks xs b k) ≡ 0 → Room m xs
room_of m xs b k p =
    let bs = (script_of m).blocks in
    let f = counts_low (changed m bs xs b k) (accepted_fits (changed m bs xs b k) p).counts in
    let fb = f.blocks in
    let l₁ = length-set (bs ++ xs) b (redirect k) in
    let l₂ = length-append bs xs in
    let l₃ = blocks_counted m in
    record { blocks = omega arith; commands = f.commands; nodes = f.nodes }

-- the judgement of the changed record is that of the changed script, where the record and that script are accepted
pub transfer : (m : Memory) (bs : List Block) (r : List ℕ) (xs : List Block) (b k : ℕ) → judged_record m ≡ got bs r → Long m → b < length bs
    → script_refusal (changed m bs xs b k) ≡ 0
    → Changed m bs xs b k (redirect_in (put_blocks m xs) b k) × (judged_record (redirect_in (put_blocks m xs) b k) ≡ got (set (bs ++ xs) b (redirect k)) [])
transfer m bs r xs b k p g h a =
    let j = judged_sound m bs r p in
    subst (λ (ys : List Block). b < length ys → script_refusal (changed m ys xs b k) ≡ 0
    → Changed m ys xs b k (redirect_in (put_blocks m xs) b k) × (judged_record (redirect_in (put_blocks m xs) b k) ≡ got (set (ys ++ xs) b (redirect k)) []))
    j.blocks_are (at_script j.sound) h a
  where
    at_script : Sound m → b < length (script_of m).blocks → script_refusal (changed m (script_of m).blocks xs b k) ≡ 0
        → Changed m (script_of m).blocks xs b k (redirect_in (put_blocks m xs) b k)
        × (judged_record (redirect_in (put_blocks m xs) b k) ≡ got (set ((script_of m).blocks ++ xs) b (redirect k)) [])
    at_script s h a =
        let n = blocks_counted m in
        let t = redirect_in (put_blocks m xs) b k in
        let d = change_sound m xs b k s g (room_of m xs b k a) (omega arith) in
        let e = d.script_is in
        (d, accepted_record t d.sound (ap script_refusal e ∙ a) ∙ ap (λ (sc : Script). got sc.blocks []) e)

-- a compile that is accepted leaves an accepted record of the compiled script
pub compile_transfer : (h : Sheet) (m : Memory) (c : Call) (bs : List Block) (r : List ℕ) → judged_record m ≡ got bs r → Long m → compile_refusal h (script_of m) c ≡ 0
    → (t : Memory) → t ≡ redirect_in (put_blocks m (fresh_blocks h (script_of m) c)) c.setup (root_of h (length (script_of m).blocks) 0 (with_slots c.shop))
    → Sound t × Long t × (script_of t ≡ appended h (script_of m) c) × (judged_record t ≡ got (appended h (script_of m) c).blocks [])
unfolding appended script_of
compile_transfer h m c bs r p g a t e =
    let sc = script_of m in
    let xs = fresh_blocks h sc c in
    let k = root_of h (length sc.blocks) 0 (with_slots c.shop) in
    let u = compile_passed h (script_refusal sc) 0 sc c a in
    let s = (judged_sound m bs r p).sound in
    let w = transfer m sc.blocks [] xs c.setup k (accepted_record m s u.judged) g u.inside (kept_judged h sc c a) in
    subst (λ (v : Memory). Sound v × Long v × (script_of v ≡ appended h sc c) × (judged_record v ≡ got (appended h sc c).blocks [])) (sym e)
    (w.0.sound, w.0.long, w.0.script_is, w.1)
