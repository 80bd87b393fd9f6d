-- The image of a sound record is its script's, and a record whose image is accepted is sound. Assumes nothing.
use Rattle.std.specs.Prelude.{◌≡◌, Bool, true, false, ltb, leb, eqb, length, get_or}
use Rattle.std.proofs.Math.Path.{refl, ap, ap₂}
use Rattle.std.proofs.Common.{sym, ◌∙◌, subst, ltb-true, lt-ltb, eqb-true}
use Rattle.std.proofs.Math.Bool.{cond}
use mathlib.Core.List.{List, [], ◌∷◌, ◌++◌, append_assoc, append-nil}
use Prim.Native.Nat.{ℕ, zero, suc, ◌+◌, ◌≤◌, ◌<◌, ◌-◌}
use native.Mathlib.Omega.{arith}
use Rattle.std.proofs.lemmas.Bool.{eqb-false}
use Rattle.model.specs.Limits.{block_limit, depth_limit, wide}
use Rattle.model.specs.Refusal.{over_limit}
use Rattle.model.specs.Reading.{Answer, got, refused, onward, number, word}
use Rattle.model.specs.Expr.{Expr, size}
use Rattle.model.specs.Script.{Command, set_variable, Block, placeholder, block_at, command_nodes, block_nodes, block_commands}
use Rattle.model.specs.Image.{expr_image, command_image, commands_image, link_image, block_image, blocks_image, image, Limits, limits, read_term, set_of, command_of, read_command, read_commands, read_code, block_of, read_block, read_blocks, ended, read_within}
use Rattle.model.specs.Memory.{Nodes, Coded, Memory, tree, command_word, set_in, command_by, command_in, commands_in, block_word, link_in, block_by, block_in, blocks_in, script_of}
use Rattle.model.specs.Record.{root_image, target_image, command_tail, command_image_in, commands_image_in, block_tail, blocks_image_in, record_image, kept_ok, judged_record}
use Rattle.model.proofs.Laws.Refused.{Proper, proper_cond, proper_within}
use Rattle.model.proofs.Laws.Reading.{split, passed, same_number, number_low, onto}
use Rattle.model.proofs.Laws.Image.{write_image}
use Rattle.model.proofs.Laws.Same.{same_command, same_block, same_read}
use Rattle.memory.specs.Sound.{Root, SoundTarget, SoundBy, SoundCommand, SoundCommands, SoundKind, SoundBlock, Sound}
use Rattle.memory.specs.NodeLaws.{well_image, node_read}

-- ---- the image of what is sound

pub root_image_lem : (ns : Nodes) (i : ℕ) → Root ns i → root_image ns i ≡ expr_image (tree ns i)
unfolding root_image
root_image_lem ns i r = well_image ns ns.count r.low r.well

module _ (co : Coded) where
  target_image_lem : (c t : ℕ) → SoundTarget co c t → Root co.nodes (command_word co c 2)
      → word 2 ++ (target_image co c t ++ root_image co.nodes (command_word co c 2)) ≡ command_image (set_in co c t)
  unfolding target_image set_in command_image SoundTarget
  target_image_lem c zero h r = rw (append_assoc, root_image_lem co.nodes (command_word co c 1) h, root_image_lem co.nodes (command_word co c 2) r)
  target_image_lem c (suc zero) h r = rw (root_image_lem co.nodes (command_word co c 2) r)
  target_image_lem c (suc (suc t)) h r = absurd h

  by_image : (c k : ℕ) → SoundBy co c k → word k ++ command_tail co c k ≡ command_image (command_by co c k)
  unfolding command_tail command_by command_image SoundBy
  by_image c zero h = append-nil (word 0)
  by_image c (suc zero) h = refl
  by_image c (suc (suc zero)) h = target_image_lem c (command_word co c 3) h.0 h.1
  by_image c (suc (suc (suc zero))) h = rw (root_image_lem co.nodes (command_word co c 1) h)
  by_image c (suc (suc (suc (suc zero)))) h = refl
  by_image c (suc (suc (suc (suc (suc zero))))) h = append-nil (word 5)
  by_image c (suc (suc (suc (suc (suc (suc k)))))) h = absurd h

  pub command_image_lem : (c : ℕ) → SoundCommand co c → command_image_in co c ≡ command_image (command_in co c)
  unfolding command_image_in command_in
  command_image_lem c h = rw (lt-ltb c co.count h.low) (by_image c (command_word co c 0) h.by)

  pub commands_image_lem : (h f : ℕ) → SoundCommands co h f → commands_image_in co h f ≡ commands_image (commands_in co h f)
  unfolding commands_image_in commands_in commands_image
  commands_image_lem zero f s = refl
  commands_image_lem (suc h) f s =
      ap₂ (λ (x y : List ℕ). x ++ y) (command_image_lem f (s f (omega arith) (omega arith))) (commands_image_lem h (suc f) (λ c l u. s c (omega arith) (omega arith)))

  pub length_commands_in : (h f : ℕ) → length (commands_in co h f) ≡ h
  unfolding commands_in
  length_commands_in zero f = refl
  length_commands_in (suc h) f = ap suc (length_commands_in h (suc f))

-- the command that comes next, before those after it
pub next_command : (co : Coded) (many first i : ℕ) → i < many → commands_in co (many - i) (first + i) ≡ command_in co (first + i) ∷ commands_in co (many - (i + 1)) (first + (i + 1))
unfolding commands_in
next_command co many first i h =
    let y : many - i ≡ suc (many - (i + 1)) = omega arith in
    let z : suc (first + i) ≡ first + (i + 1) = omega arith in
    ap (λ j. commands_in co j (first + i)) y ∙ ap (λ f. command_in co (first + i) ∷ commands_in co (many - (i + 1)) f) z

link_image_lem : (w : ℕ) → word w ≡ link_image (link_in w)
unfolding link_image
link_image_lem zero = refl
link_image_lem (suc k) = refl

module _ (m : Memory) where
  kind_image : (b k : ℕ) → SoundKind m b k → word k ++ block_tail m b k ≡ block_image (block_by m b k)
  unfolding block_tail block_by block_image SoundKind
  kind_image b zero h = append-nil (word 0)
  kind_image b (suc zero) h =
      rw (length_commands_in m.coded (block_word m b 2) (block_word m b 1), commands_image_lem m.coded (block_word m b 2) (block_word m b 1) h, ← link_image_lem (block_word m b 3), ← link_image_lem (block_word m b 4))
  kind_image b (suc (suc zero)) h = append-nil (word 2)
  kind_image b (suc (suc (suc k))) h = absurd h

  pub block_image_lem : (b : ℕ) → SoundBlock m b → word (block_word m b 0) ++ block_tail m b (block_word m b 0) ≡ block_image (block_in m b)
  unfolding block_in
  block_image_lem b h = kind_image b (block_word m b 0) h

  pub blocks_image_lem : (h b : ℕ) → ((j : ℕ) → b ≤ j → j < b + h → SoundBlock m j) → blocks_image_in m h b ≡ blocks_image (blocks_in m h b)
  unfolding blocks_image_in blocks_in blocks_image
  blocks_image_lem zero b s = refl
  blocks_image_lem (suc h) b s =
      ap₂ (λ (x y : List ℕ). x ++ y) (block_image_lem b (s b (omega arith) (omega arith))) (blocks_image_lem h (suc b) (λ c l u. s c (omega arith) (omega arith)))

  pub length_blocks_in : (h b : ℕ) → length (blocks_in m h b) ≡ h
  unfolding blocks_in
  length_blocks_in zero b = refl
  length_blocks_in (suc h) b = ap suc (length_blocks_in h (suc b))

  -- block b of the script
  blocks_at : (h b j : ℕ) → j < h → get_or (blocks_in m h b) j placeholder ≡ block_in m (b + j)
  unfolding blocks_in
  blocks_at zero b j l = absurd (omega arith)
  blocks_at (suc h) b zero l = let e : b ≡ b + 0 = omega arith in ap (block_in m) e
  blocks_at (suc h) b (suc j) l = let e : suc b + j ≡ b + suc j = omega arith in blocks_at h (suc b) j (omega arith) ∙ ap (block_in m) e

  pub block_at_lem : (b : ℕ) → b < m.count → block_at (script_of m).blocks b ≡ block_in m b
  unfolding script_of
  block_at_lem b l = let e : 0 + b ≡ b = omega arith in blocks_at m.count 0 b l ∙ ap (block_in m) e

  pub sound_image : Sound m → record_image m ≡ image (script_of m).blocks
  unfolding record_image image script_of
  sound_image s = rw (length_blocks_in m.count 0) (ap (λ (x : List ℕ). word m.count ++ x) (blocks_image_lem m.count 0 (λ j l u. s.block j (omega arith))))

-- ---- what is read from the image of a record

-- a number that was accepted is below its limit
number_known : {A : Type 0} (l k : ℕ) (u : List ℕ) (f : ℕ → List ℕ → Answer A) {x : A} {r : List ℕ} → onward (number l (word k ++ u)) f ≡ got x r → (k < l) × (f k u ≡ got x r)
number_known l k u f p =
    let q = split (number l (word k ++ u)) f p in
    let h = number_low l (word k ++ u) q.value q.rest q.first in
    let e = (same_number l k u q.value q.rest q.first).0 in
    (omega arith, onto (number l (word k ++ u)) f (same_number l k u) p)

-- P holds, x was read, and what follows is left
pub record ReadAs {A : Type 0} (P : Type 0) (x : A) (s : List ℕ) (v : A) (t : List ℕ) : Type 0 where
  pub holds : P
  pub is : v ≡ x
  pub rest : t ≡ s

-- of numbers from f on: the first, and those after it
pub from_first : (P : ℕ → Type 0) (h f : ℕ) → P f → ((j : ℕ) → suc f ≤ j → j < suc f + h → P j) → (j : ℕ) → f ≤ j → j < f + suc h → P j
from_first P h f p s j l u = go (eqb f j) refl
  where
    go : (t : Bool) → eqb f j ≡ t → P j
    go true e = subst P (eqb-true f j e) p
    go false e = let g = eqb-false f j e in s j (omega arith) (omega arith)

module _ (l : Limits) (co : Coded) where
  pub root_read : (n i : ℕ) (s : List ℕ) (e : Expr) (t : List ℕ) → read_term l n (root_image co.nodes i ++ s) ≡ got e t → ReadAs (Root co.nodes i) (tree co.nodes i) s e t
  unfolding read_term root_image
  root_read n i s e t p =
      let q = node_read l.nodes co.nodes depth_limit n co.nodes.count i s e t p in
      record { holds = record { low = q.low; well = q.well }; is = q.is; rest = q.rest }

  -- the fourth word of a Set
  set_sound : (n c k : ℕ) (s : List ℕ) (x : Command) (t : List ℕ)
      → onward (number 2 ((target_image co c k ++ root_image co.nodes (command_word co c 2)) ++ s)) (λ j r. set_of l n j r) ≡ got x t
      → SoundTarget co c k × Root co.nodes (command_word co c 2)
  unfolding target_image set_of SoundTarget
  set_sound n c zero s x t p =
      let a = root_image co.nodes (command_word co c 1) in
      let b = root_image co.nodes (command_word co c 2) in
      let q = number_known 2 0 (a ++ (b ++ s)) (λ j r. set_of l n j r) (rw (append_assoc (word 0 ++ a) b s, append_assoc (word 0) a (b ++ s)) at p) in
      let u = split (read_term l n (a ++ (b ++ s))) _ q.1 in
      let v = root_read n (command_word co c 1) (b ++ s) u.value u.rest u.first in
      let u' = split (read_term l (n + size u.value) (b ++ s)) (λ e r. got (set_variable u.value e) r) (rw v.rest at u.then) in
      let v' = root_read (n + size u.value) (command_word co c 2) s u'.value u'.rest u'.first in
      (v.holds, v'.holds)
  set_sound n c (suc zero) s x t p =
      let b = root_image co.nodes (command_word co c 2) in
      let q = number_known 2 1 (b ++ s) (λ j r. set_of l n j r) (rw append_assoc at p) in
      let u = split (read_term l n (b ++ s)) _ q.1 in
      (tt, (root_read n (command_word co c 2) s u.value u.rest u.first).holds)
  set_sound n c (suc (suc k)) s x t p =
      let b = root_image co.nodes (command_word co c 2) in
      let q = (number_known 2 (suc (suc k)) (b ++ s) (λ j r. set_of l n j r) (rw append_assoc at p)).0 in
      absurd (omega arith)

  by_sound : (n c k : ℕ) (s : List ℕ) (x : Command) (t : List ℕ) → k < 6 → command_of l n k (command_tail co c k ++ s) ≡ got x t → SoundBy co c k
  unfolding command_of command_tail SoundBy
  by_sound n c zero s x t h p = tt
  by_sound n c (suc zero) s x t h p = tt
  by_sound n c (suc (suc zero)) s x t h p = set_sound n c (command_word co c 3) s x t p
  by_sound n c (suc (suc (suc zero))) s x t h p =
      let a = root_image co.nodes (command_word co c 1) in
      let b = word (command_word co c 3) in
      let u = split (read_term l n (a ++ (b ++ s))) _ (rw append_assoc at p) in
      (root_read n (command_word co c 1) (b ++ s) u.value u.rest u.first).holds
  by_sound n c (suc (suc (suc (suc zero)))) s x t h p = tt
  by_sound n c (suc (suc (suc (suc (suc zero))))) s x t h p = tt
  by_sound n c (suc (suc (suc (suc (suc (suc k)))))) s x t h p = absurd (omega arith)

  command_sound : (n c : ℕ) (s : List ℕ) (x : Command) (t : List ℕ) → read_command l n (command_image_in co c ++ s) ≡ got x t → SoundCommand co c
  unfolding read_command command_image_in
  command_sound n c s x t p = go (ltb c co.count) refl p
    where
      k : ℕ
      k = command_word co c 0

      go : (y : Bool) → ltb c co.count ≡ y → onward (number 6 (cond y (word k ++ command_tail co c k) (word 6) ++ s)) (λ j r. command_of l n j r) ≡ got x t → SoundCommand co c
      go false e q = let z = (number_known 6 6 s (λ j r. command_of l n j r) q).0 in absurd (omega arith)
      go true e q =
          let z = number_known 6 k (command_tail co c k ++ s) (λ j r. command_of l n j r) (rw append_assoc at q) in
          record { low = ltb-true c co.count e; by = by_sound n c k s x t z.0 z.1 }

  pub command_read : (n c : ℕ) (s : List ℕ) (x : Command) (t : List ℕ) → read_command l n (command_image_in co c ++ s) ≡ got x t → ReadAs (SoundCommand co c) (command_in co c) s x t
  command_read n c s x t p =
      let g = command_sound n c s x t p in
      let q = same_command l n (command_in co c) s x t (subst (λ (u : List ℕ). read_command l n (u ++ s) ≡ got x t) (command_image_lem co c g) p) in
      record { holds = g; is = q.0; rest = q.1 }

  pub commands_sound : (h n f : ℕ) (s : List ℕ) (xs : List Command) (t : List ℕ) → read_commands l h n (commands_image_in co h f ++ s) ≡ got xs t → SoundCommands co h f
  unfolding read_commands commands_image_in
  commands_sound zero n f s xs t p = λ c a b. absurd (omega arith)
  commands_sound (suc h) n f s xs t p =
      let w = commands_image_in co h (suc f) ++ s in
      let q = split (read_command l n (command_image_in co f ++ w)) _ (rw append_assoc at p) in
      let a = command_read n f w q.value q.rest q.first in
      let q' = split (read_commands l h (n + command_nodes q.value) w) (λ ys u. got (q.value ∷ ys) u) (rw a.rest at q.then) in
      from_first (SoundCommand co) h f a.holds (commands_sound h (n + command_nodes q.value) (suc f) s q'.value q'.rest q'.first)

module _ (l : Limits) (m : Memory) where
  kind_sound : (p n b k : ℕ) (s : List ℕ) (x : Block) (t : List ℕ) → k < 3 → block_of l p n k (block_tail m b k ++ s) ≡ got x t → SoundKind m b k
  unfolding block_of block_tail SoundKind read_code
  kind_sound p n b zero s x t h e = tt
  kind_sound p n b (suc zero) s x t h e =
      let c = block_word m b 2 in
      let u = commands_image_in m.coded c (block_word m b 1) in
      let w = (word (block_word m b 3) ++ word (block_word m b 4)) ++ s in
      let q = number_known wide c (u ++ w) (λ c r. cond (leb (p + c) l.commands) (read_code l n c r) (refused over_limit)) (rw (append_assoc, append_assoc) at e) in
      let g = (passed (leb (p + c) l.commands) (read_code l n c (u ++ w)) over_limit x t q.1).1 in
      let v = split (read_commands l c n (u ++ w)) _ g in
      commands_sound l m.coded c n (block_word m b 1) w v.value v.rest v.first
  kind_sound p n b (suc (suc zero)) s x t h e = tt
  kind_sound p n b (suc (suc (suc k))) s x t h e = absurd (omega arith)

  pub block_read : (p n b : ℕ) (s : List ℕ) (x : Block) (t : List ℕ)
      → read_block l p n ((word (block_word m b 0) ++ block_tail m b (block_word m b 0)) ++ s) ≡ got x t → ReadAs (SoundBlock m b) (block_in m b) s x t
  unfolding read_block
  block_read p n b s x t e =
      let k = block_word m b 0 in
      let z = number_known 3 k (block_tail m b k ++ s) (λ j r. block_of l p n j r) (rw append_assoc at e) in
      let g = kind_sound p n b k s x t z.0 z.1 in
      let q = same_block l p n (block_in m b) s x t (subst (λ (u : List ℕ). read_block l p n (u ++ s) ≡ got x t) (block_image_lem m b g) e) in
      record { holds = g; is = q.0; rest = q.1 }

  pub blocks_sound : (h p n b : ℕ) (s : List ℕ) (xs : List Block) (t : List ℕ) → read_blocks l h p n (blocks_image_in m h b ++ s) ≡ got xs t → (j : ℕ) → b ≤ j → j < b + h → SoundBlock m j
  unfolding read_blocks blocks_image_in
  blocks_sound zero p n b s xs t e = λ c u v. absurd (omega arith)
  blocks_sound (suc h) p n b s xs t e =
      let w = blocks_image_in m h (suc b) ++ s in
      let q = split (read_block l p n ((word (block_word m b 0) ++ block_tail m b (block_word m b 0)) ++ w)) _ (rw (append_assoc (word (block_word m b 0) ++ block_tail m b (block_word m b 0)) (blocks_image_in m h (suc b)) s) at e) in
      let a = block_read p n b w q.value q.rest q.first in
      let p' = p + block_commands q.value in
      let n' = n + block_nodes q.value in
      let q' = split (read_blocks l h p' n' w) (λ ys u. got (q.value ∷ ys) u) (rw a.rest at q.then) in
      from_first (SoundBlock m) h b a.holds (blocks_sound h p' n' (suc b) s q'.value q'.rest q'.first)

-- a record whose image is read is sound
pub read_sound : (c n : ℕ) (m : Memory) (bs : List Block) (r : List ℕ) → read_within c n (record_image m) ≡ got bs r → Sound m
unfolding read_within record_image
read_sound c n m bs r p =
    let k = m.count in
    let q = number_known wide k (blocks_image_in m k 0) (λ b r. cond (leb b block_limit) (onward (read_blocks (limits b c n) b 0 0 r) ended) (refused over_limit)) p in
    let g = (passed (leb k block_limit) (onward (read_blocks (limits k c n) k 0 0 (blocks_image_in m k 0)) ended) over_limit bs r q.1).1 in
    let e : onward (read_blocks (limits k c n) k 0 0 (blocks_image_in m k 0 ++ [])) ended ≡ got bs r = rw append-nil g in
    let u = split (read_blocks (limits k c n) k 0 0 (blocks_image_in m k 0 ++ [])) ended e in
    let s = blocks_sound (limits k c n) m k 0 0 0 [] u.value u.rest u.first in
    record { block = λ b h. s b (omega arith) (omega arith) }

-- what the judgement of an accepted record gives: the blocks that stand in it, and nothing left
pub record JudgedSound (m : Memory) (bs : List Block) (r : List ℕ) : Type 0 where
  pub sound : Sound m
  pub image_is : record_image m ≡ image bs
  pub blocks_are : (script_of m).blocks ≡ bs
  pub all : r ≡ []

pub judged_sound : (m : Memory) (bs : List Block) (r : List ℕ) → judged_record m ≡ got bs r → JudgedSound m bs r
unfolding judged_record
judged_sound m bs r p =
    let c = m.coded.count in
    let n = m.coded.nodes.count in
    let q = (passed (kept_ok m) (read_within c n (record_image m)) over_limit bs r p).1 in
    let s = read_sound c n m bs r q in
    let e = same_read c n (script_of m).blocks bs r (subst (λ (u : List ℕ). read_within c n u ≡ got bs r) (sound_image m s) q) in
    record {
      sound = s;
      image_is = (write_image c n (record_image m) bs r q).bytes;
      blocks_are = sym e;
      all = (write_image c n (record_image m) bs r q).all;
    }

-- the judgement never refuses with 0
pub proper_record : (m : Memory) → Proper (judged_record m)
unfolding judged_record
proper_record m =
    proper_cond (kept_ok m) (read_within m.coded.count m.coded.nodes.count (record_image m)) (refused over_limit)
    (proper_within m.coded.count m.coded.nodes.count (record_image m)) (omega arith)
