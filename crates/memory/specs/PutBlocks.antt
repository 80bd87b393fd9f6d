-- Blocks that were appended, and a block that was emptied and linked: the record stays sound, and its script is what it was, so changed. Assumes nothing.
use Rattle.std.specs.Prelude.{◌≡◌, Bool, true, false, List, [], ◌∷◌, ◌++◌, eqb, get_or, set, length}
use Rattle.std.proofs.Math.Path.{refl, ap, subst, subst₂}
use Rattle.std.proofs.Common.{ap₂, sym, ◌∙◌, append_assoc, append-nil, arith, eqb-true, length-set, get_or-set_same, get_or-set_other}
use Rattle.std.proofs.Math.Option.{Option, none, some}
use Prim.Native.Nat.{ℕ, zero, suc, ◌+◌, ◌*◌, ◌≤◌, ◌<◌}
use Rattle.std.proofs.lemmas.Bool.{eqb-false}
use Rattle.model.specs.Limits.{block_limit, command_limit, node_limit}
use Rattle.model.specs.Script.{Block, placeholder, code, data_block, block_commands, block_nodes, sum_of}
use Rattle.model.specs.Memory.{Coded, Memory, commands_in, block_word, link_in, block_by, block_in, blocks_in, script_of, put_commands, block_words, link_word, push_block, put_block, put_blocks, redirect_in}
use Rattle.model.specs.Compile.{redirect}
use Rattle.memory.specs.Sound.{SoundCommands, SoundKind, SoundBlock, Sound, LongCoded, Long, Room}
use Rattle.memory.specs.PutCommands.{GrownCoded, coded_same, command_frame, commands_stay, put_commands_lem}

-- ---- a block whose words are as they were, over commands that may have grown

module _ (s t : Memory) (g : GrownCoded s.coded t.coded) (b : ℕ) (e : (j : ℕ) → j < 5 → block_word t b j ≡ block_word s b j) where
  kind_frame : (k : ℕ) → SoundKind s b k → SoundKind t b k
  unfolding SoundKind
  kind_frame zero h = tt
  kind_frame (suc zero) h =
      subst₂ (λ (x y : ℕ). SoundCommands t.coded x y) (sym (e 2 (omega arith))) (sym (e 1 (omega arith))) (λ c l u. command_frame s.coded t.coded g c (h c l u))
  kind_frame (suc (suc zero)) h = tt
  kind_frame (suc (suc (suc k))) h = absurd h

  kind_stays : (k : ℕ) → SoundKind s b k → block_by t b k ≡ block_by s b k
  unfolding SoundKind block_by
  kind_stays zero h = refl
  kind_stays (suc zero) h =
      rw (e 1 (omega arith), e 2 (omega arith), e 3 (omega arith), e 4 (omega arith), commands_stay s.coded t.coded g (block_word s b 2) (block_word s b 1) h)
  kind_stays (suc (suc k)) h = refl

  pub block_frame : SoundBlock s b → SoundBlock t b
  block_frame h = subst (SoundKind t b) (sym (e 0 (omega arith))) (kind_frame (block_word s b 0) h)

  pub block_stays : SoundBlock s b → block_in t b ≡ block_in s b
  unfolding block_in
  block_stays h = ap (block_by t b) (e 0 (omega arith)) ∙ kind_stays (block_word s b 0) h

-- ---- lists of blocks

pub blocks_stay : (s t : Memory) (h b : ℕ) → ((j : ℕ) → b ≤ j → j < b + h → block_in t j ≡ block_in s j) → blocks_in t h b ≡ blocks_in s h b
unfolding blocks_in
blocks_stay s t zero b f = refl
blocks_stay s t (suc h) b f = ap₂ (λ (x : Block) (xs : List Block). x ∷ xs) (f b (omega arith) (omega arith)) (blocks_stay s t h (suc b) (λ j l u. f j (omega arith) (omega arith)))

pub blocks_last : (m : Memory) (h b : ℕ) → blocks_in m (suc h) b ≡ blocks_in m h b ++ (block_in m (b + h) ∷ [])
unfolding blocks_in
blocks_last m zero b = let e : b + 0 ≡ b = omega arith in rw e
blocks_last m (suc h) b = let e : suc b + h ≡ b + suc h = omega arith in ap (λ (xs : List Block). block_in m b ∷ xs) (blocks_last m h (suc b) ∙ rw e)

pub blocks_set : (s t : Memory) (h b i : ℕ) (y : Block) → i < h → block_in t (b + i) ≡ y → ((j : ℕ) → b ≤ j → j < b + h → (j ≡ b + i → ⊥) → block_in t j ≡ block_in s j)
    → blocks_in t h b ≡ set (blocks_in s h b) i y
unfolding blocks_in
blocks_set s t zero b i y l e f = absurd (omega arith)
blocks_set s t (suc h) b zero y l e f =
    let z : b + 0 ≡ b = omega arith in
    ap₂ (λ (x : Block) (xs : List Block). x ∷ xs) (ap (block_in t) (sym z) ∙ e) (blocks_stay s t h (suc b) (λ j u v. f j (omega arith) (omega arith) (λ x. omega arith)))
blocks_set s t (suc h) b (suc i) y l e f =
    let z : suc b + i ≡ b + suc i = omega arith in
    ap₂ (λ (x : Block) (xs : List Block). x ∷ xs) (f b (omega arith) (omega arith) (λ x. omega arith))
    (blocks_set s t h (suc b) i y (omega arith) (ap (block_in t) z ∙ e) (λ j u v n. f j (omega arith) (omega arith) (λ x. n (x ∙ sym z))))

-- ---- one block more, or another in its place

-- what stands in it
pub record FiveWords (w : List ℕ) (b k f h nx el : ℕ) : Type 0 where
  pub kind : get_or w (5 * b + 0) 0 ≡ k
  pub first : get_or w (5 * b + 1) 0 ≡ f
  pub held : get_or w (5 * b + 2) 0 ≡ h
  pub next : get_or w (5 * b + 3) 0 ≡ nx
  pub else : get_or w (5 * b + 4) 0 ≡ el

module _ (w : List ℕ) (b k f h nx el : ℕ) where
  pub five_long : length (block_words w b k f h nx el) ≡ length w
  five_long =
      length-set (set (set (set (set w (5 * b) k) (5 * b + 1) f) (5 * b + 2) h) (5 * b + 3) nx) (5 * b + 4) el
      ∙ length-set (set (set (set w (5 * b) k) (5 * b + 1) f) (5 * b + 2) h) (5 * b + 3) nx
      ∙ length-set (set (set w (5 * b) k) (5 * b + 1) f) (5 * b + 2) h
      ∙ length-set (set w (5 * b) k) (5 * b + 1) f
      ∙ length-set w (5 * b) k

  -- the other blocks
  pub five_other : (c j : ℕ) → (c ≡ b → ⊥) → j < 5 → get_or (block_words w b k f h nx el) (5 * c + j) 0 ≡ get_or w (5 * c + j) 0
  five_other c j n l =
      get_or-set_other (set (set (set (set w (5 * b) k) (5 * b + 1) f) (5 * b + 2) h) (5 * b + 3) nx) (5 * b + 4) (5 * c + j) el 0 (omega arith)
      ∙ get_or-set_other (set (set (set w (5 * b) k) (5 * b + 1) f) (5 * b + 2) h) (5 * b + 3) (5 * c + j) nx 0 (omega arith)
      ∙ get_or-set_other (set (set w (5 * b) k) (5 * b + 1) f) (5 * b + 2) (5 * c + j) h 0 (omega arith)
      ∙ get_or-set_other (set w (5 * b) k) (5 * b + 1) (5 * c + j) f 0 (omega arith)
      ∙ get_or-set_other w (5 * b) (5 * c + j) k 0 (omega arith)

  pub five_hold : 5 * b + 4 < length w → FiveWords (block_words w b k f h nx el) b k f h nx el
  five_hold l =
      let i = 5 * b in
      let w₁ = set w (5 * b) k in
      let w₂ = set (set w (5 * b) k) (5 * b + 1) f in
      let w₃ = set (set (set w (5 * b) k) (5 * b + 1) f) (5 * b + 2) h in
      let w₄ = set (set (set (set w (5 * b) k) (5 * b + 1) f) (5 * b + 2) h) (5 * b + 3) nx in
      let l₁ : length w₁ ≡ length w = length-set w i k in
      let l₂ : length w₂ ≡ length w = length-set w₁ (i + 1) f ∙ l₁ in
      let l₃ : length w₃ ≡ length w = length-set w₂ (i + 2) h ∙ l₂ in
      let l₄ : length w₄ ≡ length w = length-set w₃ (i + 3) nx ∙ l₃ in
      let e : 5 * b + 0 ≡ 5 * b = omega arith in
      record {
        kind = ap (λ (j : ℕ). get_or (block_words w b k f h nx el) j 0) e
            ∙ get_or-set_other w₄ (i + 4) i el 0 (omega arith)
            ∙ get_or-set_other w₃ (i + 3) i nx 0 (omega arith)
            ∙ get_or-set_other w₂ (i + 2) i h 0 (omega arith)
            ∙ get_or-set_other w₁ (i + 1) i f 0 (omega arith)
            ∙ get_or-set_same w i k 0 (omega arith);
        first = get_or-set_other w₄ (i + 4) (i + 1) el 0 (omega arith)
            ∙ get_or-set_other w₃ (i + 3) (i + 1) nx 0 (omega arith)
            ∙ get_or-set_other w₂ (i + 2) (i + 1) h 0 (omega arith)
            ∙ get_or-set_same w₁ (i + 1) f 0 (omega arith);
        held = get_or-set_other w₄ (i + 4) (i + 2) el 0 (omega arith)
            ∙ get_or-set_other w₃ (i + 3) (i + 2) nx 0 (omega arith)
            ∙ get_or-set_same w₂ (i + 2) h 0 (omega arith);
        next = get_or-set_other w₄ (i + 4) (i + 3) el 0 (omega arith)
            ∙ get_or-set_same w₃ (i + 3) nx 0 (omega arith);
        else = get_or-set_same w₄ (i + 4) el 0 (omega arith);
      }

-- a block of code, from its words
module _ (m : Memory) (b f h nx el : ℕ) (w : FiveWords m.words b 1 f h nx el) where
  code_sound : SoundCommands m.coded h f → SoundBlock m b
  unfolding SoundKind
  code_sound s = subst (SoundKind m b) (sym w.kind) (subst₂ (λ (x y : ℕ). SoundCommands m.coded x y) (sym w.held) (sym w.first) s)

  code_is : block_in m b ≡ code (commands_in m.coded h f) (link_in nx) (link_in el)
  unfolding block_in block_by
  code_is = ap (block_by m b) w.kind ∙ rw (w.held, w.first, w.next, w.else)

link_is : (x : Option ℕ) → link_in (link_word x) ≡ x
link_is none = refl
link_is (some k) = refl

pub record PutOneBlock (s : Memory) (x : Block) (t : Memory) : Type 0 where
  pub counted : t.count ≡ s.count + 1
  pub commands_counted : t.coded.count ≡ s.coded.count + block_commands x
  pub nodes_counted : t.coded.nodes.count ≡ s.coded.nodes.count + block_nodes x
  pub coded : GrownCoded s.coded t.coded
  pub words : (b j : ℕ) → b < s.count → j < 5 → block_word t b j ≡ block_word s b j
  pub long : Long t
  pub sound : SoundBlock t s.count
  pub is : block_in t s.count ≡ x

-- from the words that were pushed, over commands that may have grown
pushed_block : (s : Memory) (co : Coded) (k f h nx el : ℕ) (x : Block) → Long s → LongCoded co → GrownCoded s.coded co → s.count < block_limit
    → co.count ≡ s.coded.count + block_commands x → co.nodes.count ≡ s.coded.nodes.count + block_nodes x
    → (FiveWords (push_block s co k f h nx el).words s.count k f h nx el → SoundBlock (push_block s co k f h nx el) s.count × (block_in (push_block s co k f h nx el) s.count ≡ x))
    → PutOneBlock s x (push_block s co k f h nx el)
pushed_block s co k f h nx el x g lc gc l cc nc r =
    let gw = g.words in
    let n = s.count in
    let q = r (five_hold s.words n k f h nx el (omega arith)) in
    record {
      counted = refl;
      commands_counted = cc;
      nodes_counted = nc;
      coded = gc;
      words = λ b j u v. five_other s.words n k f h nx el b j (λ e. omega arith) v;
      long = record { coded = lc; words = five_long s.words n k f h nx el ∙ gw };
      sound = q.0;
      is = q.1;
    }

-- a block that is no code
plain_sound : (m : Memory) (b k : ℕ) → block_word m b 0 ≡ k → SoundKind m b k → SoundBlock m b
plain_sound m b k e h = subst (SoundKind m b) (sym e) h

plain_is : (m : Memory) (b k : ℕ) → block_word m b 0 ≡ k → block_in m b ≡ block_by m b k
unfolding block_in
plain_is m b k e = ap (block_by m b) e

pub put_block_lem : (s : Memory) (x : Block) → Long s → s.count < block_limit → s.coded.count + block_commands x ≤ command_limit → s.coded.nodes.count + block_nodes x ≤ node_limit
    → PutOneBlock s x (put_block s x)
unfolding put_block block_commands block_nodes SoundKind block_by
put_block_lem s placeholder g l c n =
    pushed_block s s.coded 0 0 0 0 0 placeholder g g.coded (coded_same s.coded) l (omega arith) (omega arith)
    (λ w. let m = push_block s s.coded 0 0 0 0 0 in (plain_sound m s.count 0 w.kind tt, plain_is m s.count 0 w.kind))
put_block_lem s (code cs nx el) g l c n =
    let co = put_commands s.coded cs in
    let f = s.coded.count in
    let p = put_commands_lem s.coded cs g.coded c n in
    pushed_block s co 1 f (length cs) (link_word nx) (link_word el) (code cs nx el) g p.long p.grown l p.counted p.nodes_counted
    (λ w. let m = push_block s co 1 f (length cs) (link_word nx) (link_word el) in (
      code_sound m s.count f (length cs) (link_word nx) (link_word el) w p.sound,
      code_is m s.count f (length cs) (link_word nx) (link_word el) w ∙ rw (p.are, link_is nx, link_is el),
    ))
put_block_lem s data_block g l c n =
    pushed_block s s.coded 2 0 0 0 0 data_block g g.coded (coded_same s.coded) l (omega arith) (omega arith)
    (λ w. let m = push_block s s.coded 2 0 0 0 0 in (plain_sound m s.count 2 w.kind tt, plain_is m s.count 2 w.kind))

-- the record stays sound, and its script has the block more
one_sound : (s : Memory) (x : Block) (t : Memory) → Sound s → PutOneBlock s x t → Sound t
one_sound s x t h p = record { block = λ b l. go b l (eqb b s.count) refl }
  where
    go : (b : ℕ) → b < t.count → (y : Bool) → eqb b s.count ≡ y → SoundBlock t b
    go b l true e = subst (SoundBlock t) (sym (eqb-true b s.count e)) p.sound
    go b l false e =
        let n = eqb-false b s.count e in
        let c = p.counted in
        let u : b < s.count = omega arith in
        block_frame s t p.coded b (λ j v. p.words b j u v) (h.block b u)

one_more_lem : (s : Memory) (x : Block) (t : Memory) → Sound s → PutOneBlock s x t → (script_of t).blocks ≡ (script_of s).blocks ++ (x ∷ [])
unfolding script_of
one_more_lem s x t h p =
    let c = p.counted in
    let n = s.count in
    let e : t.count ≡ suc n = omega arith in
    let z : 0 + n ≡ n = omega arith in
    ap (λ (k : ℕ). blocks_in t k 0) e
    ∙ blocks_last t n 0
    ∙ ap₂ (λ (xs : List Block) (y : Block). xs ++ (y ∷ []))
    (blocks_stay s t n 0 (λ j u v. block_stays s t p.coded j (λ i l. p.words j i (omega arith) l) (h.block j (omega arith))))
    (ap (block_in t) z ∙ p.is)

-- ---- blocks more

pub record PutSound (s : Memory) (xs : List Block) (t : Memory) : Type 0 where
  pub counted : t.count ≡ s.count + length xs
  pub commands_counted : t.coded.count ≡ s.coded.count + sum_of block_commands xs
  pub nodes_counted : t.coded.nodes.count ≡ s.coded.nodes.count + sum_of block_nodes xs
  pub long : Long t
  pub sound : Sound t
  pub blocks_are : (script_of t).blocks ≡ (script_of s).blocks ++ xs

pub put_sound : (m : Memory) (xs : List Block) → Sound m → Long m → Room m xs → PutSound m xs (put_blocks m xs)
unfolding put_blocks
put_sound m [] h g r =
    record { counted = omega arith; commands_counted = omega arith; nodes_counted = omega arith; long = g; sound = h; blocks_are = sym (append-nil (script_of m).blocks) }
put_sound m (x ∷ xs) h g r =
    let rb = r.blocks in
    let rc = r.commands in
    let rn = r.nodes in
    let u = put_block m x in
    let p = put_block_lem m x g (omega arith) (omega arith) (omega arith) in
    let pb = p.counted in
    let pc = p.commands_counted in
    let pn = p.nodes_counted in
    let q = put_sound u xs (one_sound m x u h p) p.long (record { blocks = omega arith; commands = omega arith; nodes = omega arith }) in
    let qb = q.counted in
    let qc = q.commands_counted in
    let qn = q.nodes_counted in
    record {
      counted = omega arith;
      commands_counted = omega arith;
      nodes_counted = omega arith;
      long = q.long;
      sound = q.sound;
      blocks_are = q.blocks_are ∙ ap (λ (ys : List Block). ys ++ xs) (one_more_lem m x u h p) ∙ append_assoc (script_of m).blocks (x ∷ []) xs;
    }

-- ---- a block emptied and linked

pub record RedirectSound (s : Memory) (b k : ℕ) (t : Memory) : Type 0 where
  pub counted : t.count ≡ s.count
  pub commands_counted : t.coded.count ≡ s.coded.count
  pub nodes_counted : t.coded.nodes.count ≡ s.coded.nodes.count
  pub long : Long t
  pub sound : Sound t
  pub blocks_are : (script_of t).blocks ≡ set (script_of s).blocks b (redirect k)

pub redirect_sound : (m : Memory) (b k : ℕ) → Sound m → Long m → b < m.count → b < block_limit → RedirectSound m b k (redirect_in m b k)
unfolding redirect_in script_of redirect commands_in
redirect_sound m b k h g l c =
    let gw = g.words in
    let t = redirect_in m b k in
    let w = five_hold m.words b 1 0 0 (suc k) 0 (omega arith) in
    let o : (j i : ℕ) → (j ≡ b → ⊥) → i < 5 → block_word t j i ≡ block_word m j i = five_other m.words b 1 0 0 (suc k) 0 in
    let s : SoundBlock t b = code_sound t b 0 0 (suc k) 0 w (λ c u v. absurd (omega arith)) in
    let z : 0 + b ≡ b = omega arith in
    record {
      counted = refl;
      commands_counted = refl;
      nodes_counted = refl;
      long = record { coded = g.coded; words = five_long m.words b 1 0 0 (suc k) 0 ∙ gw };
      sound = record { block = λ j u. here j u (eqb j b) refl s o };
      blocks_are = blocks_set m t m.count 0 b (code [] (some k) none) l (ap (block_in t) z ∙ code_is t b 0 0 (suc k) 0 w)
          (λ j u v n. block_stays m t (coded_same m.coded) j (λ i y. o j i (λ e. n (e ∙ sym z)) y) (h.block j (omega arith)));
    }
  where
    here : (j : ℕ) → j < m.count → (y : Bool) → eqb j b ≡ y → SoundBlock (redirect_in m b k) b
        → ((j i : ℕ) → (j ≡ b → ⊥) → i < 5 → block_word (redirect_in m b k) j i ≡ block_word m j i) → SoundBlock (redirect_in m b k) j
    here j u true e s o = subst (SoundBlock (redirect_in m b k)) (sym (eqb-true j b e)) s
    here j u false e s o = block_frame m (redirect_in m b k) (coded_same m.coded) j (λ i y. o j i (eqb-false j b e) y) (h.block j u)
