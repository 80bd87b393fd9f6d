-- The sweep over the words of a script is that of the definition on its blocks. Assumes nothing.
use Rattle.std.specs.Prelude.{◌≡◌, refl, Bool, true, false, ◌&&◌, List, [], ◌∷◌, ltb, ℤ, get_or, replicate}
use Rattle.std.proofs.Math.Path.{sym}
use Rattle.std.proofs.Common.{ap, ◌∙◌, arith, lt-ltb}
use Prim.Native.Nat.{ℕ, zero, suc, ◌-◌, ◌≤◌, ◌<◌}
use Rattle.model.specs.Limits.{block_limit}
use Rattle.model.specs.Sheet.{all}
use Rattle.model.specs.Script.{Block, block_at}
use Rattle.model.specs.Memory.{Memory, memory_in, script_of}
use Rattle.memory.specs.Transfer.{blocks_counted}
use Rattle.reclaim_model.specs.Rename.{links_of, Every}
use Rattle.reclaim_model.specs.Reclaim.{mark_roots}
use Rattle.reclaim_reach.specs.Words.{links_at, Safe}
use Rattle.reclaim_reach.specs.Marks.{blocks_of, links_in}
use Rattle.lanes_model.specs.Falls.{falls_at, marks_after, sweep, falls}
use Rattle.lanes_model.proofs.Laws.Falls.{falls_any}
use Rattle.lanes_falls.specs.Marking.{Fits, Marking}

-- what falls_from answers, whatever the expressions
abbrev pub FallsFrom : List ℕ → List ℕ → ℕ → ℕ → Bool → Type 0
FallsFrom cw bw blocks b r = (ws : List ℕ) (val : List ℤ) (n c : ℕ) → r ≡ falls (script_of (memory_in ws val cw bw n c blocks)).blocks b

-- ---- the loop, n blocks being still to be looked at

module _ (cw bw : List ℕ) (blocks : ℕ) where
  abbrev words : Memory
  words = memory_in [] [] cw bw 0 0 blocks

  pub record Sweeps (n : ℕ) (ms₀ ms : List Bool) : Type 0 where
    pub low : n ≤ blocks
    pub is : sweep (blocks_of cw bw blocks) blocks ms₀ ≡ sweep (blocks_of cw bw blocks) n ms

  pub sweeps_done : (n : ℕ) (ms₀ ms : List Bool) → Sweeps n ms₀ ms → n ≤ 0 → true ≡ sweep (blocks_of cw bw blocks) blocks ms₀
  unfolding sweep
  sweeps_done zero ms₀ ms s l = sym s.is
  sweeps_done (suc n) ms₀ ms s l = absurd (omega arith)

  -- b is the number of the block whose turn it is, as an index
  module _ (n : ℕ) {ms₀ ms : List Bool} {b : ℕ} (s : Sweeps n ms₀ ms) (l : 0 < n) (at : b ≡ n - 1) where
    one_swept : sweep (blocks_of cw bw blocks) blocks ms₀ ≡ falls_at (blocks_of cw bw blocks) (n - 1) ms && sweep (blocks_of cw bw blocks) (n - 1) (marks_after (blocks_of cw bw blocks) (n - 1) ms)
    one_swept = s.is ∙ by n (omega arith)
      where
        by : (j : ℕ) → j ≡ suc (n - 1) → sweep (blocks_of cw bw blocks) j ms ≡ falls_at (blocks_of cw bw blocks) (n - 1) ms && sweep (blocks_of cw bw blocks) (n - 1) (marks_after (blocks_of cw bw blocks) (n - 1) ms)
        by j e = unfold sweep in rw (e, sweep)

    links_here : links_of (block_at (blocks_of cw bw blocks) (n - 1)) ≡ links_at cw bw (n - 1)
    links_here = links_in words (n - 1) (omega (arith, s.low))

    -- no mark there
    pub sweeps_past : get_or ms b false ≡ false → Sweeps (n - 1) ms₀ ms
    sweeps_past e = record { low = omega (arith, s.low); is = one_swept ∙ rw (rw at at e) }

    module _ (e : get_or ms b false ≡ true) {r : Bool} {ms' : List Bool} (g : Marking (n - 1) (links_at cw bw b) ms r ms') where
      here : Marking (n - 1) (links_at cw bw (n - 1)) ms r ms'
      here = rw at at g

      marked_swept : sweep (blocks_of cw bw blocks) blocks ms₀ ≡ r && sweep (blocks_of cw bw blocks) (n - 1) (mark_roots (links_at cw bw (n - 1)) ms)
      marked_swept = one_swept ∙ rw (rw at at e, links_here, here.is)

      pub sweeps_on : r ≡ true → Sweeps (n - 1) ms₀ ms'
      sweeps_on t = record { low = omega (arith, s.low); is = marked_swept ∙ rw (t, here.marks t) }

      pub sweeps_out : r ≡ false → false ≡ sweep (blocks_of cw bw blocks) blocks ms₀
      sweeps_out t = sym (marked_swept ∙ rw t)

-- ---- what the loop asks for

module _ {cw bw : List ℕ} {blocks n b : ℕ} {ms₀ ms : List Bool} (safe : Safe cw bw blocks) (s : Sweeps cw bw blocks n ms₀ ms) (l : 0 < n) (at : b ≡ n - 1) where
  pub sweep_room : b < block_limit
  sweep_room = omega (arith, s.low, safe.few)

  pub sweep_asks : (n - 1 ≤ block_limit) × (b < block_limit) × Fits bw b
  sweep_asks = (omega (arith, s.low, safe.few), sweep_room, safe.fits b (omega (arith, s.low)))

-- ---- with the setup block

every_lower : (n : ℕ) (ks : List ℕ) → Every (λ k. k < n) ks → all (λ k. ltb k n) ks ≡ true
every_lower n [] a = refl
every_lower n (k ∷ ks) a = rw (lt-ltb k n a.0, every_lower n ks a.1)

-- the sweep asks for nothing but links
sweep_same : (m m' : Memory) → m.coded.words ≡ m'.coded.words → m.words ≡ m'.words → m.count ≡ m'.count → (n : ℕ) (ms : List Bool) → n ≤ m.count → sweep (script_of m).blocks n ms ≡ sweep (script_of m').blocks n ms
unfolding sweep
sweep_same m m' c w k zero ms l = refl
sweep_same m m' c w k (suc n) ms l =
    let e : links_of (block_at (script_of m).blocks n) ≡ links_of (block_at (script_of m').blocks n)
    = links_in m n (omega arith) ∙ (λ i. links_at (c i) (w i) n) ∙ sym (links_in m' n (omega arith)) in
    rw (e, sweep_same m m' c w k n (marks_after (script_of m').blocks n ms) (omega arith))

pub swept_from : (cw bw : List ℕ) (blocks b : ℕ) → Safe cw bw blocks → b < blocks → {ms ms' : List Bool} {t r : Bool} → ms ≡ replicate block_limit false
    → Marking blocks (links_at cw bw b) ms t ms' → r ≡ sweep (blocks_of cw bw blocks) blocks ms' → FallsFrom cw bw blocks b r
swept_from cw bw blocks b safe l {ms} {ms'} {t} {r} none g e ws val n c =
    let m : Memory = memory_in ws val cw bw n c blocks in
    let bs : List Block = (script_of m).blocks in
    let start : ms' ≡ mark_roots (links_of (block_at bs b)) (replicate block_limit false)
    = g.marks (g.is ∙ every_lower blocks (links_at cw bw b) (safe.inside b l)) ∙ rw (none, links_in m b l) in
    e ∙ sweep_same (memory_in [] [] cw bw 0 0 blocks) m refl refl refl blocks ms' (omega arith)
    ∙ ap (sweep bs blocks) start
    ∙ ap (λ (j : ℕ). sweep bs j (mark_roots (links_of (block_at bs b)) (replicate block_limit false))) (sym (blocks_counted m))
    ∙ falls_any bs b block_limit (omega (arith, blocks_counted m, safe.few))
