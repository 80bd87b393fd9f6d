-- What links lead to from a setup block, and whether they fall there: by paths, and by one sweep from the highest block down (02, A.8). Assumes nothing: these are definitions.
use Rattle.std.specs.Prelude.{Bool, true, false, cond, ◌&&◌, ℕ, zero, suc, ◌<◌, ltb, get_or, length, replicate}
use mathlib.Core.List.{List, Memᴰ}
use Rattle.model.specs.Sheet.{all}
use Rattle.model.specs.Script.{Block, block_at}
use Rattle.reclaim_model.specs.Rename.{links_of}
use Rattle.reclaim_model.specs.Reclaim.{mark_roots}
use Rattle.reclaim_model.proofs.Laws.Reached.{Leads}

-- ---- by paths

-- block c has a link to k, by next, else or the target of any command, also of one that no run comes to
abbrev pub Link : List Block → ℕ → ℕ → Type 0
Link bs c k = Memᴰ k (links_of (block_at bs c))

-- one or more links lead from b to c
abbrev pub LedTo : List Block → ℕ → ℕ → Type 0
LedTo bs b c = Leads bs (links_of (block_at bs b)) c

-- every block that b leads to, b itself if it is reached again, has links to lower numbers only
pub record Falls (bs : List Block) (b : ℕ) : Type 0 where
  pub lower : {c k : ℕ} → LedTo bs b c → Link bs c k → k < c

-- ---- by one sweep: a block is marked where it is led to, and n blocks are still to be looked at

-- a marked block links to lower numbers only
abbrev pub falls_at : List Block → ℕ → List Bool → Bool
falls_at bs n ms = cond (get_or ms n false) (all (λ k. ltb k n) (links_of (block_at bs n))) true

-- and what it links to is marked
abbrev pub marks_after : List Block → ℕ → List Bool → List Bool
marks_after bs n ms = cond (get_or ms n false) (mark_roots (links_of (block_at bs n)) ms) ms

-- where that holds of a block, no block above it gets a mark any more: once from the highest down is enough
unfoldable pub sweep : List Block → ℕ → List Bool → Bool
sweep bs zero ms = true
sweep bs (suc n) ms = falls_at bs n ms && sweep bs n (marks_after bs n ms)

unfoldable pub falls : List Block → ℕ → Bool
falls bs b = sweep bs (length bs) (mark_roots (links_of (block_at bs b)) (replicate (length bs) false))
