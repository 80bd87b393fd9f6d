-- The marks at the end of the queue are those of the definition, where the words are safe. Assumes nothing.
use Rattle.std.specs.Prelude.{◌≡◌, refl, Bool, true, false, ℕ, zero, suc, ◌+◌, ◌≤◌, ◌<◌, get_or, length, replicate, take}
use Rattle.std.proofs.Common.{sym, ap, ◌∙◌, subst, arith, get_or-take, length-take-le}
use mathlib.Core.List.{List, [], ◌∷◌, Memᴰ}
use Rattle.model.specs.Limits.{block_limit}
use Rattle.model.specs.Script.{Block, block_at}
use Rattle.model.specs.Memory.{Memory, memory_in, script_of}
use Rattle.memory.specs.RecordLaws.{block_at_lem}
use Rattle.memory.specs.Transfer.{blocks_counted}
use Rattle.reclaim_model.specs.Rename.{links_of, Every}
use Rattle.reclaim_model.specs.Reclaim.{reached}
use Rattle.reclaim_model.proofs.Laws.Reached.{Leads, root, onward, mark_in, every_at, marks_are, every_of}
use Rattle.reclaim_reach.specs.Words.{links_at, links_are, every_to, below_low, Safe, SafeAt}
use Rattle.reclaim_reach.specs.Queue.{Queue, queue_in, IsLive, Queued}
use Rattle.reclaim_reach.specs.Pieces.{Marking}
use Rattle.reclaim_reach.specs.Follow.{Followed, follow_start, next_is, follow_next, closed}

-- the blocks of a record with these commands and blocks, whatever its expressions: no link depends on one
abbrev pub blocks_of : List ℕ → List ℕ → ℕ → List Block
blocks_of cw bw n = (script_of (memory_in [] [] cw bw 0 0 n)).blocks

-- what is marked: of the blocks those that the roots reach, and nothing past them
pub record Reaching (cw bw : List ℕ) (n : ℕ) (rs : List ℕ) (live : List Bool) : Type 0 where
  pub is : take n live ≡ reached (blocks_of cw bw n) rs
  pub past : (b : ℕ) → n ≤ b → get_or live b false ≡ false

-- a mark that is there is there whatever stands past the end
mark_any : (ms : List Bool) (k : ℕ) → get_or ms k false ≡ true → get_or ms k true ≡ true
mark_any [] k e = refl
mark_any (m ∷ ms) zero e = e
mark_any (m ∷ ms) (suc k) e = mark_any ms k e

pub links_in : (m : Memory) (b : ℕ) → b < m.count → links_of (block_at (script_of m).blocks b) ≡ links_at m.coded.words m.words b
links_in m b l = ap links_of (block_at_lem m b l) ∙ links_are m b

-- a block that the roots lead to
abbrev pub LedTo : List ℕ → List ℕ → ℕ → List ℕ → ℕ → Type 0
LedTo cw bw n rs b = (b < n) × Leads (blocks_of cw bw n) rs b

module _ (cw bw : List ℕ) (n : ℕ) (s : Safe cw bw n) (rs : List ℕ) where
  abbrev words : Memory
  words = memory_in [] [] cw bw 0 0 n

  abbrev P : ℕ → Type 0
  P = LedTo cw bw n rs

  roots_led : Every (λ r. r < n) rs → Every (LedTo cw bw n rs) rs
  roots_led a = every_of P rs (λ k p. (every_at (λ r. r < n) rs k a p, root p))

  module _ (b : ℕ) (p : LedTo cw bw n rs b) where
    safe_at : SafeAt cw bw b
    safe_at = record { fits = s.fits b p.0; low = below_low n s.few (links_at cw bw b) (s.inside b p.0) }

    links_led : Every (LedTo cw bw n rs) (links_at cw bw b)
    links_led =
        every_of P (links_at cw bw b)
        (λ k q. (every_at (λ j. j < n) (links_at cw bw b) k (s.inside b p.0) q, onward p.1 (subst (Memᴰ k) (sym (links_in words b p.0)) q)))

  -- the roots in a queue that was empty
  pub reach_start : (live : List Bool) (todo : List ℕ) (q : Queue) → Every (λ r. r < n) rs → live ≡ replicate block_limit false → length todo ≡ block_limit → Marking (queue_in live todo 0) rs q
      → Followed (links_at cw bw) (LedTo cw bw n rs) rs 0 q
  reach_start live todo q a none l g = follow_start (links_at cw bw) P rs live todo q none l (roots_led a) (below_low n s.few rs a) g

  -- block b, whose turn it is
  module _ (done : ℕ) (q : Queue) (f : Followed (links_at cw bw) (LedTo cw bw n rs) rs done q) (l : done < q.count) (b : ℕ) (is : b ≡ get_or q.todo done 0) where
    led : LedTo cw bw n rs b
    led = subst P (sym is) (next_is (links_at cw bw) P rs done q f l)

    pub reach_asks : Queued q × (b < block_limit) × SafeAt cw bw b
    reach_asks = let u = led.0 in (f.queued, omega (arith, s.few), safe_at b led)

    pub reach_next : (r : Queue) → Marking q (links_at cw bw b) r → Followed (links_at cw bw) (LedTo cw bw n rs) rs (done + 1) r
    reach_next r g = follow_next (links_at cw bw) P rs done q f b r l is (links_led b led) (safe_at b led).low g

  module _ (done : ℕ) (q : Queue) (f : Followed (links_at cw bw) (LedTo cw bw n rs) rs done q) (end : q.count ≤ done) where
    room : n ≤ length q.live
    room = omega (arith, s.few, f.queued.long)

    on : (b : ℕ) → get_or (take n q.live) b false ≡ true → (b < n) × IsLive q b
    on b e =
        let l : b < n = omega (arith, mark_in (take n q.live) b e, length-take-le n q.live room) in
        (l, sym (get_or-take n q.live b false l) ∙ e)

    taken : (k : ℕ) → IsLive q k → get_or (take n q.live) k false ≡ true
    taken k e = get_or-take n q.live k false (f.only k e).0 ∙ e

    pub reaching : Reaching cw bw n rs q.live
    reaching = record {
      is = marks_are (blocks_of cw bw n) rs (take n q.live) (length-take-le n q.live room ∙ sym (blocks_counted words))
          (λ r p l. taken r (every_at (IsLive q) rs r f.roots p))
          (λ b e. let w = on b e in
          subst (Every (λ k. get_or (take n q.live) k true ≡ true)) (sym (links_in words b w.0))
          (every_to (IsLive q) (λ k. get_or (take n q.live) k true ≡ true) (λ k z. mark_any (take n q.live) k (taken k z)) (links_at cw bw b) (closed (links_at cw bw) P rs done q f end b w.1)))
          (λ b e. (f.only b (on b e).1).1);
      past = λ b l. by b l (get_or q.live b false) refl;
    }
      where
        by : (b : ℕ) → n ≤ b → (x : Bool) → get_or q.live b false ≡ x → x ≡ false
        by b l true e = let w = (f.only b e).0 in absurd (omega arith)
        by b l false e = refl
