-- Steps of the loops, and that what they leave is the survivors' words with their links followed. Assumes nothing.
use Rattle.std.specs.Prelude.{◌≡◌, Bool, true, false, ℕ, zero, suc, ◌+◌, ◌-◌, ◌*◌, ◌≤◌, ◌<◌, get_or}
use Rattle.std.proofs.Math.Path.{refl, ap, ap₂}
use Rattle.std.proofs.Common.{◌∙◌, arith, add-one, lt-ltb, le-ltb}
use mathlib.Core.List.{List}
use Rattle.std.proofs.Math.ListN.{set}
use Rattle.model.specs.Limits.{block_limit, command_limit}
use Rattle.model.specs.Memory.{block_words}
use Rattle.reclaim_record.specs.Packed.{follow_code, follow_link}
use Rattle.reclaim_pack.specs.Table.{plus_if, rank_to, ranks_to, table_rank, followed_at, followed_to, packed_at, packed_to}

-- ---- the table

pub rank_low : (live : List Bool) (n : ℕ) → rank_to live n ≤ n
unfolding rank_to
rank_low live zero = omega arith
rank_low live (suc n) = by (get_or live n false) (rank_low live n)
  where
    by : (b : Bool) → rank_to live n ≤ n → plus_if (rank_to live n) b ≤ suc n
    by true l = omega arith
    by false l = omega arith

-- after b blocks
pub record Numbering (live : List Bool) (blocks end : ℕ) (rk₀ rk : List ℕ) (n b : ℕ) : Type 0 where
  pub end_is : end ≡ blocks
  pub few : blocks ≤ block_limit
  pub upto : b ≤ blocks
  pub count : n ≡ rank_to live b
  pub table : rk ≡ ranks_to live b rk₀

module _ (live : List Bool) (blocks end : ℕ) (rk₀ : List ℕ) where
  pub number_start : end ≡ blocks → blocks ≤ block_limit → Numbering live blocks end rk₀ rk₀ 0 0
  unfolding rank_to ranks_to
  number_start e l = record { end_is = e; few = l; upto = omega arith; count = refl; table = refl }

  module _ (rk : List ℕ) (n b : ℕ) (t : Numbering live blocks end rk₀ rk n b) where
    pub number_room : b < end → (b < block_limit) × (n < block_limit)
    number_room l = (omega (arith, t.end_is, t.few), omega (arith, t.end_is, t.few, t.count, rank_low live b))

    pub number_next : b < end → (n' : ℕ) → n' ≡ plus_if n (get_or live b false) → Numbering live blocks end rk₀ (set rk b n) n' (b + 1)
    unfolding rank_to ranks_to
    number_next l n' e = rw (add-one b) (record {
      end_is = t.end_is;
      few = t.few;
      upto = omega (arith, t.end_is);
      count = e ∙ ap (λ (k : ℕ). plus_if k (get_or live b false)) t.count;
      table = ap₂ (λ (r : List ℕ) (k : ℕ). set r b k) t.table t.count;
    })

    pub number_end : end ≤ b → (rk ≡ ranks_to live blocks rk₀) × (n ≡ rank_to live blocks)
    number_end l = let e : b ≡ blocks = omega (arith, t.end_is, t.upto) in (t.table ∙ ap (λ (k : ℕ). ranks_to live k rk₀) e, t.count ∙ ap (rank_to live) e)

pub table_in : (rk : List ℕ) (n total t i : ℕ) → i ≡ t → t < n → get_or rk i 0 ≡ table_rank rk n total t
unfolding table_rank
table_in rk n total t i e l = rw (lt-ltb t n l, e)

pub table_out : (rk : List ℕ) (n total t : ℕ) → n ≤ t → total ≡ table_rank rk n total t
unfolding table_rank
table_out rk n total t l = rw (le-ltb t n l)

-- ---- targets

pub record Following (f : ℕ → ℕ) (commands end : ℕ) (cw₀ cw : List ℕ) (i : ℕ) : Type 0 where
  pub end_is : end ≡ commands
  pub few : commands ≤ command_limit
  pub upto : i ≤ commands
  pub words : cw ≡ followed_to f i cw₀

module _ (f : ℕ → ℕ) (commands end : ℕ) (cw₀ : List ℕ) where
  pub follow_start : end ≡ commands → commands ≤ command_limit → Following f commands end cw₀ cw₀ 0
  unfolding followed_to
  follow_start e l = record { end_is = e; few = l; upto = omega arith; words = refl }

  module _ (cw : List ℕ) (i : ℕ) (t : Following f commands end cw₀ cw i) where
    pub follow_next : i < end → (r : ℕ) → r ≡ follow_code f (get_or cw (4 * i) 0) (get_or cw (4 * i + 3) 0) → Following f commands end cw₀ (set cw (4 * i + 3) r) (i + 1)
    unfolding followed_to followed_at
    follow_next l r e = rw (add-one i) (record {
      end_is = t.end_is;
      few = t.few;
      upto = omega (arith, t.end_is);
      words = ap (set cw (4 * i + 3)) e ∙ ap (λ (w : List ℕ). set w (4 * i + 3) (follow_code f (get_or w (4 * i) 0) (get_or w (4 * i + 3) 0))) t.words;
    })

    pub follow_end : end ≤ i → cw ≡ followed_to f commands cw₀
    follow_end l = let e : i ≡ commands = omega (arith, t.end_is, t.upto) in t.words ∙ ap (λ (k : ℕ). followed_to f k cw₀) e

-- ---- blocks

pub link_0 : (f : ℕ → ℕ) (w : ℕ) → w ≡ 0 → 0 ≡ follow_link f w
unfolding follow_link
link_0 f w e = rw e

pub link_more : (f : ℕ → ℕ) (w k : ℕ) → (w ≡ 0 → ⊥) → k ≡ f (w - 1) → k + 1 ≡ follow_link f w
unfolding follow_link
link_more f zero k n e = absurd (n refl)
link_more f (suc w) k n e = add-one k ∙ ap suc (e ∙ ap f (omega arith))

pub packed_none : (f : ℕ → ℕ) (live : List Bool) (bw : List ℕ) (i b : ℕ) → i ≡ b → get_or live i false ≡ false → bw ≡ packed_at f live bw b
unfolding packed_at
packed_none f live bw i b q e = rw (← q, e)

pub packed_one : (f : ℕ → ℕ) (live : List Bool) (bw bw' : List ℕ) (i b p nx el : ℕ) → i ≡ b → get_or live i false ≡ true → p ≡ f b
    → nx ≡ follow_link f (get_or bw (5 * i + 3) 0) → el ≡ follow_link f (get_or bw (5 * i + 4) 0)
    → bw' ≡ block_words bw p (get_or bw (5 * i) 0) (get_or bw (5 * i + 1) 0) (get_or bw (5 * i + 2) 0) nx el → bw' ≡ packed_at f live bw b
unfolding packed_at
packed_one f live bw bw' i b p nx el q e r s u w = rw (← q, e) (w ∙ rw (r, s, u, q))

pub packed_next : (f : ℕ → ℕ) (live : List Bool) (bw₀ bw bw' : List ℕ) (b : ℕ) → bw ≡ packed_to f live b bw₀ → bw' ≡ packed_at f live bw b → bw' ≡ packed_to f live (b + 1) bw₀
unfolding packed_to
packed_next f live bw₀ bw bw' b e q = rw (add-one b) (q ∙ ap (λ (w : List ℕ). packed_at f live w b) e)

pub packed_end : (f : ℕ → ℕ) (live : List Bool) (bw₀ bw : List ℕ) (b n : ℕ) → b ≡ n → bw ≡ packed_to f live b bw₀ → bw ≡ packed_to f live n bw₀
packed_end f live bw₀ bw b n e q = q ∙ ap (λ (k : ℕ). packed_to f live k bw₀) e
