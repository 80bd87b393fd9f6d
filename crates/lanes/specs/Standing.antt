-- Which lanes stand at a block, and the highest block where one does, found by one loop each (02, A.8). Assumes nothing.
use Rattle.std.specs.Prelude.{◌≡◌, ◌⊎◌, List, ℕ, ◌+◌, ◌-◌, ◌≤◌, ◌<◌, get_or, set, length}
use Rattle.std.proofs.Common.{sym, ap, ◌∙◌, arith, get_or-set_same, get_or-set_other}
use Rattle.std.proofs.Math.Decide.{dec_le}
use Rattle.model.specs.Limits.{most_saves}

-- ---- the lanes of the first k that stand at a word

pub record Gathered (ps : List ℕ) (k word : ℕ) (ls : List ℕ) (s : ℕ) : Type 0 where
  pub few : s ≤ k
  pub low : (j : ℕ) → j < s → get_or ls j 0 < k
  pub rises : (i j : ℕ) → i < j → j < s → get_or ls i 0 < get_or ls j 0
  pub here : (j : ℕ) → j < s → get_or ps (get_or ls j 0) 0 ≡ word
  pub all : (l : ℕ) → l < k → get_or ps l 0 ≡ word → (j : ℕ) × (j < s) × (get_or ls j 0 ≡ l)

module _ (ps : List ℕ) (word : ℕ) where
  module _ {k s : ℕ} {ls : List ℕ} (long : length ls ≡ most_saves) (few : k < most_saves) (g : Gathered ps k word ls s) where
    kept : (j : ℕ) → j < s → get_or (set ls s k) j 0 ≡ get_or ls j 0
    kept j h = get_or-set_other ls s j k 0 (omega arith)

    new : get_or (set ls s k) s 0 ≡ k
    new = get_or-set_same ls s k 0 (let a = g.few in omega arith)

    one_more_lem : get_or ps k 0 ≡ word → Gathered ps (k + 1) word (set ls s k) (s + 1)
    one_more_lem e = record {
      few = let a = g.few in omega arith;
      low = λ j h. by_low j h (dec_le s j);
      rises = λ i j h l. by_rises i j h l (dec_le s j);
      here = λ j h. by_here j h (dec_le s j);
      all = λ l h p. by_all l h p (dec_le k l);
    }
      where
        by_low : (j : ℕ) → j < s + 1 → Dec (s ≤ j) → get_or (set ls s k) j 0 < k + 1
        by_low j h (yes q) = let w : j ≡ s = omega arith in rw (w, new) (omega arith)
        by_low j h (no q) = rw (kept j (omega arith)) (let a = g.low j (omega arith) in omega arith)

        by_rises : (i j : ℕ) → i < j → j < s + 1 → Dec (s ≤ j) → get_or (set ls s k) i 0 < get_or (set ls s k) j 0
        by_rises i j h l (yes q) = let w : j ≡ s = omega arith in rw (w, new, kept i (omega arith)) (g.low i (omega arith))
        by_rises i j h l (no q) = rw (kept i (omega arith), kept j (omega arith)) (g.rises i j h (omega arith))

        by_here : (j : ℕ) → j < s + 1 → Dec (s ≤ j) → get_or ps (get_or (set ls s k) j 0) 0 ≡ word
        by_here j h (yes q) = let w : j ≡ s = omega arith in rw (w, new) e
        by_here j h (no q) = rw (kept j (omega arith)) (g.here j (omega arith))

        by_all : (l : ℕ) → l < k + 1 → get_or ps l 0 ≡ word → Dec (k ≤ l) → (j : ℕ) × (j < s + 1) × (get_or (set ls s k) j 0 ≡ l)
        by_all l h p (yes q) = (s, omega arith, new ∙ omega arith)
        by_all l h p (no q) = let a = g.all l (omega arith) p in (a.0, (let b = a.1 in omega arith), kept a.0 a.1 ∙ a.2)

    none_more : (get_or ps k 0 ≡ word → ⊥) → Gathered ps (k + 1) word (set ls s k) s
    none_more n = record {
      few = let a = g.few in omega arith;
      low = λ j h. rw (kept j h) (let a = g.low j h in omega arith);
      rises = λ i j h l. rw (kept i (omega arith), kept j l) (g.rises i j h l);
      here = λ j h. rw (kept j h) (g.here j h);
      all = λ l h p. by l h p (dec_le k l);
    }
      where
        by : (l : ℕ) → l < k + 1 → get_or ps l 0 ≡ word → Dec (k ≤ l) → (j : ℕ) × (j < s) × (get_or (set ls s k) j 0 ≡ l)
        by l h p (yes q) = let w : l ≡ k = omega arith in absurd (n (ap (λ i. get_or ps i 0) (sym w) ∙ p))
        by l h p (no q) = let a = g.all l (omega arith) p in (a.0, a.1, kept a.0 a.1 ∙ a.2)

pub gathered_word : {ps : List ℕ} {k word : ℕ} {ls : List ℕ} {s : ℕ} → Gathered ps k word ls s → 0 < word → Gathered ps k (word - 1 + 1) ls s
gathered_word {word = word} g h = let e : word - 1 + 1 ≡ word = omega arith in rw e g

-- ---- the highest word that is at most top, of the first k

pub record Highest (ps : List ℕ) (top k r : ℕ) : Type 0 where
  pub low : r ≤ top
  pub most : (l : ℕ) → l < k → get_or ps l 0 ≤ top → get_or ps l 0 ≤ r
  pub is : (r ≡ 0) ⊎ ((l : ℕ) × (l < k) × (get_or ps l 0 ≡ r))

-- the higher of most and word, where word is at most top
pub record Higher (most word top r : ℕ) : Type 0 where
  pub least : most ≤ r
  pub is : (r ≡ most) ⊎ ((r ≡ word) × (word ≤ top))
  pub covers : word ≤ top → word ≤ r
