-- The table as the loop fills it. Assumes nothing.
use Rattle.std.specs.Prelude.{◌≡◌, refl, Bool, true, false, List, ℕ, ◌+◌, ◌*◌, ◌≤◌, ◌<◌, ltb, ℤ, length, get_or, set}
use Rattle.std.proofs.Common.{◌∙◌, arith, length-set, get_or-set_same, get_or-set_other, ltb-true, ltb-false}
use Rattle.judge_trees.specs.Trees.{Node, two, one, imm16, imm32, other, Tree, Trees}
use Rattle.judge_trees.specs.Codes.{Before}

-- the trees of the first i of n nodes are told, in a table as long as it was; s is the size of the last one
pub record Growing (ws : List ℕ) (vs : List ℤ) (t₀ : List ℕ) (n : ℕ) (t : List ℕ) (i s : ℕ) : Type 0 where
  pub low : i ≤ n
  pub same : length t ≡ length t₀
  pub trees : Trees ws vs t i
  pub few : s ≤ i
  pub last : (j : ℕ) → j + 1 ≡ i → get_or t j 0 ≡ s

-- ---- what lies above a tree does not matter to it

module _ (ws : List ℕ) (vs : List ℤ) (t : List ℕ) (i w : ℕ) where
  node_kept : {j r : ℕ} → j ≤ i → Node ws vs t j r → Node ws vs (set t i w) j r
  node_kept {j} h (two x e A) =
      let a = A.left in
      let b = A.right in
      two x e (record { left = a; right = b; size = rw (get_or-set_other t i (get_or ws (3 * j + 1) 0) w 0 (omega arith), get_or-set_other t i (get_or ws (3 * j + 2) 0) w 0 (omega arith)) A.size })
  node_kept {j} h (one x e A) =
      let a = A.below in
      one x e (record { below = a; size = rw (get_or-set_other t i (get_or ws (3 * j + 1) 0) w 0 (omega arith)) A.size })
  node_kept h (imm16 e N) = imm16 e N
  node_kept h (imm32 e N) = imm32 e N
  node_kept h (other e z) = other e z

  tree_kept : {j r : ℕ} → j ≤ i → Tree ws vs t j r → Tree ws vs (set t i w) j r
  tree_kept h T = record { known = T.known; few = T.few; node = node_kept h T.node }

  trees_more : i < length t → Trees ws vs t i → Tree ws vs t i w → Trees ws vs (set t i w) (i + 1)
  trees_more L H S = record { long = omega (arith, length-set t i w); each = λ j h. by j h (ltb j i) refl }
    where
      by : (j : ℕ) → j < i + 1 → (b : Bool) → ltb j i ≡ b → Tree ws vs (set t i w) j (get_or (set t i w) j 0)
      by j h true e = let p = ltb-true j i e in rw (get_or-set_other t i j w 0 (omega arith)) (tree_kept (omega arith) (H.each j p))
      by j h false e =
          let q : j ≡ i = omega (arith, ltb-false j i e) in
          rw (q, get_or-set_same t i w 0 L) (tree_kept (omega arith) S)

-- ---- the loop

module _ (ws : List ℕ) (vs : List ℤ) {t₀ : List ℕ} {n : ℕ} where
  pub growing_start : Growing ws vs t₀ n t₀ 0 0
  growing_start = record { low = omega arith; same = refl; trees = record { long = omega arith; each = λ j h. absurd (omega arith) }; few = omega arith; last = λ j e. absurd (omega arith) }

  module _ {t : List ℕ} {i s : ℕ} (G : Growing ws vs t₀ n t i s) where
    pub growing_before : Before t i s
    growing_before = record { long = G.trees.long; low = G.few; each = λ j h. (G.trees.each j h).few; last = G.last }

    pub growing_more : (w : ℕ) → n ≤ length t₀ → i < n → Tree ws vs t i w → Growing ws vs t₀ n (set t i w) (i + 1) w
    growing_more w L h S =
        let a = G.same in
        record {
          low = omega arith;
          same = length-set t i w ∙ a;
          trees = trees_more ws vs t i w (omega arith) G.trees S;
          few = S.few;
          last = λ j e. let q : j ≡ i = omega arith in rw (q, get_or-set_same t i w 0 (omega arith));
        }

    pub growing_done : n ≤ i → Trees ws vs t n
    growing_done h = let e : n ≡ i = omega (arith, G.low) in rw e G.trees
