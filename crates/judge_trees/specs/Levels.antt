-- A tree that the table tells, with room for its nodes and its levels, is read fine wherever it stands. Assumes nothing.
use Rattle.std.specs.Prelude.{◌≡◌, refl, List, ℤ, pos, get_or, Ok}
use Rattle.std.proofs.Common.{sym, ◌∙◌}
use Prim.Native.Nat.{ℕ, zero, suc, ◌+◌, ◌-◌, ◌*◌, ◌≤◌, ◌<◌}
use native.Mathlib.Omega.{arith}
use Rattle.model.specs.Limits.{wide, wide16}
use Rattle.model.specs.Reading.{zig}
use Rattle.model.specs.Expr.{size}
use Rattle.model.specs.Image.{kind_of, read_expr}
use Rattle.model.specs.Memory.{nodes_in}
use Rattle.model.specs.Record.{node_image}
use Rattle.model.specs.declared.Op2.{Op2}
use Rattle.model.specs.declared.Op1.{Op1}
use Rattle.model.specs.declared.Kind.{Kind}
use Rattle.model.specs.declared.Kind.TheVariants.{Two, One, Imm16, Imm32, Other}
use Rattle.judge_terms.specs.Told.{Step, Told, imm_judged}
use Rattle.judge_terms.specs.Nodes.{imm_fine, Within, node_other, node_imm16, node_imm32, node_one, node_two}
use Rattle.judge_trees.specs.Trees.{Number, AboveOne, AboveTwo, Node, two, one, imm16, imm32, other, Trees, Operands, Shallow, Reads}

-- ---- no other kind has these operands

two_one : {A : Type 0} {x : Op2} {y : Op1} {k : Kind} → Two x ≡ k → One y ≡ k → A
two_one p q = let z : ◌≡◌ {A = ℕ} 0 1 = cc in absurd (omega arith)

leaf_only : (P : ℕ → Type 0) (ws : List ℕ) (i : ℕ) → ((x : Op2) → Two x ≡ kind_of (get_or ws (3 * i) 0) → ⊥) → ((x : Op1) → One x ≡ kind_of (get_or ws (3 * i) 0) → ⊥) → Operands P ws i
leaf_only P ws i f g = record { only = λ x e. absurd (g x e); left = λ x e. absurd (f x e); right = λ x e. absurd (f x e) }

module _ (P : ℕ → Type 0) (ws : List ℕ) (i : ℕ) where
  operands_two : (x : Op2) → Two x ≡ kind_of (get_or ws (3 * i) 0) → P (get_or ws (3 * i + 1) 0) → P (get_or ws (3 * i + 2) 0) → Operands P ws i
  operands_two x e p q = record { only = λ y f. two_one e f; left = λ y f. p; right = λ y f. q }

  operands_one : (x : Op1) → One x ≡ kind_of (get_or ws (3 * i) 0) → P (get_or ws (3 * i + 1) 0) → Operands P ws i
  operands_one x e p = record { only = λ y f. p; left = λ y f. two_one f e; right = λ y f. two_one f e }

  operands_imm16 : Imm16 ≡ kind_of (get_or ws (3 * i) 0) → Operands P ws i
  operands_imm16 e = leaf_only P ws i (λ x f. let z : ◌≡◌ {A = ℕ} 0 1 = cc in omega arith) (λ x f. let z : ◌≡◌ {A = ℕ} 0 1 = cc in omega arith)

  operands_imm32 : Imm32 ≡ kind_of (get_or ws (3 * i) 0) → Operands P ws i
  operands_imm32 e = leaf_only P ws i (λ x f. let z : ◌≡◌ {A = ℕ} 0 1 = cc in omega arith) (λ x f. let z : ◌≡◌ {A = ℕ} 0 1 = cc in omega arith)

  operands_other : Other ≡ kind_of (get_or ws (3 * i) 0) → Operands P ws i
  operands_other e = leaf_only P ws i (λ x f. let z : ◌≡◌ {A = ℕ} 0 1 = cc in omega arith) (λ x f. let z : ◌≡◌ {A = ℕ} 0 1 = cc in omega arith)

-- ---- one level more than the operands have

module _ (ws : List ℕ) (d e i : ℕ) {k : Kind} (kd : k ≡ kind_of (get_or ws (3 * i) 0)) (q : d ≡ e + 1) where
  shallow_more : Operands (Shallow ws e) ws i → Shallow ws d i
  unfolding Shallow
  shallow_more O = let z : d ≡ suc e = omega arith in rw z O

  pub shallow_two : {x : Op2} {a b : ℕ} → k ≡ Two x → a ≡ get_or ws (3 * i + 1) 0 → b ≡ get_or ws (3 * i + 2) 0 → Shallow ws e a → Shallow ws e b → Shallow ws d i
  shallow_two {x} p f g S R = shallow_more (operands_two (Shallow ws e) ws i x (sym p ∙ kd) (rw f at S) (rw g at R))

  pub shallow_one : {x : Op1} {a : ℕ} → k ≡ One x → a ≡ get_or ws (3 * i + 1) 0 → Shallow ws e a → Shallow ws d i
  shallow_one {x} p f S = shallow_more (operands_one (Shallow ws e) ws i x (sym p ∙ kd) (rw f at S))

  pub shallow_imm16 : k ≡ Imm16 → Shallow ws d i
  shallow_imm16 p = shallow_more (operands_imm16 (Shallow ws e) ws i (sym p ∙ kd))

  pub shallow_imm32 : k ≡ Imm32 → Shallow ws d i
  shallow_imm32 p = shallow_more (operands_imm32 (Shallow ws e) ws i (sym p ∙ kd))

  pub shallow_other : k ≡ Other → Shallow ws d i
  shallow_other p = shallow_more (operands_other (Shallow ws e) ws i (sym p ∙ kd))

module _ (ws : List ℕ) (vs : List ℤ) {t : List ℕ} {n : ℕ} (T : Trees ws vs t n) where
  -- ---- a tree has no more levels than nodes

  some : {i r : ℕ} → Node ws vs t i r → 0 < r
  some (two x e A) = let z = A.size in omega arith
  some (one x e A) = let z = A.size in omega arith
  some (imm16 e N) = let z = N.leaf in omega arith
  some (imm32 e N) = let z = N.leaf in omega arith
  some (other e z) = omega arith

  operands : (d i : ℕ) → i < n → get_or t i 0 ≤ suc d → Node ws vs t i (get_or t i 0) → ((j : ℕ) → j < n → get_or t j 0 ≤ d → Shallow ws d j) → Operands (Shallow ws d) ws i
  operands d i h le (two x e A) ih =
      let a = A.left in
      let b = A.right in
      let z = A.size in
      operands_two (Shallow ws d) ws i x e (ih _ (omega arith) (omega arith)) (ih _ (omega arith) (omega arith))
  operands d i h le (one x e A) ih =
      let a = A.below in
      let z = A.size in
      operands_one (Shallow ws d) ws i x e (ih _ (omega arith) (omega arith))
  operands d i h le (imm16 e N) ih = operands_imm16 (Shallow ws d) ws i e
  operands d i h le (imm32 e N) ih = operands_imm32 (Shallow ws d) ws i e
  operands d i h le (other e z) ih = operands_other (Shallow ws d) ws i e

  few_levels : (d i : ℕ) → i < n → get_or t i 0 ≤ d → Shallow ws d i
  unfolding Shallow
  few_levels zero i h le = let s = some (T.each i h).node in absurd (omega arith)
  few_levels (suc d) i h le = operands d i h le (T.each i h).node (few_levels d)

  pub few_shallow : (i : ℕ) → i < n → get_or t i 0 < 64 → Shallow ws 64 i
  few_shallow i h lt = few_levels 64 i h (omega arith)

-- ---- a node is read

-- node i with at most d levels, wherever there is room
abbrev ReadsBy : List ℕ → List ℤ → List ℕ → ℕ → ℕ → Type 0
ReadsBy ws vs t d i = (b : ℕ) → i < b → (n at o l : ℕ) → o + d ≤ 64 → n + get_or t i 0 ≤ l → Reads ws vs l b i n at o (get_or t i 0)

module _ (ws : List ℕ) (vs : List ℤ) (t : List ℕ) where
  reads_as : {l b i n at o k m to : ℕ} → n + k ≡ m → Told (read_expr l (64 - o) n) size (node_image (nodes_in ws vs l) b i) l 0 n at (Ok (m, to)) → Reads ws vs l b i n at o k
  reads_as {to = to} e p = record { to = to; told = rw e p }

  module _ (d i : ℕ) (k : Kind) (low : get_or ws (3 * i) 0 < 19) (kd : k ≡ kind_of (get_or ws (3 * i) 0)) where
    within : (b l n o : ℕ) → i < b → n < l → o < 64 → Within (nodes_in ws vs l) b i l n o k
    within b l n o h hn ho = record { below = h; known = low; room = hn; levels = ho; kind = kd }

    reads_other : k ≡ Other → get_or t i 0 ≡ 1 → ReadsBy ws vs t (suc d) i
    reads_other kk z b h n at o l ho hn =
        let e : n + get_or t i 0 ≡ n + 1 = omega arith in
        reads_as e (node_other (nodes_in ws vs l) b i l n at o k (within b l n o h (omega arith) (omega arith)) kk)

    -- a number below its limit
    reads_imm : (lim : ℕ) → lim ≤ wide
        → ((b n at o l : ℕ) → Within (nodes_in ws vs l) b i l n o k → zig (get_or vs i (pos 0)) < wide → (s : Step) → s ≡ imm_judged (zig (get_or vs i (pos 0))) lim (n + 1) (at + 1) → Told (read_expr l (64 - o) n) size (node_image (nodes_in ws vs l) b i) l 0 n at s)
        → Number (get_or vs i (pos 0)) lim (get_or t i 0) → ReadsBy ws vs t (suc d) i
    reads_imm lim wd f N b h n at o l ho hn =
        let z = N.low in
        let y = N.leaf in
        let e : n + get_or t i 0 ≡ n + 1 = omega arith in
        reads_as e (f b n at o l (within b l n o h (omega arith) (omega arith)) (omega arith) _ (imm_fine (zig (get_or vs i (pos 0))) lim (n + 1) (at + 1) _ (zig (get_or vs i (pos 0))) refl z refl))

    module _ (ih : (j : ℕ) → j < i → Shallow ws d j → ReadsBy ws vs t d j) where
      reads_one : (x : Op1) → k ≡ One x → AboveOne t i (get_or ws (3 * i + 1) 0) (get_or t i 0) → Shallow ws d (get_or ws (3 * i + 1) 0) → ReadsBy ws vs t (suc d) i
      reads_one x kk A S b h n at o l ho hn =
          let z = A.size in
          let e : n + get_or t i 0 ≡ n + 1 + get_or t (get_or ws (3 * i + 1) 0) 0 = omega arith in
          let P = ih _ A.below S i A.below (n + 1) (at + 1) (o + 1) l (omega arith) (omega arith) in
          reads_as e (node_one (nodes_in ws vs l) b i l n at o k (within b l n o h (omega arith) (omega arith)) x kk P.told)

      reads_two : (x : Op2) → k ≡ Two x → AboveTwo t i (get_or ws (3 * i + 1) 0) (get_or ws (3 * i + 2) 0) (get_or t i 0) → Shallow ws d (get_or ws (3 * i + 1) 0) → Shallow ws d (get_or ws (3 * i + 2) 0) → ReadsBy ws vs t (suc d) i
      reads_two x kk A S R b h n at o l ho hn =
          let z = A.size in
          let s₁ = get_or t (get_or ws (3 * i + 1) 0) 0 in
          let s₂ = get_or t (get_or ws (3 * i + 2) 0) 0 in
          let e : n + get_or t i 0 ≡ n + 1 + s₁ + s₂ = omega arith in
          let P = ih _ A.left S i A.left (n + 1) (at + 1) (o + 1) l (omega arith) (omega arith) in
          let Q = ih _ A.right R i A.right (n + 1 + s₁) P.to (o + 1) l (omega arith) (omega arith) in
          reads_as {to = Q.to} e (node_two (nodes_in ws vs l) b i l n at o k (within b l n o h (omega arith) (omega arith)) {r = Ok (n + 1 + s₁ + s₂, Q.to)} x kk P.told refl Q.told)

  node_reads : (d i : ℕ) → get_or ws (3 * i) 0 < 19 → Node ws vs t i (get_or t i 0) → Operands (Shallow ws d) ws i → ((j : ℕ) → j < i → Shallow ws d j → ReadsBy ws vs t d j) → ReadsBy ws vs t (suc d) i
  node_reads d i low (two x e A) O ih = reads_two d i (Two x) low e ih x refl A (O.left x e) (O.right x e)
  node_reads d i low (one x e A) O ih = reads_one d i (One x) low e ih x refl A (O.only x e)
  node_reads d i low (imm16 e N) O ih = reads_imm d i Imm16 low e wide16 (omega arith) (λ b n at o l W wd s q. node_imm16 (nodes_in ws vs l) b i l n at o Imm16 W s refl wd q) N
  node_reads d i low (imm32 e N) O ih = reads_imm d i Imm32 low e wide (omega arith) (λ b n at o l W wd s q. node_imm32 (nodes_in ws vs l) b i l n at o Imm32 W s refl wd q) N
  node_reads d i low (other e z) O ih = reads_other d i Other low e refl z

  tree_reads : {n : ℕ} → Trees ws vs t n → (d i : ℕ) → i < n → Shallow ws d i → ReadsBy ws vs t d i
  unfolding Shallow
  tree_reads T zero i h S = absurd S
  tree_reads T (suc d) i h S = node_reads d i (T.each i h).known (T.each i h).node S (λ j lt. tree_reads T d j (omega arith))

-- an expression of a command, where so many nodes more have room
pub root_reads : (ws : List ℕ) (vs : List ℤ) {t : List ℕ} {l : ℕ} → Trees ws vs t l → (i n at : ℕ) → i < l → Shallow ws 64 i → n + get_or t i 0 ≤ l → Reads ws vs l l i n at 0 (get_or t i 0)
root_reads ws vs {t} {l} T i n at h S room = tree_reads ws vs t T 64 i h S l h n at 0 l (omega arith) room
