-- Nodes that were appended: those below stay as they were, and the last is the root of the expression. Assumes nothing.
use Rattle.std.specs.Prelude.{◌≡◌, get_or, set, ℤ, pos}
use Rattle.std.proofs.Math.Path.{refl}
use Rattle.std.proofs.Common.{ap, ap₂, sym, ◌∙◌, subst, arith, length-set, get_or-set_same, get_or-set_other}
use Prim.Native.Nat.{ℕ, zero, suc, ◌+◌, ◌-◌, ◌*◌, ◌≤◌, ◌<◌}
use Rattle.model.specs.Limits.{node_limit}
use Rattle.model.specs.Expr.{Expr, two, one, imm16, imm32, other, size}
use Rattle.model.specs.declared.Op2.{Op2}
use Rattle.model.specs.declared.Op1.{Op1}
use Rattle.model.specs.Image.{kind_of, code2, code1}
use Rattle.model.specs.Memory.{Nodes, code_at, left_at, right_at, value_at, node_of, tree_to, tree, push_node, put_expr}
use Rattle.memory.specs.Sound.{Well, well_two, well_one, well_imm16, well_imm32, well_other, Root, LongNodes}
use Rattle.memory.specs.NodeLaws.{operand_same, tree_two, tree_one, tree_imm16, tree_imm32, tree_other}

-- ---- more nodes, and those that were there are as they were

pub record Grown (s t : Nodes) : Type 0 where
  pub count : s.count ≤ t.count
  pub words : (j : ℕ) → j < 3 * s.count → get_or t.words j 0 ≡ get_or s.words j 0
  pub values : (j : ℕ) → j < s.count → get_or t.values j (pos 0) ≡ get_or s.values j (pos 0)

pub grown_same : (s : Nodes) → Grown s s
grown_same s = record { count = omega arith; words = λ j h. refl; values = λ j h. refl }

pub grown_then : (s t u : Nodes) → Grown s t → Grown t u → Grown s u
grown_then s t u g h =
    let gc = g.count in
    let hc = h.count in
    record {
      count = omega arith;
      words = λ j l. h.words j (omega arith) ∙ g.words j l;
      values = λ j l. h.values j (omega arith) ∙ g.values j l;
    }

module _ (s t : Nodes) (g : Grown s t) where
  tree_frame_to : (d i : ℕ) → i < s.count → tree_to t d i ≡ tree_to s d i
  unfolding tree_to
  tree_frame_to zero i h = refl
  tree_frame_to (suc d) i h =
      rw (g.words (3 * i) (omega arith), g.words (3 * i + 1) (omega arith), g.words (3 * i + 2) (omega arith), g.values i h)
      (ap₂ (λ (a b : Expr). node_of (kind_of (code_at s i)) a b (value_at s i))
      (operand_same (left_at s i) i (tree_to t d (left_at s i)) (tree_to s d (left_at s i)) (λ l. tree_frame_to d (left_at s i) (omega arith)))
      (operand_same (right_at s i) i (tree_to t d (right_at s i)) (tree_to s d (right_at s i)) (λ l. tree_frame_to d (right_at s i) (omega arith))))

  -- the tree of a node that was there
  pub tree_frame : (i : ℕ) → i < s.count → tree t i ≡ tree s i
  unfolding tree
  tree_frame i h = tree_frame_to (suc i) i h

  pub well_frame : {i : ℕ} → i < s.count → Well s i → Well t i
  well_frame {i} h (well_two o c l w r v) =
      let a : left_at t i ≡ left_at s i = g.words (3 * i + 1) (omega arith) in
      let b : right_at t i ≡ right_at s i = g.words (3 * i + 2) (omega arith) in
      well_two o (g.words (3 * i) (omega arith) ∙ c) (omega arith) (subst (Well t) (sym a) (well_frame (omega arith) w)) (omega arith) (subst (Well t) (sym b) (well_frame (omega arith) v))
  well_frame {i} h (well_one o c l w) =
      let a : left_at t i ≡ left_at s i = g.words (3 * i + 1) (omega arith) in
      well_one o (g.words (3 * i) (omega arith) ∙ c) (omega arith) (subst (Well t) (sym a) (well_frame (omega arith) w))
  well_frame {i} h (well_imm16 c) = well_imm16 (g.words (3 * i) (omega arith) ∙ c)
  well_frame {i} h (well_imm32 c) = well_imm32 (g.words (3 * i) (omega arith) ∙ c)
  well_frame {i} h (well_other c) = well_other (g.words (3 * i) (omega arith) ∙ c)

  pub root_frame : (i : ℕ) → Root s i → Root t i
  root_frame i r = let h = r.low in let gc = g.count in record { low = omega arith; well = well_frame h r.well }

-- ---- one node more

module _ (s : Nodes) (o l r : ℕ) (z : ℤ) where
  pub push_grown : Grown s (push_node s o l r z)
  push_grown =
      let n = s.count in
      let w = s.words in
      record {
        count = omega arith;
        words = λ j h.
            get_or-set_other (set (set w (3 * n) o) (3 * n + 1) l) (3 * n + 2) j r 0 (omega arith)
            ∙ get_or-set_other (set w (3 * n) o) (3 * n + 1) j l 0 (omega arith)
            ∙ get_or-set_other w (3 * n) j o 0 (omega arith);
        values = λ j h. get_or-set_other s.values n j z (pos 0) (omega arith);
      }

  pub push_long : LongNodes s → LongNodes (push_node s o l r z)
  push_long g =
      let n = s.count in
      let w = s.words in
      record {
        words = length-set (set (set w (3 * n) o) (3 * n + 1) l) (3 * n + 2) r ∙ length-set (set w (3 * n) o) (3 * n + 1) l ∙ length-set w (3 * n) o ∙ g.words;
        values = length-set s.values n z ∙ g.values;
      }

  -- what stands in it
  pub record NodeWords (t : Nodes) : Type 0 where
    pub code : code_at t s.count ≡ o
    pub left : left_at t s.count ≡ l
    pub right : right_at t s.count ≡ r
    pub value : value_at t s.count ≡ z

  pub push_holds : LongNodes s → s.count < node_limit → NodeWords (push_node s o l r z)
  push_holds g h =
      let n = s.count in
      let w = s.words in
      let lw = g.words in
      let lv = g.values in
      let l₁ = length-set w (3 * n) o in
      let l₂ = length-set (set w (3 * n) o) (3 * n + 1) l in
      record {
        code = get_or-set_other (set (set w (3 * n) o) (3 * n + 1) l) (3 * n + 2) (3 * n) r 0 (omega arith)
            ∙ get_or-set_other (set w (3 * n) o) (3 * n + 1) (3 * n) l 0 (omega arith)
            ∙ get_or-set_same w (3 * n) o 0 (omega arith);
        left = get_or-set_other (set (set w (3 * n) o) (3 * n + 1) l) (3 * n + 2) (3 * n + 1) r 0 (omega arith)
            ∙ get_or-set_same (set w (3 * n) o) (3 * n + 1) l 0 (omega arith);
        right = get_or-set_same (set (set w (3 * n) o) (3 * n + 1) l) (3 * n + 2) r 0 (omega arith);
        value = get_or-set_same s.values n z (pos 0) (omega arith);
      }

-- ---- an expression more: its nodes count, the last is its root

pub record PutTree (s : Nodes) (e : Expr) (t : Nodes) : Type 0 where
  pub counted : t.count ≡ s.count + size e
  pub more : s.count < t.count
  pub grown : Grown s t
  pub long : LongNodes t
  pub well : Well t (t.count - 1)
  pub is : tree t (t.count - 1) ≡ e

-- from the node that was pushed last
last_put : (s u : Nodes) (e : Expr) (o l r : ℕ) (z : ℤ) → LongNodes u → Grown s u → u.count + 1 ≡ s.count + size e
    → Well (push_node u o l r z) u.count → tree (push_node u o l r z) u.count ≡ e → PutTree s e (push_node u o l r z)
last_put s u e o l r z g k c w i =
    let t = push_node u o l r z in
    let kc = k.count in
    let n : u.count ≡ u.count + 1 - 1 = omega arith in
    record {
      counted = c;
      more = omega arith;
      grown = grown_then s u t k (push_grown u o l r z);
      long = push_long u o l r z g;
      well = subst (Well t) n w;
      is = ap (tree t) (sym n) ∙ i;
    }

two_put : (s : Nodes) (o : Op2) (a b : Expr) (u v : Nodes) → PutTree s a u → PutTree u b v → v.count < node_limit
    → PutTree s (two o a b) (push_node v (code2 o) (u.count - 1) (v.count - 1) (pos 0))
unfolding size
two_put s o a b u v p q h =
    let t = push_node v (code2 o) (u.count - 1) (v.count - 1) (pos 0) in
    let n = v.count in
    let f = push_holds v (code2 o) (u.count - 1) (v.count - 1) (pos 0) q.long h in
    let pc = p.counted in
    let qc = q.counted in
    let pm = p.more in
    let qm = q.more in
    let fl = f.left in
    let fr = f.right in
    let gv = push_grown v (code2 o) (u.count - 1) (v.count - 1) (pos 0) in
    let gu = grown_then u v t q.grown gv in
    let l : left_at t n < n = omega arith in
    let r : right_at t n < n = omega arith in
    last_put s v (two o a b) (code2 o) (u.count - 1) (v.count - 1) (pos 0) q.long (grown_then s u v p.grown q.grown) (omega arith)
    (well_two o f.code l (subst (Well t) (sym fl) (well_frame u t gu (omega arith) p.well)) r (subst (Well t) (sym fr) (well_frame v t gv (omega arith) q.well)))
    (tree_two t n o f.code l r
    ∙ ap₂ (two o) (ap (tree t) fl ∙ tree_frame u t gu (u.count - 1) (omega arith) ∙ p.is) (ap (tree t) fr ∙ tree_frame v t gv (v.count - 1) (omega arith) ∙ q.is))

one_put : (s : Nodes) (o : Op1) (a : Expr) (u : Nodes) → PutTree s a u → u.count < node_limit → PutTree s (one o a) (push_node u (code1 o) (u.count - 1) 0 (pos 0))
unfolding size
one_put s o a u p h =
    let t = push_node u (code1 o) (u.count - 1) 0 (pos 0) in
    let n = u.count in
    let f = push_holds u (code1 o) (u.count - 1) 0 (pos 0) p.long h in
    let pc = p.counted in
    let pm = p.more in
    let fl = f.left in
    let g = push_grown u (code1 o) (u.count - 1) 0 (pos 0) in
    let l : left_at t n < n = omega arith in
    last_put s u (one o a) (code1 o) (u.count - 1) 0 (pos 0) p.long p.grown (omega arith)
    (well_one o f.code l (subst (Well t) (sym fl) (well_frame u t g (omega arith) p.well)))
    (tree_one t n o f.code l ∙ ap (one o) (ap (tree t) fl ∙ tree_frame u t g (u.count - 1) (omega arith) ∙ p.is))

pub put_tree : (s : Nodes) (e : Expr) → LongNodes s → s.count + size e ≤ node_limit → PutTree s e (put_expr s e)
unfolding put_expr size
put_tree s (two o a b) g h =
    let p = put_tree s a g (omega arith) in
    let pc = p.counted in
    let q = put_tree (put_expr s a) b p.long (omega arith) in
    let qc = q.counted in
    two_put s o a b (put_expr s a) (put_expr (put_expr s a) b) p q (omega arith)
put_tree s (one o a) g h =
    let p = put_tree s a g (omega arith) in
    let pc = p.counted in
    one_put s o a (put_expr s a) p (omega arith)
put_tree s (imm16 z) g h =
    let f = push_holds s 11 0 0 z g (omega arith) in
    last_put s s (imm16 z) 11 0 0 z g (grown_same s) refl (well_imm16 f.code) (tree_imm16 (push_node s 11 0 0 z) s.count f.code ∙ ap imm16 f.value)
put_tree s (imm32 z) g h =
    let f = push_holds s 12 0 0 z g (omega arith) in
    last_put s s (imm32 z) 12 0 0 z g (grown_same s) refl (well_imm32 f.code) (tree_imm32 (push_node s 12 0 0 z) s.count f.code ∙ ap imm32 f.value)
put_tree s other g h =
    let f = push_holds s 18 0 0 (pos 0) g (omega arith) in
    last_put s s other 18 0 0 (pos 0) g (grown_same s) refl (well_other f.code) (tree_other (push_node s 18 0 0 (pos 0)) s.count f.code)

-- ---- a tree has a node, and as many are put as it has

pub size_pos : (e : Expr) → 0 < size e
unfolding size
size_pos (two o a b) = omega arith
size_pos (one o a) = omega arith
size_pos (imm16 z) = omega arith
size_pos (imm32 z) = omega arith
size_pos other = omega arith

pub count_put : (s : Nodes) (e : Expr) → (put_expr s e).count ≡ s.count + size e
unfolding put_expr size
count_put s (two o a b) = omega (arith, count_put s a, count_put (put_expr s a) b)
count_put s (one o a) = omega (arith, count_put s a)
count_put s (imm16 z) = refl
count_put s (imm32 z) = refl
count_put s other = refl
