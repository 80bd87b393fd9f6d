-- Nodes that stand for an expression, their operators flipped where they stand, and that they then stand for its negation. Assumes nothing.
use Rattle.std.specs.Prelude.{◌≡◌, refl, Bool, true, false, cond, List, ℕ, ◌+◌, ◌-◌, ◌*◌, ◌≤◌, ◌<◌, ℤ, pos, get_or, set}
use Rattle.std.proofs.Common.{ap, ap₂, sym, ◌∙◌, subst, arith, length-set, set-set, get_or-set_other}
use Rattle.std.proofs.lemmas.List.{set_comm}
use Rattle.model.specs.Limits.{node_limit}
use Rattle.model.specs.Expr.{Expr, two, one, imm16, imm32, other, size, negate}
use Rattle.model.specs.declared.Op2.{Op2}
use Rattle.model.specs.declared.Op1.{Op1}
use Rattle.model.specs.declared.Op1.TheVariants.{Not}
use Rattle.model.specs.Image.{kind_of, code_of, code2, code1}
use Rattle.model.specs.Parse.{is_join}
use Rattle.model.specs.Memory.{Nodes, nodes_in, push_node, put_expr}
use Rattle.model.proofs.Laws.ImageExpr.{kind_code}
use Rattle.model.specs.declared.Kind.{Kind}
use Rattle.model.specs.declared.Kind.TheVariants.{Two, One, Imm16, Imm32, Other}
use Rattle.memory.specs.Pushed.{PushedNode, PutExpr}
use Rattle.memory.specs.Sound.{LongNodes}
use Rattle.memory.specs.PutNodes.{push_grown, push_holds, put_tree, size_pos, count_put}
use Rattle.expr_negate.specs.Turns.{flip, flip_code, is_sum, operator_of, root_kind, Flips, compared, joined, Turns, flips, gains, negate_compared, negate_joined, negate_gains, flips_root, gains_root, flips_size, turns_size, flip_code_lem, compare_code, join_code, join_no_sum}

-- the nodes of e from node c on, with the operators of its negation
unfoldable pub flip_in : List ℕ → ℕ → Expr → List ℕ
flip_in ws c (two o a b) =
    cond (is_join o)
    (flip_in (flip_in (set ws (3 * (c + size a + size b)) (code2 (flip o))) c a) (c + size a) b)
    (set ws (3 * (c + size a + size b)) (code2 (flip o)))
flip_in ws c (one o a) = ws
flip_in ws c (imm16 z) = ws
flip_in ws c (imm32 z) = ws
flip_in ws c other = ws

-- the nodes from c to i stand for e, which flips: its operands' nodes lie side by side below its own
pub data Laid (ws : List ℕ) : ℕ → Expr → ℕ → Type 0 where
  compare_laid : {c i : ℕ} {o : Op2} {a b : Expr} → is_sum o ≡ false → is_join o ≡ false → get_or ws (3 * i) 0 ≡ code2 o → i ≡ c + size a + size b → Laid ws c (two o a b) i
  join_laid : {c i l r : ℕ} {o : Op2} {a b : Expr} → is_join o ≡ true → get_or ws (3 * i) 0 ≡ code2 o → get_or ws (3 * i + 1) 0 ≡ l → get_or ws (3 * i + 2) 0 ≡ r
      → i ≡ r + 1 → Laid ws c a l → Laid ws (l + 1) b r → Laid ws c (two o a b) i

-- node i ends such nodes
pub record Lies (ws : List ℕ) (i : ℕ) : Type 0 where
  pub first : ℕ
  pub expr : Expr
  pub laid : Laid ws first expr i
  pub low : i < node_limit

-- the nodes that were appended last, and room for their negation
pub record Last (t : Nodes) : Type 0 where
  pub before : Nodes
  pub expr : Expr
  pub put : PutExpr before expr t
  pub turns : Turns expr
  pub room : before.count + size (negate expr) ≤ node_limit

-- ---- what lies elsewhere stays, and has no part in it

pub laid_size : {ws : List ℕ} {c i : ℕ} {e : Expr} → Laid ws c e i → i + 1 ≡ c + size e
unfolding size
laid_size (compare_laid s j k h) = omega arith
laid_size (join_laid j k l r h p q) = omega (arith, laid_size p, laid_size q)

pub laid_frame : {ws ws' : List ℕ} {c i : ℕ} {e : Expr} → ((j : ℕ) → 3 * c ≤ j → j < 3 * i + 3 → get_or ws' j 0 ≡ get_or ws j 0) → Laid ws c e i → Laid ws' c e i
laid_frame {i = i} f (compare_laid {a = a} {b = b} s j k h) = compare_laid s j (f (3 * i) (omega arith) (omega arith) ∙ k) h
laid_frame {c = c} {i = i} f (join_laid {l = l} {r = r} {a = a} {b = b} j k x y h p q) =
    let sp = laid_size p in
    let sq = laid_size q in
    let pa = size_pos a in
    let pb = size_pos b in
    join_laid j (f (3 * i) (omega arith) (omega arith) ∙ k) (f (3 * i + 1) (omega arith) (omega arith) ∙ x) (f (3 * i + 2) (omega arith) (omega arith) ∙ y) h
    (laid_frame (λ m u v. f m u (omega arith)) p) (laid_frame (λ m u v. f m (omega arith) (omega arith)) q)

-- either side of a test
either : {A : Type 0} (P : A → Type 0) (t : Bool) (x y : A) → P x → P y → P (cond t x y)
either P true x y p q = p
either P false x y p q = q

pub flip_keeps : (ws : List ℕ) (c : ℕ) (e : Expr) (j : ℕ) → 3 * (c + size e) ≤ j → get_or (flip_in ws c e) j 0 ≡ get_or ws j 0
unfolding flip_in size
flip_keeps ws c (two o a b) j h =
    let w = set ws (3 * (c + size a + size b)) (code2 (flip o)) in
    let kept : get_or w j 0 ≡ get_or ws j 0 = get_or-set_other ws (3 * (c + size a + size b)) j (code2 (flip o)) 0 (λ e. omega arith) in
    either (λ (x : List ℕ). get_or x j 0 ≡ get_or ws j 0) (is_join o) (flip_in (flip_in w c a) (c + size a) b) w
    (flip_keeps (flip_in w c a) (c + size a) b j (omega arith) ∙ flip_keeps w c a j (omega arith) ∙ kept) kept
flip_keeps ws c (one o a) j h = refl
flip_keeps ws c (imm16 z) j h = refl
flip_keeps ws c (imm32 z) j h = refl
flip_keeps ws c other j h = refl

both : {A : Type 0} (f : A → A) (t : Bool) (x y u v : A) → x ≡ f u → y ≡ f v → cond t x y ≡ f (cond t u v)
both f true x y u v p q = p
both f false x y u v p q = q

-- a word above them
pub flip_set : (ws : List ℕ) (k v c : ℕ) (e : Expr) → 3 * (c + size e) ≤ k → flip_in (set ws k v) c e ≡ set (flip_in ws c e) k v
unfolding flip_in size
flip_set ws k v c (two o a b) h =
    let m = 3 * (c + size a + size b) in
    let w = set ws m (code2 (flip o)) in
    let u = set (set ws k v) m (code2 (flip o)) in
    let swap : u ≡ set w k v = set_comm ws k m v (code2 (flip o)) (λ e. omega arith) in
    both (λ (x : List ℕ). set x k v) (is_join o) (flip_in (flip_in u c a) (c + size a) b) u (flip_in (flip_in w c a) (c + size a) b) w
    (ap (λ (x : List ℕ). flip_in (flip_in x c a) (c + size a) b) swap
    ∙ ap (λ (x : List ℕ). flip_in x (c + size a) b) (flip_set w k v c a (omega arith))
    ∙ flip_set (flip_in w c a) k v (c + size a) b (omega arith))
    swap
flip_set ws k v c (one o a) h = refl
flip_set ws k v c (imm16 z) h = refl
flip_set ws k v c (imm32 z) h = refl
flip_set ws k v c other h = refl

-- ---- the step of the code at an And or Or, and at a comparison

-- of And and Or: the left operand once the operator is swapped, the right one once the left one is negated, and what is left then
pub record Sides (ws : List ℕ) (c : ℕ) (e : Expr) (i l r x : ℕ) : Type 0 where
  pub one : Expr
  pub other : Expr
  pub left : Laid (set ws (3 * i) x) c one l
  pub left_low : l < i
  pub right : (u : List ℕ) → u ≡ flip_in (set ws (3 * i) x) c one → Laid u (l + 1) other r
  pub right_low : r < i
  pub done : (u v : List ℕ) → u ≡ flip_in (set ws (3 * i) x) c one → v ≡ flip_in u (l + 1) other → v ≡ flip_in ws c e

flip_join : (ws : List ℕ) (c m n x : ℕ) (o : Op2) (a b : Expr) → is_join o ≡ true → x ≡ code2 (flip o) → m ≡ c + size a + size b → n ≡ c + size a
    → flip_in (flip_in (set ws (3 * m) x) c a) n b ≡ flip_in ws c (two o a b)
unfolding flip_in
flip_join ws c m n x o a b j ex em en = rw (j, ex, em, en)

pub sides : {ws : List ℕ} {c i : ℕ} {e : Expr} (l r x : ℕ) → 6 ≤ get_or ws (3 * i) 0
    → l ≡ get_or ws (3 * i + 1) 0 → r ≡ get_or ws (3 * i + 2) 0 → x ≡ flip_code (get_or ws (3 * i) 0) → Laid ws c e i → Sides ws c e i l r x
sides {ws} {c} {i} {e} l r x big el er ex (compare_laid {o = p} q j k h) = absurd (omega (arith, big, k, compare_code p q j))
sides {ws} {c} {i} {e} l r x big el er ex (join_laid {l = l'} {r = r'} {o = p} {a = a} {b = b} j k f g h s t) =
    let fl : l' ≡ l = sym (el ∙ f) in
    let fr : r' ≡ r = sym (er ∙ g) in
    let ss = laid_size s in
    let st = laid_size t in
    let pb = size_pos b in
    let w = set ws (3 * i) x in
    record {
      one = a;
      other = b;
      left = subst (λ (m : ℕ). Laid w c a m) fl (laid_frame (λ m u v. get_or-set_other ws (3 * i) m x 0 (λ q. omega arith)) s);
      left_low = omega arith;
      right = λ y ey. subst (λ (m : ℕ). Laid y (l + 1) b m) fr (subst (λ (m : ℕ). Laid y (m + 1) b r') fl
          (laid_frame (λ m u v. ap (λ (z : List ℕ). get_or z m 0) ey ∙ flip_keeps w c a m (omega arith) ∙ get_or-set_other ws (3 * i) m x 0 (λ q. omega arith)) t));
      right_low = omega arith;
      done = λ y z ey ez. ez ∙ ap (λ (q : List ℕ). flip_in q (l + 1) b) ey ∙ flip_join ws c i (l + 1) x p a b j (ex ∙ ap flip_code k ∙ flip_code_lem p (join_no_sum p j)) (omega arith) (omega arith);
    }

-- of a comparison
pub compare_done : {ws : List ℕ} {c i : ℕ} {e : Expr} (x : ℕ) → get_or ws (3 * i) 0 < 6 → x ≡ flip_code (get_or ws (3 * i) 0) → Laid ws c e i → set ws (3 * i) x ≡ flip_in ws c e
unfolding flip_in
compare_done {ws} {c} {i} {e} x small ex (compare_laid {o = p} {a = a} {b = b} q j k h) = rw (j, ex, k, flip_code_lem p q, h)
compare_done {ws} {c} {i} {e} x small ex (join_laid {o = p} j k f g h s t) = absurd (omega (arith, small, k, join_code p j))

-- ---- nodes that were appended, flipped

abbrev flipped : Nodes → ℕ → Expr → Nodes
flipped t c e = record { words = flip_in t.words c e; values = t.values; count = t.count }

-- under a node that came later
flip_push : (t : Nodes) (o l r : ℕ) (z : ℤ) (c : ℕ) (e : Expr) → c + size e ≤ t.count → flipped (push_node t o l r z) c e ≡ push_node (flipped t c e) o l r z
flip_push t o l r z c e h =
    let n = 3 * t.count in
    let w1 = set t.words n o in
    let w2 = set w1 (n + 1) l in
    ap (λ (w : List ℕ). nodes_in w (set t.values t.count z) (t.count + 1))
    (flip_set w2 (n + 2) r c e (omega arith)
    ∙ ap (λ (w : List ℕ). set w (n + 2) r) (flip_set w1 (n + 1) l c e (omega arith))
    ∙ ap (λ (w : List ℕ). set (set w (n + 1) l) (n + 2) r) (flip_set t.words n o c e (omega arith)))

-- under an expression that came later
flip_above : (t : Nodes) (c : ℕ) (e b : Expr) → c + size e ≤ t.count → flipped (put_expr t b) c e ≡ put_expr (flipped t c e) b
unfolding put_expr
flip_above t c e (two o x y) h =
    let u = put_expr t x in
    let v = put_expr u y in
    let cu = count_put t x in
    let cv = count_put u y in
    flip_push v (code2 o) (u.count - 1) (v.count - 1) (pos 0) c e (omega arith)
    ∙ ap (λ (q : Nodes). push_node q (code2 o) (u.count - 1) (q.count - 1) (pos 0)) (flip_above u c e y (omega arith))
    ∙ ap (λ (q : Nodes). push_node (put_expr q y) (code2 o) (q.count - 1) ((put_expr q y).count - 1) (pos 0)) (flip_above t c e x h)
flip_above t c e (one o x) h =
    let u = put_expr t x in
    let cu = count_put t x in
    flip_push u (code1 o) (u.count - 1) 0 (pos 0) c e (omega arith)
    ∙ ap (λ (q : Nodes). push_node q (code1 o) (q.count - 1) 0 (pos 0)) (flip_above t c e x h)
flip_above t c e (imm16 z) h = flip_push t 11 0 0 z c e h
flip_above t c e (imm32 z) h = flip_push t 12 0 0 z c e h
flip_above t c e other h = flip_push t 18 0 0 (pos 0) c e h

-- another operator in the node last pushed
push_again : (t : Nodes) (o p l r n : ℕ) (z : ℤ) → n ≡ 3 * t.count → set (push_node t o l r z).words n p ≡ (push_node t p l r z).words
push_again t o p l r n z e =
    let m = 3 * t.count in
    let w = t.words in
    rw e (set_comm (set (set w m o) (m + 1) l) (m + 2) m r p (λ q. omega arith)
    ∙ ap (λ (x : List ℕ). set x (m + 2) r) (set_comm (set w m o) (m + 1) m l p (λ q. omega arith) ∙ ap (λ (x : List ℕ). set x (m + 1) l) (set-set w m o p)))

-- flipped, what was appended is the negation appended
pub flip_put : (s : Nodes) {e : Expr} → Flips e → flipped (put_expr s e) s.count e ≡ put_expr s (negate e)
unfolding put_expr flip_in
flip_put s (compared {o} {a} {b} k j) =
    let t = put_expr s a in
    let u = put_expr t b in
    let ct = count_put s a in
    let cu = count_put t b in
    rw (negate_compared o a b k j, j)
    (ap (λ (w : List ℕ). nodes_in w (set u.values u.count (pos 0)) (u.count + 1))
    (push_again u (code2 o) (code2 (flip o)) (t.count - 1) (u.count - 1) (3 * (s.count + size a + size b)) (pos 0) (omega arith)))
flip_put s (joined {o} {a} {b} j f g) =
    let c = s.count in
    let t = put_expr s a in
    let u = put_expr t b in
    let v = put_expr s (negate a) in
    let x = code2 (flip o) in
    let l = t.count - 1 in
    let r = u.count - 1 in
    let ct = count_put s a in
    let cu = count_put t b in
    let cv = count_put s (negate a) in
    let cb = count_put v b in
    let cn = count_put v (negate b) in
    let fa = flips_size f in
    let fb = flips_size g in
    let last : (q : Nodes) → ℕ → ℕ → Nodes = λ q y z. push_node q x y z (pos 0) in
    rw (negate_joined o a b j, j)
    (ap (λ (w : List ℕ). nodes_in (flip_in (flip_in w c a) (c + size a) b) (set u.values u.count (pos 0)) (u.count + 1))
    (push_again u (code2 o) x l r (3 * (c + size a + size b)) (pos 0) (omega arith))
    ∙ ap (λ (q : Nodes). flipped q (c + size a) b)
    (flip_push u x l r (pos 0) c a (omega arith) ∙ ap (λ (q : Nodes). last q l r) (flip_above t c a b (omega arith) ∙ ap (λ (q : Nodes). put_expr q b) (flip_put s f)))
    ∙ flip_push (put_expr v b) x l r (pos 0) (c + size a) b (omega arith)
    ∙ ap (λ (m : ℕ). last (flipped (put_expr v b) m b) l r) (omega arith)
    ∙ ap (λ (q : Nodes). last q l r) (flip_put v g)
    ∙ ap₂ (λ (y z : ℕ). last (put_expr v (negate b)) y z) (omega arith) (omega arith))

-- ---- nodes that were appended lie side by side

pub put_laid : (s : Nodes) {e : Expr} → Flips e → LongNodes s → s.count + size e ≤ node_limit → (i : ℕ) → i + 1 ≡ (put_expr s e).count → Laid (put_expr s e).words s.count e i
unfolding put_expr size
put_laid s (compared {o} {a} {b} k j) g h i ei =
    let p = put_tree s a g (omega arith) in
    let pc = p.counted in
    let q = put_tree (put_expr s a) b p.long (omega arith) in
    let qc = q.counted in
    let t = put_expr s a in
    let u = put_expr t b in
    let f = push_holds u (code2 o) (t.count - 1) (u.count - 1) (pos 0) q.long (omega arith) in
    let m : i ≡ u.count = omega arith in
    compare_laid {c = s.count} {i = i} {o = o} {a = a} {b = b} k j (rw m f.code) (omega arith)
put_laid s (joined {o} {a} {b} j x y) g h i ei =
    let p = put_tree s a g (omega arith) in
    let pc = p.counted in
    let pm = p.more in
    let q = put_tree (put_expr s a) b p.long (omega arith) in
    let qc = q.counted in
    let qm = q.more in
    let t = put_expr s a in
    let u = put_expr t b in
    let f = push_holds u (code2 o) (t.count - 1) (u.count - 1) (pos 0) q.long (omega arith) in
    let w = push_grown u (code2 o) (t.count - 1) (u.count - 1) (pos 0) in
    let m : i ≡ u.count = omega arith in
    let n : t.count - 1 + 1 ≡ t.count = omega arith in
    join_laid {c = s.count} {i = i} {l = t.count - 1} {r = u.count - 1} {o = o} {a = a} {b = b} j (rw m f.code) (rw m f.left) (rw m f.right) (omega arith)
    (laid_frame (λ d lo hi. w.words d (omega arith) ∙ q.grown.words d (omega arith)) (put_laid s x g (omega arith) (t.count - 1) (omega arith)))
    (rw n (laid_frame (λ d lo hi. w.words d (omega arith)) (put_laid t y p.long (omega arith) (u.count - 1) (omega arith))))

-- the code of the root
pub root_kind_lem : (s : Nodes) (e : Expr) → LongNodes s → s.count + size e ≤ node_limit → (i : ℕ) → i + 1 ≡ (put_expr s e).count → kind_of (get_or (put_expr s e).words (3 * i) 0) ≡ root_kind e
unfolding put_expr size code_of
root_kind_lem s (two o a b) g h i ei =
    let p = put_tree s a g (omega arith) in
    let pc = p.counted in
    let q = put_tree (put_expr s a) b p.long (omega arith) in
    let qc = q.counted in
    let u = put_expr (put_expr s a) b in
    let m : i ≡ u.count = omega arith in
    rw m (ap kind_of (push_holds u (code2 o) ((put_expr s a).count - 1) (u.count - 1) (pos 0) q.long (omega arith)).code ∙ kind_code (Two o))
root_kind_lem s (one o a) g h i ei =
    let p = put_tree s a g (omega arith) in
    let pc = p.counted in
    let u = put_expr s a in
    let m : i ≡ u.count = omega arith in
    rw m (ap kind_of (push_holds u (code1 o) (u.count - 1) 0 (pos 0) p.long (omega arith)).code ∙ kind_code (One o))
root_kind_lem s (imm16 z) g h i ei = let m : i ≡ s.count = omega arith in rw m (ap kind_of (push_holds s 11 0 0 z g (omega arith)).code ∙ kind_code Imm16)
root_kind_lem s (imm32 z) g h i ei = let m : i ≡ s.count = omega arith in rw m (ap kind_of (push_holds s 12 0 0 z g (omega arith)).code ∙ kind_code Imm32)
root_kind_lem s other g h i ei = let m : i ≡ s.count = omega arith in rw m (ap kind_of (push_holds s 18 0 0 (pos 0) g (omega arith)).code ∙ kind_code Other)

-- the arrays were as long before
long_before : (s : Nodes) (o l r : ℕ) (z : ℤ) → LongNodes (push_node s o l r z) → LongNodes s
long_before s o l r z g =
    let n = 3 * s.count in
    let w = s.words in
    record {
      words = sym (length-set (set (set w n o) (n + 1) l) (n + 2) r ∙ length-set (set w n o) (n + 1) l ∙ length-set w n o) ∙ g.words;
      values = sym (length-set s.values s.count z) ∙ g.values;
    }

long_put : (s : Nodes) (e : Expr) → LongNodes (put_expr s e) → LongNodes s
unfolding put_expr
long_put s (two o a b) g =
    let t = put_expr s a in
    let u = put_expr t b in
    long_put s a (long_put t b (long_before u (code2 o) (t.count - 1) (u.count - 1) (pos 0) g))
long_put s (one o a) g = let t = put_expr s a in long_put s a (long_before t (code1 o) (t.count - 1) 0 (pos 0) g)
long_put s (imm16 z) g = long_before s 11 0 0 z g
long_put s (imm32 z) g = long_before s 12 0 0 z g
long_put s other g = long_before s 18 0 0 (pos 0) g

-- ---- the expression that was appended last

pub one_put : {s t u : Nodes} {e : Expr} {o : Op1} → PutExpr s e t → PushedNode t (code1 o) (t.count - 1) 0 (pos 0) u → PutExpr s (one o e) u
unfolding put_expr size
one_put {s} {t} {u} {e} {o} p q = record {
  is = q.is ∙ ap (λ (x : Nodes). push_node x (code1 o) (x.count - 1) 0 (pos 0)) p.is;
  counted = omega (arith, p.counted, q.counted);
}

module _ {t : Nodes} (g : LongNodes t) (low : t.count ≤ node_limit) (i : ℕ) (root : i + 1 ≡ t.count) where
  before : {s : Nodes} {e : Expr} → PutExpr s e t → LongNodes s
  before {s} {e} p = long_put s e (subst LongNodes p.is g)

  -- its root, as the code reads it
  read_root : {s : Nodes} {e : Expr} → PutExpr s e t → kind_of (get_or t.words (3 * i) 0) ≡ root_kind e
  read_root {s} {e} p =
      ap (λ (x : Nodes). kind_of (get_or x.words (3 * i) 0)) p.is
      ∙ root_kind_lem s e (before p) (omega (arith, p.counted)) i (root ∙ ap (λ (x : Nodes). x.count) p.is)

  last_laid : {s : Nodes} {e : Expr} → Flips e → PutExpr s e t → Laid t.words s.count e i
  last_laid {s} {e} f p =
      rw p.is (put_laid s f (before p) (omega (arith, p.counted)) i (root ∙ ap (λ (x : Nodes). x.count) p.is))

  -- a sum, or what passes for one, gains a Not
  pub over : is_sum (operator_of (kind_of (get_or t.words (3 * i) 0))) ≡ true → {s : Nodes} {e : Expr} → PutExpr s e t → Turns e → negate e ≡ one Not e
  over q {s} {e} p (gains h) = negate_gains e h
  over q {s} {e} p (flips f) =
      let d : true ≡ false = sym q ∙ ap (λ (k : Kind). is_sum (operator_of k)) (read_root p) ∙ flips_root f in
      let z : ◌≡◌ {A = ℕ} 0 1 = cc in absurd (omega arith)

  -- anything else flips
  turns_flips : is_sum (operator_of (kind_of (get_or t.words (3 * i) 0))) ≡ false → {s : Nodes} {e : Expr} → PutExpr s e t → Turns e → Flips e
  turns_flips q {s} {e} p (flips f) = f
  turns_flips q {s} {e} p (gains h) =
      let d : false ≡ true = sym q ∙ ap (λ (k : Kind). is_sum (operator_of k)) (read_root p) ∙ gains_root e h in
      let z : ◌≡◌ {A = ℕ} 0 1 = cc in absurd (omega arith)

  pub last_lies : is_sum (operator_of (kind_of (get_or t.words (3 * i) 0))) ≡ false → Last t → Lies t.words i
  last_lies q h = record {
    first = h.before.count;
    expr = h.expr;
    laid = last_laid (turns_flips q h.put h.turns) h.put;
    low = omega arith;
  }

  -- what the code does is the negation
  pub over_negated : is_sum (operator_of (kind_of (get_or t.words (3 * i) 0))) ≡ true → {u : Nodes} → PushedNode t 6 i 0 (pos 0) u
      → (s : Nodes) (e : Expr) → Turns e → PutExpr s e t → PutExpr s (negate e) u
  over_negated q {u} d s e h p =
      let m : i ≡ t.count - 1 = omega arith in
      rw (over q p h) (one_put {o = Not} p (rw m at d))

  pub place_negated : is_sum (operator_of (kind_of (get_or t.words (3 * i) 0))) ≡ false → {w : List ℕ} → ((c : ℕ) (e : Expr) → Laid t.words c e i → w ≡ flip_in t.words c e)
      → (s : Nodes) (e : Expr) → Turns e → PutExpr s e t → PutExpr s (negate e) (nodes_in w t.values t.count)
  place_negated q {w} d s e h p =
      let f = turns_flips q p h in
      record {
        is = ap (λ (x : List ℕ). nodes_in x t.values t.count) (d s.count e (last_laid f p))
            ∙ ap (λ (x : Nodes). flipped x s.count e) p.is ∙ flip_put s f;
        counted = omega (arith, p.counted, flips_size f);
      }

pub last_low : {t : Nodes} → Last t → (0 < t.count) × (t.count ≤ node_limit)
last_low h = (omega (arith, h.put.counted, size_pos h.expr), omega (arith, h.put.counted, h.room, turns_size h.turns))

-- where a Not goes on top there is room for it
pub last_room : {t : Nodes} (h : Last t) → negate h.expr ≡ one Not h.expr → t.count < node_limit
unfolding size
last_room h e = omega (arith, h.put.counted, h.room, ap size e)

pub last_put : {s t : Nodes} {e : Expr} → PutExpr s e t → Turns e → s.count + size (negate e) ≤ node_limit → Last t
last_put {s} {t} {e} p h r = record { before = s; expr = e; put = p; turns = h; room = r }
