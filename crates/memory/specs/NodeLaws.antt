-- A node and its operands: its tree and its image a level at a time, and what reading its image gives. Assumes nothing.
use Rattle.std.specs.Prelude.{◌≡◌, Bool, get_or}
use Rattle.std.proofs.Math.Path.{refl, ap, subst}
use Rattle.std.proofs.Common.{ap₂, sym, ◌∙◌, arith}
use Rattle.std.proofs.Math.Bool.{true, false, cond}
use mathlib.Core.List.{List, ◌++◌, append_assoc, append-nil}
use Prim.Native.Nat.{ℕ, zero, suc, ◌+◌, ◌≤◌, ◌<◌}
use Rattle.std.proofs.Math.Dec.{ltb}
use borrow.Author.Tests.{ltb-true, ltb-false, lt-ltb, le-ltb}
use Rattle.model.specs.Refusal.{over_limit, too_deep}
use Rattle.model.specs.Reading.{Answer, got, refused, number, word}
use Rattle.model.specs.Expr.{Expr, two, one, imm16, imm32, other, size}
use Rattle.model.specs.declared.Op2.{Op2}
use Rattle.model.specs.declared.Op1.{Op1}
use Rattle.model.specs.declared.Kind.{Kind}
use Rattle.model.specs.declared.Kind.TheVariants.{Two, One, Imm16, Imm32, Other}
use Rattle.model.specs.Image.{kind_of, code_of, code2, code1, expr_image, read_kind, read_operands, read_expr}
use Rattle.model.specs.Memory.{Nodes, code_at, left_at, right_at, value_at, node_of, operand, tree_to, tree}
use Rattle.model.specs.Record.{follow_image, node_image_to, node_image}
use Rattle.model.proofs.Laws.Reading.{split, refused≢got, got_value, got_rest, passed, same_number, number_low}
use Rattle.model.proofs.Laws.ImageExpr.{kind_code, code_kind}
use Rattle.model.proofs.Laws.Same.{same_expr}
use Rattle.memory.specs.Sound.{Well, well_two, well_one, well_imm16, well_imm32, well_other}

-- ---- more levels than i give the same tree

-- an operand that is not below its parent is not looked at
pub operand_same : (j i : ℕ) (x y : Expr) → (j < i → x ≡ y) → operand (ltb j i) x ≡ operand (ltb j i) y
operand_same j i x y h = go (ltb j i) refl
  where
    go : (t : Bool) → ltb j i ≡ t → operand t x ≡ operand t y
    go true e = h (ltb-true j i e)
    go false e = refl

pub tree_enough : (ns : Nodes) (d d' i : ℕ) → i < d → i < d' → tree_to ns d i ≡ tree_to ns d' i
unfolding tree_to
tree_enough ns zero d' i h h' = absurd (omega arith)
tree_enough ns (suc d) zero i h h' = absurd (omega arith)
tree_enough ns (suc d) (suc d') i h h' =
    ap₂ (λ (a b : Expr). node_of (kind_of (code_at ns i)) a b (value_at ns i))
    (operand_same (left_at ns i) i (tree_to ns d (left_at ns i)) (tree_to ns d' (left_at ns i)) (λ l. tree_enough ns d d' (left_at ns i) (omega arith) (omega arith)))
    (operand_same (right_at ns i) i (tree_to ns d (right_at ns i)) (tree_to ns d' (right_at ns i)) (λ l. tree_enough ns d d' (right_at ns i) (omega arith) (omega arith)))

-- a node, from the trees of its operands
pub tree_node : (ns : Nodes) (i : ℕ)
    → tree ns i ≡ node_of (kind_of (code_at ns i)) (operand (ltb (left_at ns i) i) (tree ns (left_at ns i))) (operand (ltb (right_at ns i) i) (tree ns (right_at ns i))) (value_at ns i)
unfolding tree tree_to
tree_node ns i =
    ap₂ (λ (a b : Expr). node_of (kind_of (code_at ns i)) a b (value_at ns i))
    (operand_same (left_at ns i) i (tree_to ns i (left_at ns i)) (tree_to ns (suc (left_at ns i)) (left_at ns i)) (λ l. tree_enough ns i (suc (left_at ns i)) (left_at ns i) l (omega arith)))
    (operand_same (right_at ns i) i (tree_to ns i (right_at ns i)) (tree_to ns (suc (right_at ns i)) (right_at ns i)) (λ l. tree_enough ns i (suc (right_at ns i)) (right_at ns i) l (omega arith)))

-- ---- more levels than b give the same image

follow_same : (ns : Nodes) (f g : ℕ → ℕ → List ℕ) (i : ℕ) → ((j : ℕ) → f i j ≡ g i j) → (k : Kind) → follow_image f ns i k ≡ follow_image g ns i k
unfolding follow_image
follow_same ns f g i h (Two o) = ap₂ (λ (s t : List ℕ). s ++ t) (h (left_at ns i)) (h (right_at ns i))
follow_same ns f g i h (One o) = h (left_at ns i)
follow_same ns f g i h Imm16 = refl
follow_same ns f g i h Imm32 = refl
follow_same ns f g i h Other = refl

pub image_enough : (ns : Nodes) (d d' b i : ℕ) → b ≤ d → b ≤ d' → node_image_to ns d b i ≡ node_image_to ns d' b i
unfolding node_image_to
image_enough ns zero zero b i h h' = refl
image_enough ns zero (suc d') b i h h' = rw (le-ltb i b (omega arith))
image_enough ns (suc d) zero b i h h' = rw (le-ltb i b (omega arith))
image_enough ns (suc d) (suc d') b i h h' = go (ltb i b) refl (λ j l. image_enough ns d d' i j (omega arith) (omega arith))
  where
    go : (t : Bool) → ltb i b ≡ t → ((j : ℕ) → i < b → node_image_to ns d i j ≡ node_image_to ns d' i j)
        → cond t (word (code_at ns i) ++ follow_image (node_image_to ns d) ns i (kind_of (code_at ns i))) (word 19)
        ≡ cond t (word (code_at ns i) ++ follow_image (node_image_to ns d') ns i (kind_of (code_at ns i))) (word 19)
    go true e ih = ap (λ (s : List ℕ). word (code_at ns i) ++ s) (follow_same ns (node_image_to ns d) (node_image_to ns d') i (λ j. ih j (ltb-true i b e)) (kind_of (code_at ns i)))
    go false e ih = refl

-- a node, from the images of its operands
pub image_node : (ns : Nodes) (b i : ℕ) → i < b → node_image ns b i ≡ word (code_at ns i) ++ follow_image (node_image ns) ns i (kind_of (code_at ns i))
unfolding node_image node_image_to
image_node ns zero i h = absurd (omega arith)
image_node ns (suc b) i h =
    rw (lt-ltb i (suc b) h)
    (ap (λ (s : List ℕ). word (code_at ns i) ++ s)
    (follow_same ns (node_image_to ns b) (λ c j. node_image_to ns c c j) i (λ j. image_enough ns b i i j (omega arith) (omega arith)) (kind_of (code_at ns i))))

-- what is not below its parent is written as 19
pub image_none : (ns : Nodes) (b i : ℕ) → b ≤ i → node_image ns b i ≡ word 19
unfolding node_image node_image_to
image_none ns zero i h = refl
image_none ns (suc b) i h = rw (le-ltb i (suc b) h)

-- ---- the tree of a node by its code

pub tree_two : (ns : Nodes) (i : ℕ) (o : Op2) → code_at ns i ≡ code2 o → left_at ns i < i → right_at ns i < i → tree ns i ≡ two o (tree ns (left_at ns i)) (tree ns (right_at ns i))
unfolding node_of code_of
tree_two ns i o c l r = tree_node ns i ∙ rw (c, kind_code (Two o), lt-ltb (left_at ns i) i l, lt-ltb (right_at ns i) i r)

pub tree_one : (ns : Nodes) (i : ℕ) (o : Op1) → code_at ns i ≡ code1 o → left_at ns i < i → tree ns i ≡ one o (tree ns (left_at ns i))
unfolding node_of code_of
tree_one ns i o c l = tree_node ns i ∙ rw (c, kind_code (One o), lt-ltb (left_at ns i) i l)

pub tree_imm16 : (ns : Nodes) (i : ℕ) → code_at ns i ≡ 11 → tree ns i ≡ imm16 (value_at ns i)
unfolding node_of code_of
tree_imm16 ns i c = tree_node ns i ∙ rw (c, kind_code Imm16)

pub tree_imm32 : (ns : Nodes) (i : ℕ) → code_at ns i ≡ 12 → tree ns i ≡ imm32 (value_at ns i)
unfolding node_of code_of
tree_imm32 ns i c = tree_node ns i ∙ rw (c, kind_code Imm32)

pub tree_other : (ns : Nodes) (i : ℕ) → code_at ns i ≡ 18 → tree ns i ≡ other
unfolding node_of code_of
tree_other ns i c = tree_node ns i ∙ rw (c, kind_code Other)

-- ---- the image of a node that is well is its tree's

pub well_image : (ns : Nodes) (b : ℕ) {i : ℕ} → i < b → Well ns i → node_image ns b i ≡ expr_image (tree ns i)
unfolding follow_image expr_image code_of
well_image ns b {i} h (well_two o c l w r v) =
    image_node ns b i h
    ∙ rw (c, kind_code (Two o), tree_two ns i o c l r) (ap₂ (λ (s t : List ℕ). word (code2 o) ++ (s ++ t)) (well_image ns i l w) (well_image ns i r v))
well_image ns b {i} h (well_one o c l w) =
    image_node ns b i h ∙ rw (c, kind_code (One o), tree_one ns i o c l) (ap (λ (s : List ℕ). word (code1 o) ++ s) (well_image ns i l w))
well_image ns b {i} h (well_imm16 c) = image_node ns b i h ∙ rw (c, kind_code Imm16, tree_imm16 ns i c)
well_image ns b {i} h (well_imm32 c) = image_node ns b i h ∙ rw (c, kind_code Imm32, tree_imm32 ns i c)
well_image ns b {i} h (well_other c) = image_node ns b i h ∙ rw (c, kind_code Other, tree_other ns i c, append-nil)

-- ---- what is read from the image of a node

-- the node is there and is well, its tree was read, and what follows it is left
pub record ReadNode (ns : Nodes) (b i : ℕ) (s : List ℕ) (e : Expr) (t : List ℕ) : Type 0 where
  pub low : i < b
  pub well : Well ns i
  pub is : e ≡ tree ns i
  pub rest : t ≡ s

read_well : (l d n : ℕ) (ns : Nodes) (b i : ℕ) (s : List ℕ) (e : Expr) (t : List ℕ) → i < b → Well ns i → read_expr l d n (node_image ns b i ++ s) ≡ got e t → ReadNode ns b i s e t
read_well l d n ns b i s e t h w p =
    let q = same_expr l d n (tree ns i) s e t (subst (λ (u : List ℕ). read_expr l d n (u ++ s) ≡ got e t) (well_image ns b h w) p) in
    record { low = h; well = w; is = q.0; rest = q.1 }

-- the operands, where f reads them
operands_well : (ns : Nodes) (f : ℕ → List ℕ → Answer Expr) → ((n b i : ℕ) (s : List ℕ) (e : Expr) (t : List ℕ) → f n (node_image ns b i ++ s) ≡ got e t → ReadNode ns b i s e t)
    → (n i : ℕ) (k : Kind) (s : List ℕ) (e : Expr) (t : List ℕ) → code_at ns i ≡ code_of k → read_operands f n k (follow_image (node_image ns) ns i k ++ s) ≡ got e t → Well ns i
unfolding read_operands follow_image code_of
operands_well ns f ih n i (Two o) s e t c p =
    let q = split (f (suc n) (node_image ns i (left_at ns i) ++ (node_image ns i (right_at ns i) ++ s))) _ (rw append_assoc at p) in
    let a = ih (suc n) i (left_at ns i) (node_image ns i (right_at ns i) ++ s) q.value q.rest q.first in
    let q' = split (f (suc n + size q.value) (node_image ns i (right_at ns i) ++ s)) (λ b t. got (two o q.value b) t) (rw a.rest at q.then) in
    let b = ih (suc n + size q.value) i (right_at ns i) s q'.value q'.rest q'.first in
    well_two o c a.low a.well b.low b.well
operands_well ns f ih n i (One o) s e t c p =
    let q = split (f (suc n) (node_image ns i (left_at ns i) ++ s)) (λ a r. got (one o a) r) p in
    let a = ih (suc n) i (left_at ns i) s q.value q.rest q.first in
    well_one o c a.low a.well
operands_well ns f ih n i Imm16 s e t c p = well_imm16 c
operands_well ns f ih n i Imm32 s e t c p = well_imm32 c
operands_well ns f ih n i Other s e t c p = well_other c

-- a code that is read is known
kind_read : (c : ℕ) (s : List ℕ) (k : Kind) (t : List ℕ) → read_kind (word c ++ s) ≡ got k t → (c ≡ code_of k) × (t ≡ s)
unfolding read_kind
kind_read c s k t p =
    let q = split (number 19 (word c ++ s)) (λ c r. got (kind_of c) r) p in
    let e = same_number 19 c s q.value q.rest q.first in
    let h = number_low 19 (word c ++ s) q.value q.rest q.first in
    (sym e.0 ∙ sym (code_kind q.value h) ∙ ap code_of (got_value q.then), sym (got_rest q.then) ∙ e.1)

-- 19 is no code
none_read : (s : List ℕ) (k : Kind) (t : List ℕ) → read_kind (word 19 ++ s) ≡ got k t → ⊥
unfolding read_kind
none_read s k t p =
    let q = split (number 19 (word 19 ++ s)) (λ c r. got (kind_of c) r) p in
    let e = (same_number 19 19 s q.value q.rest q.first).0 in
    let h = number_low 19 (word 19 ++ s) q.value q.rest q.first in
    omega arith

module _ (l : ℕ) (ns : Nodes) where
  pub node_read : (d n b i : ℕ) (s : List ℕ) (e : Expr) (t : List ℕ) → read_expr l d n (node_image ns b i ++ s) ≡ got e t → ReadNode ns b i s e t
  unfolding read_expr
  node_read zero n b i s e t p =
      let q = split (read_kind (node_image ns b i ++ s)) (λ k r. cond (ltb n l) (refused too_deep) (refused over_limit)) p in
      absurd (refused≢got (passed (ltb n l) (refused too_deep) over_limit e t q.then).1)
  node_read (suc d) n b i s e t p = go (ltb i b) refl (node_read d)
    where
      go : (x : Bool) → ltb i b ≡ x → ((n b i : ℕ) (s : List ℕ) (e : Expr) (t : List ℕ) → read_expr l d n (node_image ns b i ++ s) ≡ got e t → ReadNode ns b i s e t) → ReadNode ns b i s e t
      go false x ih =
          let w = subst (λ (u : List ℕ). read_expr l (suc d) n (u ++ s) ≡ got e t) (image_none ns b i (ltb-false i b x)) p in
          let q = split (read_kind (word 19 ++ s)) (λ k r. cond (ltb n l) (read_operands (read_expr l d) n k r) (refused over_limit)) w in
          absurd (none_read s q.value q.rest q.first)
      go true x ih =
          let h = ltb-true i b x in
          let c = code_at ns i in
          let f = follow_image (node_image ns) ns i in
          let w = subst (λ (u : List ℕ). read_expr l (suc d) n u ≡ got e t) (ap (λ (u : List ℕ). u ++ s) (image_node ns b i h) ∙ append_assoc (word c) (f (kind_of c)) s) p in
          let q = split (read_kind (word c ++ (f (kind_of c) ++ s))) (λ k r. cond (ltb n l) (read_operands (read_expr l d) n k r) (refused over_limit)) w in
          let k = q.value in
          let r = kind_read c (f (kind_of c) ++ s) k q.rest q.first in
          let g = (passed (ltb n l) (read_operands (read_expr l d) n k q.rest) over_limit e t q.then).1 in
          let z : q.rest ≡ f k ++ s = r.1 ∙ ap (λ (j : Kind). f j ++ s) (ap kind_of r.0 ∙ kind_code k) in
          let g' = subst (λ (u : List ℕ). read_operands (read_expr l d) n k u ≡ got e t) z g in
          read_well l (suc d) n ns b i s e t h (operands_well ns (read_expr l d) ih n i k s e t r.0 g') p

-- word 0 of an entry is where the entry begins
pub first_word : (xs : List ℕ) (a : ℕ) → get_or xs (a + 0) 0 ≡ get_or xs a 0
first_word xs a = let e : a + 0 ≡ a = omega arith in ap (λ (j : ℕ). get_or xs j 0) e
