-- What is gathered at a node, by its kind. Assumes nothing.
use mathlib.Core.Path.{◌≡◌, refl, ap, ◌∙◌}
use mathlib.Core.Bool.{Bool, true, false, not, false≢true}
use mathlib.Core.List.{[], ◌++◌}
use Prim.Native.Nat.{ℕ, ◌<◌, ◌≤◌}
use Rattle.model.specs.Expr.{Expr, two, one, imm16, imm32, other}
use Rattle.model.specs.Sheet.{Sheet}
use Rattle.model.specs.Image.{kind_of}
use Rattle.model.specs.Memory.{Nodes, code_at, left_at, right_at, value_at}
use Rattle.model.specs.Parse.{is_join, is_not}
use Rattle.model.specs.declared.Kind.{Kind}
use Rattle.model.specs.declared.Kind.TheVariants.{Two, One, Imm16, Imm32, Other}
use Rattle.model.specs.declared.Op2.{Op2}
use Rattle.model.specs.declared.Op1.{Op1}
use Rattle.expr.specs.Tree.{tree_below, below_out, below_two, below_one, below_imm16, below_imm32, below_other}
use Rattle.parse_conditions.specs.Gathered.{joins, toggles, alone, gathered}

module _ (h : Sheet) (n : Bool) where
  two_join : (o : Op2) (a b : Expr) → is_join o ≡ true → gathered h (two o a b) n ≡ gathered h a n ++ gathered h b n
  unfolding gathered
  two_join o a b j = rw j

  two_alone : (o : Op2) (a b : Expr) → is_join o ≡ false → gathered h (two o a b) n ≡ alone h (two o a b) n
  unfolding gathered
  two_alone o a b j = rw j

  one_not : (o : Op1) (a : Expr) → is_not o ≡ true → gathered h (one o a) n ≡ gathered h a (not n)
  unfolding gathered
  one_not o a j = rw j

  one_alone : (o : Op1) (a : Expr) → is_not o ≡ false → gathered h (one o a) n ≡ alone h (one o a) n
  unfolding gathered
  one_alone o a j = rw j

  leaf16 : (e : Expr) (v : Nodes) (i : ℕ) → e ≡ imm16 (value_at v i) → gathered h e n ≡ alone h e n
  unfolding gathered
  leaf16 e v i f = rw f

  leaf32 : (e : Expr) (v : Nodes) (i : ℕ) → e ≡ imm32 (value_at v i) → gathered h e n ≡ alone h e n
  unfolding gathered
  leaf32 e v i f = rw f

  leaf_other : (e : Expr) → e ≡ other → gathered h e n ≡ alone h e n
  unfolding gathered
  leaf_other e f = rw f

  pub gathered_out : (ns : Nodes) (b i : ℕ) → b ≤ i → gathered h (tree_below ns b i) n ≡ []
  unfolding gathered
  gathered_out ns b i l = rw (below_out ns b i l)

  module _ (ns : Nodes) (b i : ℕ) (lt : i < b) (d : Kind) (e : d ≡ kind_of (code_at ns i)) where
    pub gathered_join : joins d ≡ true → gathered h (tree_below ns b i) n ≡ gathered h (tree_below ns i (left_at ns i)) n ++ gathered h (tree_below ns i (right_at ns i)) n
    gathered_join = by d refl
      where
        by : (x : Kind) → d ≡ x → joins x ≡ true → gathered h (tree_below ns b i) n ≡ gathered h (tree_below ns i (left_at ns i)) n ++ gathered h (tree_below ns i (right_at ns i)) n
        by (Two o) f j = ap (λ x. gathered h x n) (below_two ns b i lt d e o f) ∙ two_join o (tree_below ns i (left_at ns i)) (tree_below ns i (right_at ns i)) j
        by (One o) f j = absurd (false≢true j)
        by Imm16 f j = absurd (false≢true j)
        by Imm32 f j = absurd (false≢true j)
        by Other f j = absurd (false≢true j)

    pub gathered_not : toggles d ≡ true → gathered h (tree_below ns b i) n ≡ gathered h (tree_below ns i (left_at ns i)) (not n)
    gathered_not = by d refl
      where
        by : (x : Kind) → d ≡ x → toggles x ≡ true → gathered h (tree_below ns b i) n ≡ gathered h (tree_below ns i (left_at ns i)) (not n)
        by (Two o) f j = absurd (false≢true j)
        by (One o) f j = ap (λ x. gathered h x n) (below_one ns b i lt d e o f) ∙ one_not o (tree_below ns i (left_at ns i)) j
        by Imm16 f j = absurd (false≢true j)
        by Imm32 f j = absurd (false≢true j)
        by Other f j = absurd (false≢true j)

    pub gathered_leaf : joins d ≡ false → toggles d ≡ false → gathered h (tree_below ns b i) n ≡ alone h (tree_below ns b i) n
    gathered_leaf = by d refl
      where
        by : (x : Kind) → d ≡ x → joins x ≡ false → toggles x ≡ false → gathered h (tree_below ns b i) n ≡ alone h (tree_below ns b i) n
        by (Two o) f j t = rw (below_two ns b i lt d e o f) (two_alone o (tree_below ns i (left_at ns i)) (tree_below ns i (right_at ns i)) j)
        by (One o) f j t = rw (below_one ns b i lt d e o f) (one_alone o (tree_below ns i (left_at ns i)) t)
        by Imm16 f j t = leaf16 (tree_below ns b i) ns i (below_imm16 ns b i lt d e f)
        by Imm32 f j t = leaf32 (tree_below ns b i) ns i (below_imm32 ns b i lt d e f)
        by Other f j t = leaf_other (tree_below ns b i) (below_other ns b i lt d e f)
