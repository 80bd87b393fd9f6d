-- The tree of a node: it is its node over its operands' trees, and hangs on nothing above them. Assumes nothing.
use Rattle.std.specs.Prelude.{◌≡◌, ℕ, suc, ◌+◌, ◌≤◌, ◌<◌, ltb}
use Rattle.std.proofs.Common.{ap₂, ◌∙◌, le_refl, arith, lt-ltb, le-ltb}
use Rattle.model.specs.Expr.{Expr, two, one, imm16, imm32, other}
use Rattle.model.specs.Image.{kind_of}
use Rattle.model.specs.Memory.{Nodes, code_at, left_at, right_at, value_at, node_of, operand, tree_to, tree}
use Rattle.model.specs.declared.Op2.{Op2}
use Rattle.model.specs.declared.Op1.{Op1}
use Rattle.model.specs.declared.Kind.{Kind}
use Rattle.model.specs.declared.Kind.TheVariants.{Two, One, Imm16, Imm32, Other}
use Rattle.memory.specs.NodeLaws.{tree_enough, operand_same}

-- ---- a node over its operands

-- node i as an operand of node b: Other where it does not lie below
unfoldable pub tree_below : Nodes → ℕ → ℕ → Expr
tree_below ns b i = operand (ltb i b) (tree ns i)

pub below_in : (ns : Nodes) (b i : ℕ) → i < b → tree_below ns b i ≡ tree ns i
unfolding tree_below
below_in ns b i h = rw (lt-ltb i b h)

-- a root is its own tree below the number after it
pub below_root : (ns : Nodes) (i : ℕ) → tree_below ns (i + 1) i ≡ tree ns i
below_root ns i = below_in ns (i + 1) i (omega arith)

pub below_out : (ns : Nodes) (b i : ℕ) → b ≤ i → tree_below ns b i ≡ other
unfolding tree_below
below_out ns b i h = rw (le-ltb i b h)

pub tree_node : (ns : Nodes) (i : ℕ) → tree ns i ≡ node_of (kind_of (code_at ns i)) (tree_below ns i (left_at ns i)) (tree_below ns i (right_at ns i)) (value_at ns i)
unfolding tree tree_to tree_below
tree_node ns i =
    ap₂ (λ (a b : Expr). node_of (kind_of (code_at ns i)) a b (value_at ns i))
    (operand_same (left_at ns i) i _ _ (λ lt. tree_enough ns i (suc (left_at ns i)) (left_at ns i) lt (le_refl _)))
    (operand_same (right_at ns i) i _ _ (λ lt. tree_enough ns i (suc (right_at ns i)) (right_at ns i) lt (le_refl _)))

-- by the kind k that was found at a node below b
module _ (ns : Nodes) (b i : ℕ) (lt : i < b) (k : Kind) (found : k ≡ kind_of (code_at ns i)) where
  below_node : (j : Kind) → k ≡ j → tree_below ns b i ≡ node_of j (tree_below ns i (left_at ns i)) (tree_below ns i (right_at ns i)) (value_at ns i)
  below_node j e = below_in ns b i lt ∙ tree_node ns i ∙ rw (← found, e)

  pub below_two : (o : Op2) → k ≡ Two o → tree_below ns b i ≡ two o (tree_below ns i (left_at ns i)) (tree_below ns i (right_at ns i))
  unfolding node_of
  below_two o e = below_node (Two o) e

  pub below_one : (o : Op1) → k ≡ One o → tree_below ns b i ≡ one o (tree_below ns i (left_at ns i))
  unfolding node_of
  below_one o e = below_node (One o) e

  pub below_imm16 : k ≡ Imm16 → tree_below ns b i ≡ imm16 (value_at ns i)
  unfolding node_of
  below_imm16 e = below_node Imm16 e

  pub below_imm32 : k ≡ Imm32 → tree_below ns b i ≡ imm32 (value_at ns i)
  unfolding node_of
  below_imm32 e = below_node Imm32 e

  pub below_other : k ≡ Other → tree_below ns b i ≡ other
  unfolding node_of
  below_other e = below_node Other e
