-- A node below b by its kind, for what is read there. Assumes nothing.
use Rattle.std.proofs.Common.{◌≡◌, ℕ, ◌<◌, ◌∙◌}
use Rattle.std.proofs.lemmas.Int.{to_z-of_z}
use Rattle.model.specs.Image.{kind_of}
use Rattle.model.specs.Memory.{Nodes, code_at, left_at, right_at, value_at, node_of}
use Rattle.expr.specs.Tree.{tree_below, below_in, below_out, tree_node}

pub below_is : (ns : Nodes) (b i : ℕ) → i < b → tree_below ns b i ≡ node_of (kind_of (code_at ns i)) (tree_below ns i (left_at ns i)) (tree_below ns i (right_at ns i)) (value_at ns i)
below_is ns b i h = below_in ns b i h ∙ tree_node ns i

pub ruleset below = (below_is, below_out, to_z-of_z)
