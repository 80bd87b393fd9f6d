-- The image of a node by its kind, and that the kept count of nodes is no part of it. Assumes nothing.
use Rattle.std.specs.Prelude.{◌≡◌, ltb, ℤ}
use Rattle.std.proofs.Math.Path.{refl, ap, ap₂}
use Rattle.std.proofs.Common.{sym, ◌∙◌, arith}
use Rattle.std.proofs.Math.Bool.{cond}
use mathlib.Core.List.{List, ◌++◌, append-nil}
use Prim.Native.Nat.{ℕ, zero, suc, ◌+◌, ◌*◌, ◌<◌}
use Rattle.std.proofs.Math.ListN.{get_or}
use Rattle.model.specs.Reading.{word, zig}
use Rattle.model.specs.Image.{kind_of, code_of}
use Rattle.model.proofs.Laws.ImageExpr.{kind_code}
use Rattle.model.specs.Memory.{Nodes, nodes_in, code_at, left_at, right_at, value_at}
use Rattle.model.specs.Record.{follow_image, node_image_to, node_image, root_image}
use Rattle.model.specs.declared.Op2.{Op2}
use Rattle.model.specs.declared.Op1.{Op1}
use Rattle.model.specs.declared.Kind.{Kind}
use Rattle.model.specs.declared.Kind.TheVariants.{Two, One, Imm16, Imm32, Other}
use Rattle.memory.specs.NodeLaws.{image_node}

module _ (ns : Nodes) (b i : ℕ) (lt : i < b) (k : Kind) (ek : k ≡ kind_of (code_at ns i)) where
  by_kind : (j : Kind) → k ≡ j → node_image ns b i ≡ word (code_at ns i) ++ follow_image (node_image ns) ns i j
  by_kind j e = image_node ns b i lt ∙ rw (← ek, e)

  pub node_two : (o : Op2) → k ≡ Two o → node_image ns b i ≡ word (code_at ns i) ++ (node_image ns i (left_at ns i) ++ node_image ns i (right_at ns i))
  unfolding follow_image
  node_two o e = by_kind (Two o) e

  pub node_one : (o : Op1) → k ≡ One o → node_image ns b i ≡ word (code_at ns i) ++ node_image ns i (left_at ns i)
  unfolding follow_image
  node_one o e = by_kind (One o) e

  pub node_imm16 : k ≡ Imm16 → node_image ns b i ≡ word (code_at ns i) ++ word (zig (value_at ns i))
  unfolding follow_image
  node_imm16 e = by_kind Imm16 e

  pub node_imm32 : k ≡ Imm32 → node_image ns b i ≡ word (code_at ns i) ++ word (zig (value_at ns i))
  unfolding follow_image
  node_imm32 e = by_kind Imm32 e

  pub node_other : k ≡ Other → node_image ns b i ≡ word (code_at ns i)
  unfolding follow_image
  node_other e = by_kind Other e ∙ append-nil (word (code_at ns i))

module _ (ns : Nodes) (b i : ℕ) (lt : i < b) where
  -- below b, b is no part of the image
  pub node_whole : node_image ns b i ≡ node_image ns (suc i) i
  node_whole = image_node ns b i lt ∙ sym (image_node ns (suc i) i (omega arith))

  pub node_short : code_at ns i ≡ 11 → node_image ns b i ≡ word 11 ++ word (zig (value_at ns i))
  unfolding code_of
  node_short e = rw e at (node_imm16 ns b i lt Imm16 (rw e (sym (kind_code Imm16))) refl)

module _ (ws : List ℕ) (vs : List ℤ) (n m : ℕ) where
  follow_free : (f g : ℕ → ℕ → List ℕ) (i : ℕ) → ((b j : ℕ) → f b j ≡ g b j) → (k : Kind) → follow_image f (nodes_in ws vs n) i k ≡ follow_image g (nodes_in ws vs m) i k
  unfolding follow_image
  follow_free f g i h (Two o) = ap₂ (λ (x y : List ℕ). x ++ y) (h i (get_or ws (3 * i + 1) 0)) (h i (get_or ws (3 * i + 2) 0))
  follow_free f g i h (One o) = h i (get_or ws (3 * i + 1) 0)
  follow_free f g i h Imm16 = refl
  follow_free f g i h Imm32 = refl
  follow_free f g i h Other = refl

  count_free : (d b i : ℕ) → node_image_to (nodes_in ws vs n) d b i ≡ node_image_to (nodes_in ws vs m) d b i
  unfolding node_image_to
  count_free zero b i = refl
  count_free (suc d) b i =
      let c = get_or ws (3 * i) 0 in
      ap (λ (x : List ℕ). cond (ltb i b) (word c ++ x) (word 19))
      (follow_free (node_image_to (nodes_in ws vs n) d) (node_image_to (nodes_in ws vs m) d) i (λ b j. count_free d b j) (kind_of c))

-- an expression of a command is the node at its root
pub root_image_lem : (ws : List ℕ) (vs : List ℤ) (n i : ℕ) → root_image (nodes_in ws vs n) i ≡ node_image (nodes_in ws vs 0) n i
unfolding root_image node_image
root_image_lem ws vs n i = count_free ws vs n 0 n n i
