use Rattle.std.proofs.Common.{◌≡◌, refl, ◌∙◌, ℕ, ℤ, cond, to_z-of_z, w16}
use Rattle.model.specs.declared.Kind.{Kind}
use Rattle.model.specs.declared.Kind.TheVariants.{Two, One, Imm16, Imm32, Other}
use Rattle.model.specs.declared.Op2.{Op2}
use Rattle.model.specs.Image.{kind_of}
use Rattle.model.specs.Memory.{Nodes, nodes_in, code_at, left_at, right_at, tree}
use Rattle.model.specs.Parse.{value, item_index, is_subtract, limit_in, new_limit}
use Rattle.expr.specs.Tree.{tree_below}
use Rattle.parse_scan.specs.Reads.{limit_two, limit_one, limit_imm16, limit_imm32, limit_other}
use Rattle.parse_scan.proofs.limit_after.Goals as goal

no_two : (k : Kind) (ns : Nodes) (v : ℕ) (l : ℤ) → k ≡ kind_of (code_at ns v) → ((o : Op2) → k ≡ Two o → ⊥) → l ≡ new_limit (tree ns v) l
no_two (Two o) ns v l e h = absurd (h o refl)
no_two (One o) ns v l e h = limit_one ns v l (One o) e o refl
no_two Imm16 ns v l e h = limit_imm16 ns v l Imm16 e refl
no_two Imm32 ns v l e h = limit_imm32 ns v l Imm32 e refl
no_two Other ns v l e h = limit_other ns v l Other e refl

pub returns-in_default : goal.returns-in_default
returns-in_default c = λ n. rw (to_z-of_z c.ranges.limit) (no_two _ (nodes_in c.args.ws.now c.args.val.now n) c.args.v c.args.limit (rw c.from-at.ensures at c.kind_of.ensures) c.in_default.not-Two)

pub returns : goal.returns
returns c = λ n.
    let a = c.args in
    let ns = nodes_in a.ws.now a.val.now n in
    let o = c.in-Two.o in
    to_z-of_z {w = w16} (record { sfits = c.limit_by.type_inv })
    ∙ ◌∙◌ {b = cond (is_subtract o) (limit_in (value (tree_below ns a.v (left_at ns a.v))) (item_index (tree_below ns a.v (right_at ns a.v))) a.limit) a.limit}
    (rw (to_z-of_z c.ranges.limit, c.number_below-x.ensures n, c.index_below-index.ensures n, c.from-at.ensures) at c.limit_by.ensures)
    (limit_two ns a.v a.limit _ (rw c.from-at.ensures at c.kind_of.ensures) o c.in-Two.is)
