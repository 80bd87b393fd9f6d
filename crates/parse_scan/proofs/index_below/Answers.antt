use Rattle.std.proofs.Common.{◌≡◌, refl, ap, sym, ◌∙◌, ℕ, ◌<◌}
use Rattle.std.proofs.Math.Option.{none}
use Rattle.model.specs.declared.Kind.{Kind}
use Rattle.model.specs.declared.Kind.TheVariants.{Two, One, Imm16, Imm32, Other}
use Rattle.model.specs.declared.Op1.{Op1}
use Rattle.model.specs.Image.{kind_of}
use Rattle.model.specs.Memory.{Nodes, nodes_in, code_at, left_at}
use Rattle.model.specs.Parse.{value, item_index}
use Rattle.expr.specs.Tree.{tree_below, below_out}
use Rattle.parse_scan.specs.Reads.{index_by, index_of_one, index_two, index_imm16, index_imm32, index_other}
use Rattle.parse_scan.proofs.index_below.Goals as goal

no_one : (k : Kind) (ns : Nodes) (b i : ℕ) → i < b → k ≡ kind_of (code_at ns i) → ((o : Op1) → k ≡ One o → ⊥) → none ≡ item_index (tree_below ns b i)
no_one (Two o) ns b i lt e h = index_two ns b i lt (Two o) e o refl
no_one (One o) ns b i lt e h = absurd (h o refl)
no_one Imm16 ns b i lt e h = index_imm16 ns b i lt Imm16 e refl
no_one Imm32 ns b i lt e h = index_imm32 ns b i lt Imm32 e refl
no_one Other ns b i lt e h = index_other ns b i lt Other e refl

pub returns-then-b-i : goal.returns-then-b-i
returns-then-b-i c = λ n. sym (ap item_index (below_out (nodes_in c.args.ws.now c.args.val.now n) c.args.b c.args.i c.if-b-i.true))

pub returns-in_default : goal.returns-in_default
returns-in_default c = λ n. no_one _ (nodes_in c.args.ws.now c.args.val.now n) c.args.b c.args.i c.if-b-i.false (rw c.from-at.ensures at c.kind_of.ensures) c.in_default.not-One

pub returns : goal.returns
returns c = λ n.
    let a = c.args in
    let ns = nodes_in a.ws.now a.val.now n in
    c.index_by.ensures ∙ ap (index_by c.in-One.o) {y = value (tree_below ns a.i (left_at ns a.i))} (rw c.from-at.ensures at (c.number_below.ensures n))
    ∙ index_of_one ns a.b a.i c.if-b-i.false _ (rw c.from-at.ensures at c.kind_of.ensures) c.in-One.o c.in-One.is
