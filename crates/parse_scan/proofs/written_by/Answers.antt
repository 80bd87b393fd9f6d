use Rattle.std.proofs.Common.{ap, ◌∙◌, ◌≡◌, ℤ, to_z-of_z, to_z, of_z, w16, w32, inl, inr}
use Rattle.std.proofs.Math.Option.{Option, some}
use Rattle.model.specs.Signed.{cut16}
use Rattle.model.specs.Memory.{nodes_in, left_at, value_at}
use Rattle.model.specs.Parse.{value}
use Rattle.expr.specs.Tree.{tree_below}
use Rattle.parse_scan.specs.Reads.{reads_first, wrote_two, wrote_one, wrote_imm16, wrote_imm32, wrote_other, code_imm16}
use Rattle.parse_scan.proofs.written_by.Goals as goal

pub returns-in-One : goal.returns-in-One
returns-in-One c = λ n.
    let a = c.args in
    let ns = nodes_in a.ws.now a.val.now n in
    ◌∙◌ {b = reads_first c.in-One.o (value (tree_below ns a.v (left_at ns a.v))) a.limit} (rw (to_z-of_z c.ranges.limit, c.number_below.ensures n, c.from-at.ensures) at c.first_of.ensures)
    (wrote_one ns a.v a.limit _ (rw c.from-at.ensures at c.kind_of.ensures) c.in-One.o c.in-One.is)

pub returns-in-Imm16 : goal.returns-in-Imm16
returns-in-Imm16 c = λ n.
    let a = c.args in
    let ns = nodes_in a.ws.now a.val.now n in
    let k = rw c.from-at.ensures at c.kind_of.ensures in
    let q : to_z w16 (of_z w16 c.cut.result) ≡ cut16 (value_at ns a.v) =
    to_z-of_z {w = w16} (record { sfits = c.cut.type_inv }) ∙ (rw (to_z-of_z {w = w32} (record { sfits = c.cut-arg-1.given }), c.from-at.ensures) at c.cut.ensures) in
    elim c.in-Imm16.is [
      | inl e ↦ ap {B = Option ℤ} some q ∙ wrote_imm16 ns a.v a.limit _ k e (c.requires.short (code_imm16 ns a.v a.limit _ k e))
      | inr e ↦ ap {B = Option ℤ} some q ∙ wrote_imm32 ns a.v a.limit _ k e
    ]

pub returns-in-Two : goal.returns-in-Two
returns-in-Two c = λ n.
    let a = c.args in
    let ns = nodes_in a.ws.now a.val.now n in
    let k = rw c.from-at.ensures at c.kind_of.ensures in
    elim c.in-Two.is [ inl e ↦ wrote_two ns a.v a.limit _ k e.0 e.1 | inr e ↦ wrote_other ns a.v a.limit _ k e ]
