-- A node over two expressions that were appended one after the other.
use Rattle.std.proofs.Common.{arith}
use Rattle.expr_cases.specs.Stands.{two_stands}
use Rattle.expr_cases.proofs.over_two.Goals as goal

pub returns : goal.returns
returns c = λ s t d e f.
    two_stands c.args.o (omega (arith, c.push_node.ensures.counted)) c.code_two-code.ensures
    (omega (arith, d)) c.turned.ensures e f c.push_node.ensures
