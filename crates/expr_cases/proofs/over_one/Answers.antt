-- A node over an expression that was appended last.
use Rattle.std.proofs.Common.{arith}
use Rattle.expr_cases.specs.Stands.{one_stands}
use Rattle.expr_cases.proofs.over_one.Goals as goal

pub returns : goal.returns
returns c = λ s e. one_stands c.args.o (omega (arith, c.push_node.ensures.counted)) c.code_one-code.ensures c.turned.ensures e c.push_node.ensures
