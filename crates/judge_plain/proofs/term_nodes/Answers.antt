-- Assumes nothing.
use Rattle.std.proofs.Common.{arith}
use Rattle.judge_plain.specs.Commands.{term_there}
use Rattle.judge_plain.proofs.term_nodes.Goals as goal

pub returns-then-i-nodes : goal.returns-then-i-nodes
returns-then-i-nodes c = term_there _ _ _ _ _ c.if-i-nodes.true c.from.ensures c.from-then-i-nodes.ensures (omega (arith, c.from-then-i-nodes.ensures, (c.type_inv.sizes c.from.result).fits))
