-- Each Not is taken off, with its sign. Assumes nothing.
use Rattle.std.proofs.Common.{[], sym, ◌∙◌, arith}
use Rattle.parse_conditions.proofs.Reading.{under_not}
use Rattle.parse_conditions.proofs.under_nots.Goals as goal

pub loop-o-preserved : goal.loop-o-preserved
loop-o-preserved c =
    (omega arith, λ vs. under_not c.args.ws.now vs c.args.b c.args.i c.args.neg c.loop-o.o.b c.loop-o.o.i c.loop-o.o.neg (c.loop-o.invariant.1 vs) (omega arith) _ c.kind_of.ensures (sym c.is_not.ensures ∙ c.if-is_not.true) _ c.from.ensures)

pub returns-else-is_not-clause-low : goal.returns-else-is_not-clause-low
returns-else-is_not-clause-low c = (c.loop-o.invariant.1 []).low

pub returns-after-loop-o-clause-low : goal.returns-after-loop-o-clause-low
returns-after-loop-o-clause-low c = (c.loop-o.invariant.1 []).low
