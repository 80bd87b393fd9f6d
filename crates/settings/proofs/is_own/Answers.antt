-- By the tests in their order. Assumes nothing.
use Rattle.std.proofs.Common.{◌∙◌, eq-eqb}
use Rattle.settings.specs.Counting.{own_none, own_same, own_last}
use Rattle.settings.proofs.is_own.Goals as goal

pub returns-then-c-own : goal.returns-then-c-own
returns-then-c-own c = eq-eqb _ _ c.if-c-own.true ∙ own_same c.args.one c.args.own c.args.c c.if-one.true c.if-c-own.true

pub returns-else-c-own : goal.returns-else-c-own
returns-else-c-own c = own_last c.args.one c.args.own c.args.c c.if-one.true c.if-c-own.false _ c.negated.ensures

pub returns-else-one : goal.returns-else-one
returns-else-one c = c.if-one.false ∙ own_none c.args.one c.args.own c.args.c c.if-one.false
