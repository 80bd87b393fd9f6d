use mathlib.Core.Path.{refl, sym, ◌∙◌}
use borrow.Author.Tests.{eqb-true}
use Rattle.parse_filter.specs.Chains.{reached}
use Rattle.parse_filter.specs.Marks.{as_they_are, none_left}
use Rattle.parse_filter.proofs.marks_for.Goals as goal

pub returns-then-stands_on : goal.returns-then-stands_on
returns-then-stands_on c =
    as_they_are
    (rw c.from-below.ensures at (eqb-true (reached c.args.cells.now c.from-below.result c.args.first) c.from-below.result (sym c.stands_on.ensures ∙ c.if-stands_on.true)))
    refl refl

pub clear-requires : goal.clear-requires
clear-requires c =
    rw c.from-below.ensures c.requires.0

pub returns : goal.returns
returns c = none_left (rw c.from-below.ensures at c.clear.ensures) refl
