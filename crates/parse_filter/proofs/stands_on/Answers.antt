use mathlib.Core.Path.{refl, sym, ap, ◌∙◌}
use mathlib.Core.List.{[]}
use native.Mathlib.Omega.{arith}
use lib.Dec.{eqb}
use Rattle.parse_filter.proofs.ChainLaws.{reached_end, reached_step}
use Rattle.parse_filter.proofs.stands_on.Goals as goal

pub loop-c-init : goal.loop-c-init
loop-c-init c = (omega arith, refl)

pub overflow_mul-c : goal.overflow_mul-c
overflow_mul-c c =
    omega (arith, c.requires.row c.loop-c.c (omega (arith, c.loop-c-test.true)) c.loop-c.invariant.0)

pub offset_bounds-cells-c : goal.offset_bounds-cells-c
offset_bounds-cells-c c =
    omega (arith, c.requires.row c.loop-c.c (omega (arith, c.loop-c-test.true)) c.loop-c.invariant.0)

pub bounds-cells-c : goal.bounds-cells-c
bounds-cells-c c =
    c.requires.row c.loop-c.c (omega (arith, c.loop-c-test.true)) c.loop-c.invariant.0

pub loop-c-smaller : goal.loop-c-smaller
loop-c-smaller c =
    rw c.from-c.ensures (c.requires.lower c.loop-c.c (omega (arith, c.loop-c-test.true)) c.loop-c.invariant.0)

pub loop-c-preserved : goal.loop-c-preserved
loop-c-preserved c =
    let h = c.requires.lower c.loop-c.c (omega (arith, c.loop-c-test.true)) c.loop-c.invariant.0 in
    rw c.from-c.ensures
    (omega (arith, h, c.loop-c.invariant.0), sym (reached_step [] c.args.cells.now [] c.args.below c.loop-c.c c.loop-c-test.true h) ∙ c.loop-c.invariant.1)

pub returns : goal.returns
returns c =
    ap (λ x. eqb x c.args.below) (sym (reached_end [] c.args.cells.now [] c.args.below c.loop-c.c c.loop-c-test.false) ∙ c.loop-c.invariant.1)
