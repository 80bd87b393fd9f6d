use native.Mathlib.Omega.{arith}
use Rattle.parse_filter.proofs.Walking.{cell_at, part_at, walking_start, walking_end, walking_room, walking_on}
use Rattle.parse_filter.proofs.mark_chain.Goals as goal

pub loop-c-init : goal.loop-c-init
loop-c-init c =
    walking_start c.args.companions.now c.args.cells.now c.args.list.now c.args.seen.now c.args.alive.now c.args.first c.from-below.result c.from-a.result c.requires.walk
    (rw c.from-below.ensures c.requires.stands) (rw (c.from-below.ensures, c.from-a.ensures) c.requires.few)

pub overflow_sub-j : goal.overflow_sub-j
overflow_sub-j c = omega (arith, c.loop-c-test.true)

pub overflow_sub-neg : goal.overflow_sub-neg
overflow_sub-neg c = omega (arith, c.loop-c-test.true)

pub overflow_mul-j : goal.overflow_mul-j
overflow_mul-j c =
    omega (arith, (cell_at _ _ _ _ _ c.requires.walk c.loop-c.c (omega (arith, c.loop-c-test.true)) c.loop-c.invariant.low).row)

pub overflow_add-j : goal.overflow_add-j
overflow_add-j c =
    omega (arith, (cell_at _ _ _ _ _ c.requires.walk c.loop-c.c (omega (arith, c.loop-c-test.true)) c.loop-c.invariant.low).row)

pub offset_bounds-cells-j : goal.offset_bounds-cells-j
offset_bounds-cells-j c =
    omega (arith, (cell_at _ _ _ _ _ c.requires.walk c.loop-c.c (omega (arith, c.loop-c-test.true)) c.loop-c.invariant.low).row)

pub bounds-cells-j : goal.bounds-cells-j
bounds-cells-j c =
    omega (arith, (cell_at _ _ _ _ _ c.requires.walk c.loop-c.c (omega (arith, c.loop-c-test.true)) c.loop-c.invariant.low).row)

pub overflow_mul-j-in-loop-c : goal.overflow_mul-j-in-loop-c
overflow_mul-j-in-loop-c c =
    omega (arith, (cell_at _ _ _ _ _ c.requires.walk c.loop-c.c (omega (arith, c.loop-c-test.true)) c.loop-c.invariant.low).row)

pub overflow_add-j-in-loop-c : goal.overflow_add-j-in-loop-c
overflow_add-j-in-loop-c c =
    omega (arith, (cell_at _ _ _ _ _ c.requires.walk c.loop-c.c (omega (arith, c.loop-c-test.true)) c.loop-c.invariant.low).row)

pub offset_bounds-cells-j-in-loop-c : goal.offset_bounds-cells-j-in-loop-c
offset_bounds-cells-j-in-loop-c c =
    omega (arith, (cell_at _ _ _ _ _ c.requires.walk c.loop-c.c (omega (arith, c.loop-c-test.true)) c.loop-c.invariant.low).row)

pub bounds-cells-j-in-loop-c : goal.bounds-cells-j-in-loop-c
bounds-cells-j-in-loop-c c =
    omega (arith, (cell_at _ _ _ _ _ c.requires.walk c.loop-c.c (omega (arith, c.loop-c-test.true)) c.loop-c.invariant.low).row)

pub mark_part-a-requires : goal.mark_part-a-requires
mark_part-a-requires c =
    rw (c.loop-c.invariant.size, c.from.ensures, c.from-in-loop-c.ensures)
    (part_at _ _ _ _ _ c.requires.walk c.loop-c.c (omega (arith, c.loop-c-test.true)) c.loop-c.invariant.low, walking_room _ _ _ _ _ _ _ _ c.requires.walk _ _ _ c.loop-c.c c.loop-c.invariant c.loop-c-test.true c.requires.space)

pub overflow_mul-j-in-loop-c-2 : goal.overflow_mul-j-in-loop-c-2
overflow_mul-j-in-loop-c-2 c =
    omega (arith, (cell_at _ _ _ _ _ c.requires.walk c.loop-c.c (omega (arith, c.loop-c-test.true)) c.loop-c.invariant.low).row)

pub offset_bounds-cells-j-in-loop-c-2 : goal.offset_bounds-cells-j-in-loop-c-2
offset_bounds-cells-j-in-loop-c-2 c =
    omega (arith, (cell_at _ _ _ _ _ c.requires.walk c.loop-c.c (omega (arith, c.loop-c-test.true)) c.loop-c.invariant.low).row)

pub bounds-cells-j-in-loop-c-2 : goal.bounds-cells-j-in-loop-c-2
bounds-cells-j-in-loop-c-2 c =
    omega (arith, (cell_at _ _ _ _ _ c.requires.walk c.loop-c.c (omega (arith, c.loop-c-test.true)) c.loop-c.invariant.low).row)

pub loop-c-smaller : goal.loop-c-smaller
loop-c-smaller c =
    rw c.from-c.ensures (cell_at _ _ _ _ _ c.requires.walk c.loop-c.c (omega (arith, c.loop-c-test.true)) c.loop-c.invariant.low).lower

pub loop-c-preserved : goal.loop-c-preserved
loop-c-preserved c =
    walking_on _ _ _ _ _ _ _ _ c.requires.walk _ _ _ c.loop-c.c c.loop-c.invariant c.loop-c-test.true _ _ _ c.from.ensures c.from-in-loop-c.ensures c.from-c.ensures _ _ _ c.mark_part-a.auto.seen c.mark_part-a.auto.alive c.mark_part-a.ensures

pub returns : goal.returns
returns c =
    rw (← c.from-below.ensures, ← c.from-a.ensures) (walking_end _ _ _ _ _ _ _ _ c.requires.walk _ _ _ c.loop-c.c c.loop-c.invariant c.loop-c-test.false)
