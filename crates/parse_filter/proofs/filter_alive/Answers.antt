use mathlib.Core.Path.{refl, ap}
use mathlib.Core.Bool.{not}
use Prim.Native.Nat.{◌<◌}
use native.Mathlib.Omega.{arith}
use lib.ListN.{length}
use Rattle.parse_filter.proofs.Sifting.{sifting_start, sifting_end, sifting_in, sifting_out}
use Rattle.parse_filter.proofs.filter_alive.Goals as goal
use Rattle.parse_filter.proofs.filter_alive.Goals.{then-not-seen-from, else-not-seen-from}

pub loop-j-init : goal.loop-j-init
loop-j-init c =
    sifting_start c.args.companions.now c.args.seen.now c.args.alive.now c.args.n c.requires.held

pub bounds-alive-j : goal.bounds-alive-j
bounds-alive-j c =
    omega (arith, c.loop-j-test.true, c.loop-j.invariant.long, c.requires.held)

pub bounds-alive-kept : goal.bounds-alive-kept
bounds-alive-kept c =
    omega (arith, c.loop-j-test.true, c.loop-j.invariant.long, c.requires.held, c.loop-j.invariant.low)

pub offset_bounds-companions-from : goal.offset_bounds-companions-from
offset_bounds-companions-from c =
    let h : c.from.result < length c.args.companions.now = rw (c.from.ensures, c.loop-j.invariant.rest c.loop-j.j (omega arith)) (c.requires.entry c.loop-j.j c.loop-j-test.true) in
    omega arith

pub bounds-companions-from : goal.bounds-companions-from
bounds-companions-from c =
    rw (c.from.ensures, c.loop-j.invariant.rest c.loop-j.j (omega arith)) (c.requires.entry c.loop-j.j c.loop-j-test.true)

pub bounds-seen-from : goal.bounds-seen-from
bounds-seen-from c =
    rw (c.from-in-loop-j.ensures, c.from.ensures, c.loop-j.invariant.rest c.loop-j.j (omega arith)) (c.requires.other c.loop-j.j c.loop-j-test.true)

pub overflow_add-kept : goal.overflow_add-kept
overflow_add-kept c = omega (arith, c.loop-j-test.true, c.loop-j.invariant.low)

pub loop-j-preserved : goal.loop-j-preserved
loop-j-preserved c =
    elim c.if-not-seen-from.branch [
      | then-not-seen-from w ↦ rw w.kept-is (sifting_in _ _ _ _ c.requires.held _ c.loop-j.kept c.loop-j.j c.loop-j.invariant c.loop-j-test.true _ refl (rw (c.from-in-loop-j.ensures, c.from.ensures) at (ap not w.if-not-seen-from.true)))
      | else-not-seen-from w ↦ rw w.kept-is (sifting_out _ _ _ _ c.requires.held _ c.loop-j.kept c.loop-j.j c.loop-j.invariant c.loop-j-test.true _ refl (rw (c.from-in-loop-j.ensures, c.from.ensures) at (ap not w.if-not-seen-from.false)))
    ]

pub returns : goal.returns
returns c =
    sifting_end _ _ _ _ c.requires.held _ c.loop-j.kept c.loop-j.j c.loop-j.invariant c.loop-j-test.false
