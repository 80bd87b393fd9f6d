use mathlib.Core.Path.{◌≡◌, refl, ◌∙◌}
use native.Mathlib.Omega.{arith}
use lib.ListN.{length}
use Rattle.parse_filter.proofs.Marking.{part_none, marks_none, signed_place, marked_room, marked_on}
use Rattle.parse_filter.proofs.mark_part.Goals as goal

pub loop-j-init : goal.loop-j-init
loop-j-init c =
    ((omega arith, c.requires.0.low), (rw part_none (marks_none c.args.seen.now c.args.alive.now c.args.before), (refl, refl)))

pub bounds-list-j : goal.bounds-list-j
bounds-list-j c =
    omega (arith, c.loop-j-test.true, c.requires.0.high)

pub signed_entry-requires : goal.signed_entry-requires
signed_entry-requires c =
    c.requires.0.other c.loop-j.j c.loop-j.invariant.0.0 c.loop-j-test.true

pub mark_entry-a-requires : goal.mark_entry-a-requires
mark_entry-a-requires c = (
  rw (c.signed_entry.ensures, c.loop-j.invariant.1.1.0)
      (signed_place c.args.companions.now c.args.list.now (length c.args.seen.now) c.args.from c.args.to c.args.neg c.loop-j.j c.requires.0 c.loop-j.invariant.0.0 c.loop-j-test.true),
  rw c.loop-j.invariant.1.1.1
      (marked_room c.args.companions.now c.args.list.now c.args.seen.now c.args.alive.now c.args.from c.args.to c.args.neg c.args.before c.loop-j.j c.requires.0 c.loop-j.invariant.0.0 c.loop-j-test.true c.requires.1 c.loop-j.seen c.loop-j.alive c.loop-j.a c.loop-j.invariant.1.0),
)

pub loop-j-preserved : goal.loop-j-preserved
loop-j-preserved c = (
  (omega (arith, c.loop-j.invariant.0.0), omega (arith, c.loop-j-test.true)),
  (
    marked_on c.args.companions.now c.args.list.now c.args.seen.now c.args.alive.now c.args.from c.args.to c.args.neg c.args.before c.loop-j.j c.requires.0 c.loop-j.invariant.0.0 c.loop-j-test.true c.loop-j.seen c.loop-j.alive c.loop-j.a c.loop-j.invariant.1.0 c.signed_entry.result c.signed_entry.ensures _ _ _ c.mark_entry-a.ensures,
    (c.mark_entry-a.auto.seen ∙ c.loop-j.invariant.1.1.0, c.mark_entry-a.auto.alive ∙ c.loop-j.invariant.1.1.1),
  ),
)

pub returns : goal.returns
returns c =
    let z : c.loop-j.j ≡ c.args.to = omega (arith, c.loop-j-test.false, c.loop-j.invariant.0.1) in
    rw z at c.loop-j.invariant.1.0
