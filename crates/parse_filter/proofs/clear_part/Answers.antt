use mathlib.Core.Path.{◌≡◌, refl}
use native.Mathlib.Omega.{arith}
use lib.ListN.{length, length-set}
use Rattle.parse_filter.proofs.Marking.{part_none, unmarks_none, signed_place, cleared_on}
use Rattle.parse_filter.proofs.clear_part.Goals as goal

pub loop-j-init : goal.loop-j-init
loop-j-init c =
    ((omega arith, c.requires.low), (rw part_none (unmarks_none c.args.seen.now), refl))

pub bounds-list-j : goal.bounds-list-j
bounds-list-j c =
    omega (arith, c.loop-j-test.true, c.requires.high)

pub signed_entry-requires : goal.signed_entry-requires
signed_entry-requires c =
    c.requires.other c.loop-j.j c.loop-j.invariant.0.0 c.loop-j-test.true

pub bounds-seen-from : goal.bounds-seen-from
bounds-seen-from c =
    rw (c.from.ensures, c.signed_entry.ensures, c.loop-j.invariant.1.1)
    (signed_place c.args.companions.now c.args.list.now (length c.args.seen.now) c.args.from c.args.to c.args.neg c.loop-j.j c.requires c.loop-j.invariant.0.0 c.loop-j-test.true)

pub loop-j-preserved : goal.loop-j-preserved
loop-j-preserved c = (
  (omega (arith, c.loop-j.invariant.0.0), omega (arith, c.loop-j-test.true)),
  (
    rw (c.from.ensures, c.signed_entry.ensures)
        (cleared_on c.args.companions.now c.args.list.now c.args.seen.now c.args.from c.args.to c.args.neg c.loop-j.j c.requires c.loop-j.invariant.0.0 c.loop-j-test.true c.loop-j.seen c.loop-j.invariant.1.1 c.loop-j.invariant.1.0),
    simp length-set c.loop-j.invariant.1.1,
  ),
)

pub returns : goal.returns
returns c =
    let z : c.loop-j.j ≡ c.args.to = omega (arith, c.loop-j-test.false, c.loop-j.invariant.0.1) in
    rw z at c.loop-j.invariant.1.0
