-- One block more.
use Rattle.reclaim_pack.specs.Laws.{number_start, number_room, number_next, number_end}
use Rattle.reclaim_pack.proofs.number.Goals as goal

pub loop-b-init : goal.loop-b-init
loop-b-init c = number_start _ _ _ _ c.from-b-end.ensures c.requires

pub plus_if-n-requires : goal.plus_if-n-requires
plus_if-n-requires c = (number_room _ _ _ _ _ _ _ c.loop-b.invariant c.loop-b-test.true).1

pub loop-b-preserved : goal.loop-b-preserved
loop-b-preserved c = number_next _ _ _ _ _ _ _ c.loop-b.invariant c.loop-b-test.true _ c.plus_if-n.ensures

pub returns : goal.returns
returns c = number_end _ _ _ _ _ _ _ c.loop-b.invariant c.loop-b-test.false
