-- One block more.
use Rattle.reclaim_pack.specs.Answer.{keep_start, keep_room, keep_next, keep_end}
use Rattle.reclaim_pack.proofs.answer.pack_births.Goals as goal

pub loop-b-init : goal.loop-b-init
loop-b-init c = keep_start _ _ _ _ c.from-b-end.ensures c.requires c.told-live c.told-births

pub keep_birth-n-requires : goal.keep_birth-n-requires
keep_birth-n-requires c = keep_room _ _ _ _ _ _ _ c.loop-b.invariant c.loop-b-test.true

pub loop-b-preserved : goal.loop-b-preserved
loop-b-preserved c = keep_next _ _ _ _ _ _ _ c.loop-b.invariant c.loop-b-test.true _ _ c.keep_birth-n.ensures.0 c.keep_birth-n.ensures.1

pub returns : goal.returns
returns c = keep_end _ _ _ _ _ _ _ c.loop-b.invariant c.loop-b-test.false
