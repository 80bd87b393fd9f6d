-- One block more.
use Rattle.reclaim_pack.specs.Answer.{tell_start, tell_room, tell_next, tell_end}
use Rattle.reclaim_pack.proofs.answer.tell_moved.Goals as goal

pub loop-b-init : goal.loop-b-init
loop-b-init c = tell_start _ _ _ _ _ c.from-b-end.ensures c.requires.0 c.told-live c.requires.1

pub moved_word-requires : goal.moved_word-requires
moved_word-requires c = tell_room _ _ _ _ _ _ _ c.loop-b.invariant c.loop-b-test.true

pub loop-b-preserved : goal.loop-b-preserved
loop-b-preserved c = tell_next _ _ _ _ _ _ _ c.loop-b.invariant c.loop-b-test.true _ c.moved_word.ensures

pub returns : goal.returns
returns c = tell_end _ _ _ _ _ _ _ c.loop-b.invariant c.loop-b-test.false
