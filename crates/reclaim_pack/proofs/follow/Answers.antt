-- One command more.
use Rattle.reclaim_pack.specs.Laws.{follow_start, follow_next, follow_end}
use Rattle.reclaim_pack.proofs.follow.Goals as goal

pub loop-i-init : goal.loop-i-init
loop-i-init c = follow_start _ _ _ _ c.from-i-end.ensures c.requires.0

pub loop-i-preserved : goal.loop-i-preserved
loop-i-preserved c = follow_next _ _ _ _ _ _ c.loop-i.invariant c.loop-i-test.true _ c.follow_code.ensures

pub returns : goal.returns
returns c = follow_end _ _ _ _ _ _ c.loop-i.invariant c.loop-i-test.false
