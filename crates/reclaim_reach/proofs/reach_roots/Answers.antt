-- Each block of the queue is followed once.
use Rattle.reclaim_reach.specs.Queue.{queued_none}
use Rattle.reclaim_reach.specs.Words.{below_low}
use Rattle.reclaim_reach.specs.Marks.{reach_start, reach_asks, reach_next, reaching}
use Rattle.reclaim_reach.proofs.reach_roots.Goals as goal

pub mark_roots-end-requires : goal.mark_roots-end-requires
mark_roots-end-requires c = (queued_none _ c.requires.2 _ c.told-todo, below_low _ c.requires.0.few c.args.roots.now c.requires.1)

pub loop-done-init : goal.loop-done-init
loop-done-init c = reach_start _ _ _ c.requires.0 _ _ _ _ c.requires.1 c.requires.2 c.told-todo c.mark_roots-end.ensures

pub mark_links-end-requires : goal.mark_links-end-requires
mark_links-end-requires c = reach_asks _ _ _ c.requires.0 _ _ _ c.loop-done.invariant c.loop-done-test.true _ c.from-b.ensures

pub loop-done-preserved : goal.loop-done-preserved
loop-done-preserved c = reach_next _ _ _ c.requires.0 _ _ _ c.loop-done.invariant c.loop-done-test.true _ c.from-b.ensures _ c.mark_links-end.ensures

pub returns : goal.returns
returns c = reaching _ _ _ c.requires.0 _ _ _ c.loop-done.invariant c.loop-done-test.false
