-- One root more.
use Rattle.std.proofs.Common.{refl}
use Rattle.reclaim_reach.specs.Pieces.{roots_step, roots_done}
use Rattle.reclaim_reach.proofs.mark_roots.Goals as goal

pub loop-root-preserved : goal.loop-root-preserved
loop-root-preserved c = roots_step c.args.roots.now _ _ c.loop-root.root-index c.loop-root.invariant c.loop-root-test.true _ refl _ c.mark-end.ensures

pub returns : goal.returns
returns c = roots_done c.args.roots.now _ _ c.loop-root.root-index c.loop-root.invariant c.loop-root-test.false
