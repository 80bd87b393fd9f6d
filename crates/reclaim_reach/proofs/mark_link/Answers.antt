-- No link, or a mark.
use Rattle.reclaim_reach.specs.Pieces.{link_none, link_some}
use Rattle.reclaim_reach.proofs.mark_link.Goals as goal

pub returns-then-w-eq0 : goal.returns-then-w-eq0
returns-then-w-eq0 c = link_none _ _ c.requires.0 c.if-w-eq0.true

pub returns : goal.returns
returns c = link_some _ _ _ c.if-w-eq0.false c.mark.ensures
