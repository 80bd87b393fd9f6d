-- Left, or set at its new place.
use Rattle.reclaim_pack.specs.Laws.{packed_none, packed_one}
use Rattle.reclaim_pack.proofs.pack_block.Goals as goal

pub returns-then-not-live-i : goal.returns-then-not-live-i
returns-then-not-live-i c = packed_none _ _ _ _ _ c.from-i.ensures c.if-not-live-i.true

pub returns : goal.returns
returns c = packed_one _ _ _ _ _ _ _ _ _ c.from-i.ensures c.if-not-live-i.false c.rank_of-place.ensures c.follow_link-next.ensures c.follow_link-other.ensures c.set_block.ensures
