-- No link, or the new number of its block.
use Rattle.std.proofs.Common.{◌-◌, arith}
use Rattle.reclaim_pack.specs.Laws.{link_0, link_more}
use Rattle.reclaim_pack.proofs.follow_link.Goals as goal

pub returns-then-w-eq0 : goal.returns-then-w-eq0
returns-then-w-eq0 c = link_0 _ _ c.if-w-eq0.true

pub overflow_add-result : goal.overflow_add-result
overflow_add-result c = let s = c.requires.1 (c.args.w - 1) in omega (arith, c.rank_of.ensures)

pub returns : goal.returns
returns c = link_more _ _ _ c.if-w-eq0.false c.rank_of.ensures
