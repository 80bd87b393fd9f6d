-- A command that names no block, or a mark.
use Rattle.reclaim_reach.specs.Pieces.{target_none, target_some, target_low}
use Rattle.reclaim_reach.proofs.mark_target.Goals as goal

pub returns-then-not-names_block : goal.returns-then-not-names_block
returns-then-not-names_block c = target_none c.args.cw.now c.args.i _ c.names_block.ensures _ c.requires.0 c.if-not-names_block.true

pub mark-requires : goal.mark-requires
mark-requires c = (c.requires.0, target_low c.args.cw.now c.args.i _ c.names_block.ensures c.if-not-names_block.false c.requires.2)

pub returns : goal.returns
returns c = target_some c.args.cw.now c.args.i _ c.names_block.ensures _ _ c.if-not-names_block.false c.mark.ensures
