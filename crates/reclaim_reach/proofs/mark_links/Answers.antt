-- A block that is not code links to nothing; of another next, else and the targets, one after the other.
use Rattle.reclaim_reach.specs.Pieces.{block_other, low_words, block_code}
use Rattle.reclaim_reach.proofs.mark_links.Goals as goal

pub returns-then-bw-b-ne1 : goal.returns-then-bw-b-ne1
returns-then-bw-b-ne1 c = block_other c.args.cw.now c.args.bw.now c.args.b _ c.requires.0 c.if-bw-b-ne1.true

pub mark_link-x-requires : goal.mark_link-x-requires
mark_link-x-requires c = (c.requires.0, (low_words c.args.cw.now c.args.bw.now c.args.b c.if-bw-b-ne1.false c.requires.2).next)

pub mark_link-y-requires : goal.mark_link-y-requires
mark_link-y-requires c = (c.mark_link-x.ensures.queued, (low_words c.args.cw.now c.args.bw.now c.args.b c.if-bw-b-ne1.false c.requires.2).else)

pub mark_targets-requires : goal.mark_targets-requires
mark_targets-requires c = (c.mark_link-y.ensures.queued, c.requires.2.fits c.if-bw-b-ne1.false, (low_words c.args.cw.now c.args.bw.now c.args.b c.if-bw-b-ne1.false c.requires.2).rest)

pub returns : goal.returns
returns c = block_code c.args.cw.now c.args.bw.now c.args.b c.if-bw-b-ne1.false c.requires.2 c.requires.0 c.mark_link-x.ensures c.mark_link-y.ensures c.mark_targets.ensures
