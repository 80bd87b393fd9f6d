use Rattle.lanes_falls.specs.Marking.{links_all, links_none, next_high, other_high}
use Rattle.lanes_falls.proofs.links_below.Goals as goal

pub returns-then-bw-b-ne1 : goal.returns-then-bw-b-ne1
returns-then-bw-b-ne1 c = links_none c.args.cw.now c.args.bw.now c.args.b _ _ c.if-bw-b-ne1.true

pub returns-then-not-link_below : goal.returns-then-not-link_below
returns-then-not-link_below c = next_high c.args.cw.now c.args.bw.now c.args.b _ c.if-bw-b-ne1.false _ _ c.if-not-link_below.true c.link_below.ensures

pub returns-then-not-link_below-2 : goal.returns-then-not-link_below-2
returns-then-not-link_below-2 c = other_high c.args.cw.now c.args.bw.now c.args.b _ c.if-bw-b-ne1.false _ _ _ c.if-not-link_below.false c.if-not-link_below-2.true c.link_below.ensures c.link_below-2.ensures

pub returns : goal.returns
returns c = links_all c.args.cw.now c.args.bw.now c.args.b _ c.if-bw-b-ne1.false _ _ _ _ c.if-not-link_below.false c.if-not-link_below-2.false c.link_below.ensures c.link_below-2.ensures c.targets_below.ensures
