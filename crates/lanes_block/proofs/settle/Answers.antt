use Rattle.std.proofs.Common.{◌≡◌, rules, get_or, pos, to_z, of_z, w32}
use Rattle.lanes_block.specs.Laws.{settled_more}
use Rattle.lanes_block.proofs.settle.Goals as goal

pub loop-j-preserved : goal.loop-j-preserved
loop-j-preserved c =
    let f : to_z w32 (of_z w32 (get_or c.args.out.now c.loop-j.j (pos 0))) ≡ get_or c.args.out.now c.loop-j.j (pos 0) = search rules in
    settled_more c.args.lanes.now c.args.exit c.args.out.now c.args.stops.now c.args.at.now c.args.answers.now c.args.entered.now c.args.s
    c.loop-j.j c.loop-j.at c.loop-j.answers c.loop-j.entered c.requires.0 c.loop-j-test.true c.loop-j.invariant
    c.told-at c.told-answers c.told-entered c.from-lane.result c.from-lane.ensures c.choose-way.result (rw f at c.choose-way.ensures)
