use Rattle.std.proofs.Common.{◌≡◌, ◌<◌, ◌+◌, ◌-◌, take, arith, sym, ◌∙◌}
use Rattle.reach.specs.Stacks.{top_of, top_here, top_skip}
use Rattle.reach.proofs.top_unmarked.Goals as goal

pub returns-then-not-is_marked : goal.returns-then-not-is_marked
returns-then-not-is_marked c =
    let h : 0 < c.loop-d.d = omega arith in
    let e : c.loop-d.d - 1 + 1 ≡ c.loop-d.d = omega arith in
    let t = top_here (take c.args.nb c.args.marks.now) c.args.stack.now c.loop-d.d c.is_marked.result h c.is_marked.ensures c.if-not-is_marked.true in
    cc

pub loop-d-preserved : goal.loop-d-preserved
loop-d-preserved c =
    let h : 0 < c.loop-d.d = omega arith in
    c.loop-d.invariant ∙ top_skip (take c.args.nb c.args.marks.now) c.args.stack.now c.loop-d.d c.is_marked.result h c.is_marked.ensures c.if-not-is_marked.false

pub returns : goal.returns
unfolding top_of
returns c =
    let e : c.loop-d.d ≡ 0 = omega arith in
    sym (rw e at c.loop-d.invariant)
