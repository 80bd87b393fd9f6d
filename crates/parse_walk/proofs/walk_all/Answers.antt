use Rattle.std.proofs.Common.{◌≡◌, refl, sym, ◌∙◌, arith, take}
use Rattle.std.proofs.lemmas.Result.{err_from_is_err_and}
use Rattle.model.proofs.Laws.Checks.{answered}
use Rattle.memory.specs.View.{memory_of}
use Rattle.shop_arrays.specs.Arrays.{arrays_in, shop_from}
use Rattle.reach.specs.Stacks.{top_most, is_code_at}
use Rattle.parse_visit.specs.State.{answer_in, stops, stored_in}
use Rattle.parse_walk.proofs.Turns.{few_blocks, is_code, top_fits, top_few}
use Rattle.parse_walk.proofs.Loop.{held, ends_none, ends_stopped, ends_full, visit_open, ends_refused, falls, turns}
use Rattle.parse_walk.proofs.Starts.{turning_start}
use Rattle.parse_walk.proofs.walk_all.Goals as goal

pub loop-depth-init : goal.loop-depth-init
loop-depth-init c =
    let a = c.requires in (
      turning_start _ 4096 (few_blocks _ a.accepted.0) _ a.holding.1.1.1 _ a.accepted.1 _ c.start-w.ensures _ _ _ _ a.holding.1.0 a.accepted.0 a.holding.1.1.0 refl a.holding.0,
      record { keys = refl; kids = refl; companions = refl; list = refl; seen = refl; alive = refl; cells = refl; entries = refl },
    )

pub top_unmarked-top-requires : goal.top_unmarked-top-requires
top_unmarked-top-requires c = let r = c.loop-depth.invariant.0.ready in (few_blocks _ r.accepted, r.tall)

pub returns-then-top-eq0 : goal.returns-then-top-eq0
returns-then-top-eq0 c = ends_none c.loop-depth.invariant.0 (sym c.top_unmarked-top.ensures ∙ c.if-top-eq0.true)

pub overflow_mul-d : goal.overflow_mul-d
overflow_mul-d c = omega (arith, top_few c.loop-depth.invariant.0.ready c.top_unmarked-top.ensures)

pub offset_bounds-stack-d : goal.offset_bounds-stack-d
offset_bounds-stack-d c = omega (arith, top_few c.loop-depth.invariant.0.ready c.top_unmarked-top.ensures)

pub bounds-stack-d : goal.bounds-stack-d
bounds-stack-d c = omega (arith, top_fits c.loop-depth.invariant.0.ready c.top_unmarked-top.ensures)

pub is_code-requires : goal.is_code-requires
is_code-requires c = few_blocks _ c.loop-depth.invariant.0.ready.accepted

pub returns-then-not-is_code : goal.returns-then-not-is_code
returns-then-not-is_code c = ends_stopped c.loop-depth.invariant.0 c.top_unmarked-top.ensures c.if-top-eq0.false c.from.ensures refl (sym c.is_code.ensures ∙ c.if-not-is_code.true)

pub overflow_mul-d-in-loop-depth : goal.overflow_mul-d-in-loop-depth
overflow_mul-d-in-loop-depth c = omega (arith, top_few c.loop-depth.invariant.0.ready c.top_unmarked-top.ensures)

pub overflow_add-d : goal.overflow_add-d
overflow_add-d c = omega (arith, top_few c.loop-depth.invariant.0.ready c.top_unmarked-top.ensures)

pub returns-then-stack-d : goal.returns-then-stack-d
returns-then-stack-d c =
    let m = memory_of c.args.ws.now c.args.val.now c.args.cw.now c.args.bw.now c.args.g.counts in
    let k = is_code m c.from.result (answered (is_code_at m.words m.count c.from.result) c.is_code.ensures c.if-not-is_code.false) in
    ends_full c.loop-depth.invariant.0 c.top_unmarked-top.ensures c.if-top-eq0.false c.from.ensures refl k c.loop-depth.invariant.1 c.if-stack-d.true

pub visit-v-requires-clause-held : goal.visit-v-requires-clause-held
visit-v-requires-clause-held c = held c.loop-depth.invariant.0

pub visit-v-requires-clause-fact : goal.visit-v-requires-clause-fact
visit-v-requires-clause-fact c =
    let m = memory_of c.args.ws.now c.args.val.now c.args.cw.now c.args.bw.now c.args.g.counts in
    let k = is_code m c.from.result (answered (is_code_at m.words m.count c.from.result) c.is_code.ensures c.if-not-is_code.false) in
    visit_open c.loop-depth.invariant.0 c.top_unmarked-top.ensures c.if-top-eq0.false c.from.ensures refl k c.loop-depth.invariant.1

pub returns-in_err-v : goal.returns-in_err-v
returns-in_err-v c =
    let m = memory_of c.args.ws.now c.args.val.now c.args.cw.now c.args.bw.now c.args.g.counts in
    let k = is_code m c.from.result (answered (is_code_at m.words m.count c.from.result) c.is_code.ensures c.if-not-is_code.false) in
    let x = c.visit-v.new in
    let t' = stored_in x.keys x.kids x.companions x.list x.seen x.alive x.cells in
    let s' = shop_from (arrays_in x.items x.limits x.codes x.lens) in
    let n : answer_in c.visit-v.result.walk.outcome ≡ 0 → ⊥ = λ z. stops _ (rw c.in_err-v.was at z) in
    let p = err_from_is_err_and c.from_residual.result c.from_residual.ensures.1 in
    rw (p.1, p.2)
    (rw c.in_err-v.was at (ends_refused c.loop-depth.invariant.0 c.top_unmarked-top.ensures c.if-top-eq0.false c.from.ensures refl k c.loop-depth.invariant.1 {t' = t'} {marks' = x.marks} {s' = s'}
    (c.visit-v.ensures c.loop-depth.invariant.0.conditions c.loop-depth.invariant.0.holding) n))

pub loop-depth-smaller : goal.loop-depth-smaller
loop-depth-smaller c =
    let m = memory_of c.args.ws.now c.args.val.now c.args.cw.now c.args.bw.now c.args.g.counts in
    let k = is_code m c.from.result (answered (is_code_at m.words m.count c.from.result) c.is_code.ensures c.if-not-is_code.false) in
    let x = c.visit-v.new in
    let t' = stored_in x.keys x.kids x.companions x.list x.seen x.alive x.cells in
    let s' = shop_from (arrays_in x.items x.limits x.codes x.lens) in
    let z : answer_in c.visit-v.result.walk.outcome ≡ 0 = rw c.in_ok-v.was in
    falls c.loop-depth.invariant.0 c.top_unmarked-top.ensures c.if-top-eq0.false c.from.ensures refl k c.loop-depth.invariant.1 {t' = t'} {marks' = x.marks} {s' = s'}
    (c.visit-v.ensures c.loop-depth.invariant.0.conditions c.loop-depth.invariant.0.holding) z

pub loop-depth-preserved : goal.loop-depth-preserved
loop-depth-preserved c =
    let m = memory_of c.args.ws.now c.args.val.now c.args.cw.now c.args.bw.now c.args.g.counts in
    let k = is_code m c.from.result (answered (is_code_at m.words m.count c.from.result) c.is_code.ensures c.if-not-is_code.false) in
    let x = c.visit-v.new in
    let t' = stored_in x.keys x.kids x.companions x.list x.seen x.alive x.cells in
    let s' = shop_from (arrays_in x.items x.limits x.codes x.lens) in
    let z : answer_in c.visit-v.result.walk.outcome ≡ 0 = rw c.in_ok-v.was in
    let y = c.loop-depth.invariant.1 in (
      turns c.loop-depth.invariant.0 c.top_unmarked-top.ensures c.if-top-eq0.false c.from.ensures refl k y {t' = t'} {marks' = x.marks} {s' = s'}
          (c.visit-v.ensures c.loop-depth.invariant.0.conditions c.loop-depth.invariant.0.holding) z c.push-depth.ensures (omega arith) c.push-depth.auto.stack,
      record {
        keys = c.visit-v.auto.keys ∙ y.keys;
        kids = c.visit-v.auto.kids ∙ y.kids;
        companions = c.visit-v.auto.companions ∙ y.companions;
        list = c.visit-v.auto.list ∙ y.list;
        seen = c.visit-v.auto.seen ∙ y.seen;
        alive = c.visit-v.auto.alive ∙ y.alive;
        cells = c.visit-v.auto.cells ∙ y.cells;
        entries = c.push-depth.auto.stack ∙ y.entries;
      },
    )

pub returns : goal.returns
returns c = ends_none c.loop-depth.invariant.0 (omega (arith, top_most (take c.args.g.counts.blocks c.loop-depth.marks) c.loop-depth.stack c.loop-depth.depth, c.loop-depth-test.false))
