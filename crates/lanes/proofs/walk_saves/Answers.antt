use Rattle.std.proofs.Common.{arith}
use Rattle.memory.specs.View.{memory_of}
use Rattle.checks.specs.Calls.{save_of}
use Rattle.shop.specs.Shapes.{sheet_of}
use Rattle.runner.proofs.Checks.{call_ready}
use Rattle.lanes_model.proofs.Laws.Walks.{walk_passed_in}
use Rattle.lanes.proofs.Saves.{call_safe, saves_lie, saves_long}
use Rattle.lanes.proofs.Left.{left_one, left_walked}
use Rattle.lanes.proofs.walk_saves.Goals as goal

pub walk_one-requires : goal.walk_one-requires
walk_one-requires c =
    let h = sheet_of c.args.attached.now c.args.sheet in
    let m = memory_of c.args.ws.now c.args.val.now c.args.cw.now c.args.bw.now c.args.counts in
    let f = save_of c.args.items.now c.args.atcs.now c.args.flags.now c.args.times.now c.args.vars.now in
    let p = walk_passed_in h m c.args.start.0 c.args.k f c.requires in
    (call_ready m h c.args.start.0 p.call, omega (arith, saves_long c.args.attached.now c.args.sheet f c.args.k p.lengths, c.if-k-eq1.true))

-- here and below w': the variables, answers and counts that the call left
pub returns-then-k-eq1 : goal.returns-then-k-eq1
returns-then-k-eq1 c =
    let h = sheet_of c.args.attached.now c.args.sheet in
    let m = memory_of c.args.ws.now c.args.val.now c.args.cw.now c.args.bw.now c.args.counts in
    let f = save_of c.args.items.now c.args.atcs.now c.args.flags.now c.args.times.now c.args.vars.now in
    let w = c.walk_one in
    let w' = w.new in
    left_one c.args.attached.now c.args.sheet m c.args.start.0 c.args.k f c.args.answers.now c.args.entered.now w.result w'.answers w'.entered w'.vars c.if-k-eq1.true c.requires w.ensures

pub walk_all-requires : goal.walk_all-requires
walk_all-requires c =
    let h = sheet_of c.args.attached.now c.args.sheet in
    let m = memory_of c.args.ws.now c.args.val.now c.args.cw.now c.args.bw.now c.args.counts in
    let f = save_of c.args.items.now c.args.atcs.now c.args.flags.now c.args.times.now c.args.vars.now in
    let p = walk_passed_in h m c.args.start.0 c.args.k f c.requires in
    (call_ready m h c.args.start.0 p.call, saves_lie c.args.attached.now c.args.sheet c.args.items.now c.args.atcs.now c.args.flags.now c.args.times.now c.args.vars.now c.args.k p.lengths p.few_saves, (call_safe h m c.args.start.0 c.args.k f p.call).1)

pub returns : goal.returns
returns c =
    let h = sheet_of c.args.attached.now c.args.sheet in
    let m = memory_of c.args.ws.now c.args.val.now c.args.cw.now c.args.bw.now c.args.counts in
    let f = save_of c.args.items.now c.args.atcs.now c.args.flags.now c.args.times.now c.args.vars.now in
    let w = c.walk_all in
    let w' = w.new in
    left_walked c.args.attached.now c.args.sheet m c.args.start.0 c.args.k f c.args.answers.now c.args.entered.now w.result w'.answers w'.entered w'.vars c.requires
    (saves_long c.args.attached.now c.args.sheet f c.args.k (walk_passed_in h m c.args.start.0 c.args.k f c.requires).lengths) w.ensures
