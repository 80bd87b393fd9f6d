-- The checks answer in their order.
use Rattle.std.proofs.Common.{sym, ◌∙◌}
use Rattle.std.proofs.lemmas.Result.{err_from_is_err_and}
use Rattle.memory.specs.View.{memory_of}
use Rattle.checks.specs.Calls.{save_of}
use Rattle.shop.specs.Shapes.{sheet_of}
use Rattle.model.specs.Refusals.{refuses}
use Rattle.checks.specs.Passed.{items_low}
use Rattle.lanes.proofs.Saves.{check_refused, check_saves, call_safe, check_walk, check_passed}
use Rattle.lanes.proofs.check_all.Goals as goal

pub returns-in_err-check_call : goal.returns-in_err-check_call
returns-in_err-check_call c =
    let p = err_from_is_err_and c.from_residual.result c.from_residual.ensures.1 in
    rw (p.1, p.2)
    (check_refused (sheet_of c.args.attached.now c.args.sheet) (memory_of c.args.ws.now c.args.val.now c.args.cw.now c.args.bw.now c.args.counts) c.args.start.0 c.args.k (save_of c.args.items.now c.args.atcs.now c.args.flags.now c.args.times.now c.args.vars.now) _ c.in_err-check_call.ensures (refuses c.in_err-check_call.field-0.0))

pub check_saves-requires : goal.check_saves-requires
check_saves-requires c = items_low c.args.attached.now c.args.sheet (memory_of c.args.ws.now c.args.val.now c.args.cw.now c.args.bw.now c.args.counts) c.args.start.0 (sym c.in_ok-check_call.ensures)

pub returns-then-not-check_saves : goal.returns-then-not-check_saves
returns-then-not-check_saves c =
    let h = sheet_of c.args.attached.now c.args.sheet in
    let m = memory_of c.args.ws.now c.args.val.now c.args.cw.now c.args.bw.now c.args.counts in
    let f = save_of c.args.items.now c.args.atcs.now c.args.flags.now c.args.times.now c.args.vars.now in
    check_saves h m c.args.start.0 c.args.k f (sym c.in_ok-check_call.ensures) (sym c.check_saves.ensures ∙ c.if-not-check_saves.true)

pub check_walk-requires : goal.check_walk-requires
check_walk-requires c =
    let h = sheet_of c.args.attached.now c.args.sheet in
    let m = memory_of c.args.ws.now c.args.val.now c.args.cw.now c.args.bw.now c.args.counts in
    let f = save_of c.args.items.now c.args.atcs.now c.args.flags.now c.args.times.now c.args.vars.now in
    call_safe h m c.args.start.0 c.args.k f (sym c.in_ok-check_call.ensures)

pub returns-then-not-check_walk : goal.returns-then-not-check_walk
returns-then-not-check_walk c =
    let h = sheet_of c.args.attached.now c.args.sheet in
    let m = memory_of c.args.ws.now c.args.val.now c.args.cw.now c.args.bw.now c.args.counts in
    let f = save_of c.args.items.now c.args.atcs.now c.args.flags.now c.args.times.now c.args.vars.now in
    check_walk h m c.args.start.0 c.args.k f (sym c.in_ok-check_call.ensures) (sym c.check_saves.ensures ∙ c.if-not-check_saves.false) (sym (c.check_walk.ensures c.args.ws.now c.args.val.now) ∙ c.if-not-check_walk.true)

pub returns : goal.returns
returns c =
    let h = sheet_of c.args.attached.now c.args.sheet in
    let m = memory_of c.args.ws.now c.args.val.now c.args.cw.now c.args.bw.now c.args.counts in
    let f = save_of c.args.items.now c.args.atcs.now c.args.flags.now c.args.times.now c.args.vars.now in
    check_passed h m c.args.start.0 c.args.k f (sym c.in_ok-check_call.ensures) (sym c.check_saves.ensures ∙ c.if-not-check_saves.false) (sym (c.check_walk.ensures c.args.ws.now c.args.val.now) ∙ c.if-not-check_walk.false)
