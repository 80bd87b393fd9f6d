use Rattle.std.proofs.lemmas.Result.{err_from_is_err_and}
use Rattle.memory.specs.View.{memory_of}
use Rattle.checks.specs.Calls.{save_of}
use Rattle.shop.specs.Shapes.{sheet_of}
use Rattle.lanes.proofs.Left.{left_refused}
use Rattle.lanes.proofs.run_all.Goals as goal

pub returns-in_err-check_all : goal.returns-in_err-check_all
returns-in_err-check_all c =
    let p = err_from_is_err_and c.from_residual.result c.from_residual.ensures.1 in
    let h = sheet_of c.args.attached.now c.args.sheet in
    let m = memory_of c.args.ws.now c.args.val.now c.args.cw.now c.args.bw.now c.args.counts in
    let f = save_of c.args.items.now c.args.atcs.now c.args.flags.now c.args.times.now c.args.vars.now in
    rw (p.1, p.2) (left_refused h m c.args.start.0 c.args.k f c.args.answers.now c.args.entered.now c.args.vars.now c.in_err-check_all.field-0.0 c.in_err-check_all.ensures)
