use Rattle.std.proofs.Common.{refl, sym}
use Rattle.memory.specs.View.{memory_of}
use Rattle.shop.specs.Shapes.{sheet_of}
use Rattle.checks.specs.Calls.{save_of}
use Rattle.model.specs.Refusals.{refuses}
use Rattle.runner.proofs.Checks.{call_ready, save_room, run_refused, run_bad_save, run_checked_lem}
use Rattle.runner.proofs.run.Goals as goal

pub returns-in-Err : goal.returns-in-Err
returns-in-Err c =
    run_refused (sheet_of c.args.attached.now c.args.sheet) (memory_of c.args.ws.now c.args.val.now c.args.cw.now c.args.bw.now c.args.counts) c.args.start.0
    (save_of c.args.items.now c.args.atcs.now c.args.flags.now c.args.times.now c.args.vars.now) c.args.budget _ c.in-Err.ensures (refuses c.in-Err.refusal)

pub returns-then-not-check_save : goal.returns-then-not-check_save
returns-then-not-check_save c =
    run_bad_save (sheet_of c.args.attached.now c.args.sheet) (memory_of c.args.ws.now c.args.val.now c.args.cw.now c.args.bw.now c.args.counts) c.args.start.0
    (save_of c.args.items.now c.args.atcs.now c.args.flags.now c.args.times.now c.args.vars.now) c.args.budget _ c.in_default.ensures refl (sym c.if-not-check_save.ensures)

pub run_copied-requires-clause-ready : goal.run_copied-requires-clause-ready
run_copied-requires-clause-ready c = call_ready (memory_of c.args.ws.now c.args.val.now c.args.cw.now c.args.bw.now c.args.counts) (sheet_of c.args.attached.now c.args.sheet) c.args.start.0 (sym c.in_default.ensures)

pub run_copied-requires-clause-vars_len : goal.run_copied-requires-clause-vars_len
run_copied-requires-clause-vars_len c = save_room (sheet_of c.args.attached.now c.args.sheet) (save_of c.args.items.now c.args.atcs.now c.args.flags.now c.args.times.now c.args.vars.now) (sym c.if-not-check_save.ensures)

pub returns : goal.returns
returns c =
    run_checked_lem (sheet_of c.args.attached.now c.args.sheet) (memory_of c.args.ws.now c.args.val.now c.args.cw.now c.args.bw.now c.args.counts) c.args.start.0
    (save_of c.args.items.now c.args.atcs.now c.args.flags.now c.args.times.now c.args.vars.now) c.args.budget _ c.in_default.ensures refl _ (sym c.if-not-check_save.ensures) c.run_copied.ensures
