-- The checks answer in their order. Assumes nothing.
use Rattle.std.proofs.Common.{◌∙◌, sym}
use Rattle.std.proofs.lemmas.Result.{err_from_is_err_and}
use Rattle.model.specs.Refusals.{refusal_in}
use Rattle.memory.specs.View.{memory_of, coded_of}
use Rattle.shop.specs.Shapes.{sheet_of}
use Rattle.model.specs.Refusals.{refuses}
use Rattle.checks.specs.Passed.{record_kept}
use Rattle.checks.proofs.Checks.{call_sheet, call_setup, call_refused}
use Rattle.checks.proofs.check_call.Goals as goal

pub returns-then-not-check_sheet : goal.returns-then-not-check_sheet
returns-then-not-check_sheet c =
    call_sheet (sheet_of c.args.attached.now c.args.sheet) (memory_of c.args.ws.now c.args.val.now c.args.cw.now c.args.bw.now c.args.counts) c.args.start.0 (sym c.check_sheet.ensures ∙ c.if-not-check_sheet.true)

pub returns-in_err-check_record : goal.returns-in_err-check_record
returns-in_err-check_record c =
    let p = err_from_is_err_and c.from_residual.result c.from_residual.ensures.1 in
    rw (p.1, p.2) (call_refused (sheet_of c.args.attached.now c.args.sheet) (memory_of c.args.ws.now c.args.val.now c.args.cw.now c.args.bw.now c.args.counts) c.args.start.0 _ (sym c.check_sheet.ensures ∙ c.if-not-check_sheet.false) c.in_err-check_record.ensures (refuses c.in_err-check_record.field-0.0))

pub check_setup-requires : goal.check_setup-requires
check_setup-requires c = record_kept (memory_of c.args.ws.now c.args.val.now c.args.cw.now c.args.bw.now c.args.counts) (sym c.in_ok-check_record.ensures)

pub returns : goal.returns
returns c =
    call_setup (sheet_of c.args.attached.now c.args.sheet) (memory_of c.args.ws.now c.args.val.now c.args.cw.now c.args.bw.now c.args.counts) c.args.start.0 (refusal_in c.check_setup.result) (sym c.check_sheet.ensures ∙ c.if-not-check_sheet.false) (sym c.in_ok-check_record.ensures) (c.check_setup.ensures (coded_of c.args.ws.now c.args.val.now c.args.cw.now c.args.counts))
