-- The steps are laws of specs/.
use Rattle.std.proofs.Common.{arith}
use Rattle.std.proofs.lemmas.Result.{err_from_is_err_and}
use Rattle.slots_sheet.specs.Told.{within}
use Rattle.slots_sheet.specs.Steps.{entry_read, entry_refused, atcs_no, atcs_next, atcs_done}
use Rattle.slots_sheet.proofs.read_atcs.Goals as goal

pub returns-in_err-entry : goal.returns-in_err-entry
returns-in_err-entry c =
    let p = err_from_is_err_and c.from_residual.result c.from_residual.ensures.1 in
    rw (p.1, p.2) (atcs_no _ _ _ _ _ _ _ _ c.loop-i.invariant (omega arith) _ (entry_refused c.args.s.now c.loop-i.place (within 0 c.args.m) (rw c.from.ensures at c.read_within.ensures) c.in_err-entry.was))

pub loop-i-preserved : goal.loop-i-preserved
loop-i-preserved c = atcs_next _ _ _ _ _ _ _ _ c.loop-i.invariant (omega arith) c.requires.0 _ _ (entry_read c.args.s.now c.loop-i.place (within 0 c.args.m) (rw c.from.ensures at c.read_within.ensures) c.in_ok-entry.was)

pub returns : goal.returns
returns c = atcs_done _ _ _ _ _ _ _ _ c.loop-i.invariant (omega arith) (omega arith) c.requires.0
