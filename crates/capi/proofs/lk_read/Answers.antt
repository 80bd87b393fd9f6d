-- No reason's number is 0, so the number tells a refusal from acceptance; the marks are cleared first.
use Rattle.std.proofs.Common.{refl}
use Rattle.capi.proofs.Answered.{read_fine, read_refused}
use Rattle.capi.proofs.lk_read.Goals as goal

pub returns-in-Ok : goal.returns-in-Ok
returns-in-Ok c = rw c.kept_by.ensures (read_fine _ _ _ _ c.in-Ok.counts c.in-Ok.ensures, c.start_anew.ensures, refl)

pub returns-in-Err : goal.returns-in-Err
returns-in-Err c = rw (c.kept_by-in-Err.ensures, c.number.ensures, c.counts_by.ensures) (read_refused _ _ _ _ c.in-Err.e c.in-Err.ensures, c.start_anew.ensures, refl)
