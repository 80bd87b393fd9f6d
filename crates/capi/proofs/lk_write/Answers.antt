-- Refused, no image was written: its length is 0.
use Rattle.capi.proofs.Answered.{length_refused}
use Rattle.capi.proofs.lk_write.Goals as goal

pub returns-in-Err : goal.returns-in-Err
returns-in-Err c =
    let p = rw c.counts_by-counts.ensures at c.in-Err.ensures.0 in
    (rw c.number.ensures p, length_refused _ _ _ c.in-Err.e p)
