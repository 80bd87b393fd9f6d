-- The sheet of the numbers handed in.
use Rattle.capi_stage.specs.Told.{written_refused}
use Rattle.capi_stage.proofs.lk_write_heading.Goals as goal

pub returns-in-Err : goal.returns-in-Err
returns-in-Err c =
    let p = rw c.sheet_by-sheet.ensures at c.in-Err.ensures.0 in
    (rw c.number.ensures p, written_refused _ _ _ _ p)
