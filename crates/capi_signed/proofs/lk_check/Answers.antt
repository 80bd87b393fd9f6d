-- Each finding by its numbers. Assumes nothing.
use Rattle.std.proofs.Common.{ap, ◌≡◌, ◌∙◌, List, length, arith, length-set}
use Rattle.model.specs.Limits.{slot_count}
use Rattle.signed_check.specs.Answer as Told
use Rattle.capi_signed.proofs.Told.{told_more, told_whole}
use Rattle.capi_signed.proofs.lk_check.Goals as goal

pub loop-i-preserved : goal.loop-i-preserved
loop-i-preserved c =
    let l : length c.in-Ok.told ≡ slot_count = omega arith in
    let m = c.loop-i.invariant.1 in
    (c.loop-i.invariant.0, omega (arith, length-set c.loop-i.out.slots c.loop-i.i c.finding_by.result, m), told_more c.in-Ok.told c.loop-i.out.slots c.loop-i.i c.finding_by.result _ (omega (arith, l)) (omega (arith, m)) c.loop-i.invariant.2 c.finding_by.ensures)

pub returns-after-loop-i : goal.returns-after-loop-i
returns-after-loop-i c =
    let l : length c.in-Ok.told ≡ slot_count = omega arith in
    let i : c.loop-i.i ≡ slot_count = omega arith in
    rw c.loop-i.invariant.0 (ap (λ (fs : List Told.Finding). record { refusal = 0; slots = fs }) (told_whole c.in-Ok.told c.loop-i.out.slots slot_count l c.loop-i.invariant.1 (rw i at c.loop-i.invariant.2)))
    ∙ rw c.sheet_by-sheet.ensures at c.in-Ok.ensures
