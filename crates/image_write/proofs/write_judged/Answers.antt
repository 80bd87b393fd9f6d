-- The steps are laws of specs/Call.antt.
use Rattle.std.proofs.lemmas.Result.{err_from_is_err_and}
use Rattle.image_write.specs.Call.{accepted_of, fine_kept, fine_room, call_no, call_short, call_fine}
use Rattle.image_write.proofs.write_judged.Goals as goal

pub returns-in_err-len : goal.returns-in_err-len
returns-in_err-len c =
    let p = err_from_is_err_and c.from_residual.result c.from_residual.ensures.1 in
    rw (p.1, p.2) (call_no _ _ _ c.in_err-len.ensures)

pub returns-then-len-out : goal.returns-then-len-out
returns-then-len-out c = call_short (accepted_of c.in_ok-len.ensures) _ c.if-len-out.true

pub write_record-requires : goal.write_record-requires
write_record-requires c =
    let a = accepted_of c.in_ok-len.ensures in
    (fine_kept a, fine_room a _ c.if-len-out.false)

pub returns : goal.returns
returns c = call_fine (accepted_of c.in_ok-len.ensures) _ c.if-len-out.false c.write_record.ensures
