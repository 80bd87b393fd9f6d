-- The steps are laws of specs/CommandLaws.antt.
use Rattle.std.proofs.lemmas.Result.{err_from_is_err_and}
use Rattle.image_read.specs.CommandLaws.{jump_done, jump_no}
use Rattle.image_read.proofs.read_jump.Goals as goal

pub returns-in_err-k : goal.returns-in_err-k
returns-in_err-k c =
    let p = err_from_is_err_and c.from_residual.result c.from_residual.ensures.1 in
    rw (p.1, p.2) (jump_no _ _ _ _ _ _ _ _ c.in_err-k.ensures)

pub returns : goal.returns
returns c = jump_done _ _ _ _ _ _ _ _ _ _ c.in_ok-k.ensures c.push_command.ensures
