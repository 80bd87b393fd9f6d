-- The steps are laws of specs/CommandLaws.antt.
use Rattle.std.proofs.lemmas.Result.{err_from_is_err_and}
use Rattle.image_read.specs.CommandLaws.{is_term, no_term, if_no, if_no_2, if_done}
use Rattle.image_read.proofs.read_if.Goals as goal

pub returns-in_err-a : goal.returns-in_err-a
returns-in_err-a c =
    let p = err_from_is_err_and c.from_residual.result c.from_residual.ensures.1 in
    rw (p.1, p.2) (if_no _ _ _ _ _ _ _ _ _ _ _ _ (no_term _ _ _ _ _ _ _ _ c.in_err-a.ensures.told))

pub returns-in_err-k : goal.returns-in_err-k
returns-in_err-k c =
    let p = err_from_is_err_and c.from_residual-in_err-k.result c.from_residual-in_err-k.ensures.1 in
    rw (p.1, p.2) (if_no_2 _ _ _ _ _ _ _ _ _ _ _ _ (is_term _ _ _ _ _ _ _ _ _ c.in_ok-a.ensures.told) _ _ _ _ c.in_err-k.ensures)

pub returns : goal.returns
returns c = if_done _ _ _ _ _ _ _ _ _ _ _ _ (is_term _ _ _ _ _ _ _ _ _ c.in_ok-a.ensures.told) _ _ _ _ c.in_ok-k.ensures c.push_command.ensures
