-- The steps are laws of specs/CommandLaws.antt.
use Rattle.std.proofs.lemmas.Result.{err_from_is_err_and}
use Rattle.image_read.specs.CommandLaws.{is_term, no_term, set_bad, set_no, set_no_2, set_other_lem, set_variable_lem}
use Rattle.image_read.proofs.read_set.Goals as goal

pub returns-in_err-other : goal.returns-in_err-other
returns-in_err-other c =
    let p = err_from_is_err_and c.from_residual.result c.from_residual.ensures.1 in
    rw (p.1, p.2) (set_bad _ _ _ _ _ _ _ _ _ _ _ c.in_err-other.ensures.told)

pub returns-in_err-a : goal.returns-in_err-a
returns-in_err-a c =
    let p = err_from_is_err_and c.from_residual-in_err-a.result c.from_residual-in_err-a.ensures.1 in
    rw (p.1, p.2) (set_no _ _ _ _ _ _ _ _ _ c.in_ok-other.ensures.told _ _ _ _ (no_term _ _ _ _ _ _ _ _ c.in_err-a.ensures.told))

pub returns-then-other-ne0 : goal.returns-then-other-ne0
returns-then-other-ne0 c = set_other_lem _ _ _ _ _ _ _ _ _ c.in_ok-other.ensures.told _ _ _ _ (is_term _ _ _ _ _ _ _ _ _ c.in_ok-a.ensures.told) _ _ c.if-other-ne0.true c.push_command.ensures

pub returns-in_err-b : goal.returns-in_err-b
returns-in_err-b c =
    let p = err_from_is_err_and c.from_residual-in_err-b.result c.from_residual-in_err-b.ensures.1 in
    rw (p.1, p.2) (set_no_2 _ _ _ _ _ _ _ _ _ c.in_ok-other.ensures.told _ _ _ _ (is_term _ _ _ _ _ _ _ _ _ c.in_ok-a.ensures.told) _ _ _ _ c.if-other-ne0.false (no_term _ _ _ _ _ _ _ _ c.in_err-b.ensures.told))

pub returns : goal.returns
returns c = set_variable_lem _ _ _ _ _ _ _ _ _ c.in_ok-other.ensures.told _ _ _ _ (is_term _ _ _ _ _ _ _ _ _ c.in_ok-a.ensures.told) _ _ _ _ (is_term _ _ _ _ _ _ _ _ _ c.in_ok-b.ensures.told) _ _ c.if-other-ne0.false c.push_command-2.ensures
