-- The steps are laws of specs/.
use Rattle.std.proofs.lemmas.Result.{err_from_is_err_and}
use Rattle.text_read.specs.Lines.{requirement_end, requirement_none, id_no, id_took, flag_no, flag_took}
use Rattle.text_read.proofs.read_requirement.Goals as goal

pub returns-in_default : goal.returns-in_default
returns-in_default c = requirement_end c.args.s.now c.args.at c.in_default.ensures

pub returns-in_default-kind_for : goal.returns-in_default-kind_for
returns-in_default-kind_for c = requirement_none _ _ _ c.in-Some.ensures c.in_default-kind_for.ensures

pub returns-in_err-z : goal.returns-in_err-z
returns-in_err-z c =
    let p = err_from_is_err_and c.from_residual.result c.from_residual.ensures.1 in
    rw (p.1, p.2) (flag_no _ _ _ c.in-Some.ensures _ c.in-Some-kind_for.ensures c.if-kind-gt3.true _ c.in_err-z.ensures)

pub returns-then-kind-gt3 : goal.returns-then-kind-gt3
returns-then-kind-gt3 c = flag_took _ _ _ c.in-Some.ensures _ c.in-Some-kind_for.ensures c.if-kind-gt3.true _ _ c.in_ok-z.ensures

pub returns-in_err-n : goal.returns-in_err-n
returns-in_err-n c =
    let p = err_from_is_err_and c.from_residual-in_err-n.result c.from_residual-in_err-n.ensures.1 in
    rw (p.1, p.2) (id_no _ _ _ c.in-Some.ensures _ c.in-Some-kind_for.ensures c.if-kind-gt3.false _ c.in_err-n.ensures)

pub returns : goal.returns
returns c = id_took _ _ _ c.in-Some.ensures _ c.in-Some-kind_for.ensures c.if-kind-gt3.false _ _ c.in_ok-n.ensures
