-- The steps are laws of specs/.
use Rattle.std.proofs.lemmas.Result.{err_from_is_err_and}
use Rattle.text_read.specs.Numbers.{minus_no, minus_zero, minus_took, plus_no, plus_took}
use Rattle.text_read.proofs.read_signed.Goals as goal

pub returns-in_err-n : goal.returns-in_err-n
returns-in_err-n c =
    let p = err_from_is_err_and c.from_residual.result c.from_residual.ensures.1 in
    rw (p.1, p.2) (minus_no c.args.s.now c.args.at _ c.args.bound c.if-stands.ensures _ c.in_err-n.ensures)

pub returns-then-n-eq0 : goal.returns-then-n-eq0
returns-then-n-eq0 c = minus_zero _ _ _ _ c.if-stands.ensures _ _ c.in_ok-n.ensures c.if-n-eq0.true

pub returns-then-stands : goal.returns-then-stands
returns-then-stands c = minus_took _ _ _ _ c.if-stands.ensures _ _ c.in_ok-n.ensures c.requires.1 c.if-n-eq0.false

pub returns-in_err-n-2 : goal.returns-in_err-n-2
returns-in_err-n-2 c =
    let p = err_from_is_err_and c.from_residual-in_err-n-2.result c.from_residual-in_err-n-2.ensures.1 in
    rw (p.1, p.2) (plus_no c.args.s.now c.args.at _ c.args.bound c.if-stands.ensures _ c.in_err-n-2.ensures)

pub returns : goal.returns
returns c = plus_took _ _ _ _ c.if-stands.ensures _ _ c.in_ok-n-2.ensures
