-- The steps are laws of specs/.
use Rattle.std.proofs.lemmas.Result.{err_from_is_err_and}
use Rattle.text_read.specs.declared.Fault.TheVariants.{NoSlot}
use Rattle.text_read.specs.Lines.{start_no, start_other, start_is, blank_start}
use Rattle.text_read.proofs.read_start.Goals as goal

pub returns-in_err-n : goal.returns-in_err-n
returns-in_err-n c =
    let p = err_from_is_err_and c.from_residual.result c.from_residual.ensures.1 in
    rw (p.1, p.2) (start_no c.args.s.now c.args.at c.args.i _ c.in_err-n.ensures)

pub returns-then-n-i : goal.returns-then-n-i
returns-then-n-i c = start_other c.args.s.now c.args.at c.args.i _ _ c.if-n-i.true c.in_ok-n.ensures

pub returns : goal.returns
returns c = blank_start _ _ NoSlot _ _ (start_is c.args.s.now c.args.at c.args.i _ _ c.if-n-i.false c.in_ok-n.ensures) _ c.behind_blank.ensures
