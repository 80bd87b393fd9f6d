-- The steps are laws of specs/.
use Rattle.std.proofs.Common.{◌∙◌, to_z-of_z}
use Rattle.std.specs.Int.{w16}
use Rattle.std.proofs.lemmas.Result.{err_from_is_err_and}
use Rattle.text_read.specs.Lines.{line_no, line_no_item, line_no_limit, line_no_requirements, line_took}
use Rattle.text_read.proofs.read_line.Goals as goal

pub returns-in_err-after : goal.returns-in_err-after
returns-in_err-after c =
    let p = err_from_is_err_and c.from_residual.result c.from_residual.ensures.1 in
    rw (p.1, p.2) (line_no c.args.s.now c.args.at c.args.i _ c.in_err-after.ensures)

pub returns-in_err-item : goal.returns-in_err-item
returns-in_err-item c =
    let p = err_from_is_err_and c.from_residual-in_err-item.result c.from_residual-in_err-item.ensures.1 in
    rw (p.1, p.2) (line_no_item _ c.args.at c.args.i _ c.in_ok-after.ensures _ c.in_err-item.ensures)

pub returns-in_err-limit : goal.returns-in_err-limit
returns-in_err-limit c =
    let p = err_from_is_err_and c.from_residual-in_err-limit.result c.from_residual-in_err-limit.ensures.1 in
    rw (p.1, p.2) (line_no_limit _ c.args.at c.args.i _ c.in_ok-after.ensures _ _ c.in_ok-item.ensures _ c.in_err-limit.ensures)

pub returns-in_err-r : goal.returns-in_err-r
returns-in_err-r c =
    let p = err_from_is_err_and c.from_residual-in_err-r.result c.from_residual-in_err-r.ensures.1 in
    rw (p.1, p.2) (line_no_requirements _ c.args.at c.args.i _ c.in_ok-after.ensures _ _ c.in_ok-item.ensures _ _ c.in_ok-limit.ensures _ c.in_err-r.ensures)

pub returns : goal.returns
returns c =
    line_took _ c.args.at c.args.i _ c.in_ok-after.ensures _ _ c.in_ok-item.ensures _ _ c.in_ok-limit.ensures _ _ _ c.in_ok-r.ensures _ (to_z-of_z {w = w16} (record { sfits = c.limit_of.type_inv }) ∙ c.limit_of.ensures)
