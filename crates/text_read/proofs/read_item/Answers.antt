-- The steps are laws of specs/.
use Rattle.std.specs.Prelude.{Some, None}
use Rattle.std.proofs.Common.{refl}
use Rattle.std.proofs.Math.Option.{none}
use Rattle.std.proofs.lemmas.Result.{err_from_is_err_and}
use Rattle.text_read.specs.declared.Fault.TheVariants.{NoItem}
use Rattle.text_read.specs.Told.{IsItem}
use Rattle.text_read.specs.Lines.{blank_took, blank_not, item_none, item_no, item_some, item_is}
use Rattle.text_read.proofs.read_item.Goals as goal

pub returns-in_err-after : goal.returns-in_err-after
returns-in_err-after c =
    let p = err_from_is_err_and c.from_residual.result c.from_residual.ensures.1 in
    rw (p.1, p.2) (blank_not _ _ NoItem none (item_none _ _ c.if-stands.ensures) _ c.in_err-after.ensures)

pub returns-then-stands : goal.returns-then-stands
returns-then-stands c = blank_took _ _ NoItem none (item_none _ _ c.if-stands.ensures) (IsItem None) refl _ c.in_ok-after.ensures

pub returns-in_err-n : goal.returns-in_err-n
returns-in_err-n c =
    let p = err_from_is_err_and c.from_residual-in_err-n.result c.from_residual-in_err-n.ensures.1 in
    rw (p.1, p.2) (item_no c.args.s.now c.args.at c.if-stands.ensures _ c.in_err-n.ensures)

pub returns-in_err-after-2 : goal.returns-in_err-after-2
returns-in_err-after-2 c =
    let p = err_from_is_err_and c.from_residual-in_err-after-2.result c.from_residual-in_err-after-2.ensures.1 in
    rw (p.1, p.2) (blank_not _ _ NoItem _ (item_some _ _ c.if-stands.ensures _ _ c.in_ok-n.ensures) _ c.in_err-after-2.ensures)

pub returns : goal.returns
returns c = blank_took _ _ NoItem _ (item_some _ _ c.if-stands.ensures _ _ c.in_ok-n.ensures) (IsItem (Some (record { 0 = c.in_ok-n.n }))) (item_is c.in_ok-n.n _ c.in_ok-n.ensures.is) _ c.in_ok-after-2.ensures
