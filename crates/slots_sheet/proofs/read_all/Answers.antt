-- The steps are laws of specs/.
use Rattle.std.proofs.lemmas.Result.{err_from_is_err_and}
use Rattle.slots_sheet.specs.Steps.{number_read, number_refused}
use Rattle.slots_sheet.specs.Whole.{items_are, items_not, timers_are, timers_not, head_no, timers_no, setup_no, head_got}
use Rattle.slots_sheet.proofs.read_all.Goals as goal

pub returns-in_err-i : goal.returns-in_err-i
returns-in_err-i c =
    let p = err_from_is_err_and c.from_residual.result c.from_residual.ensures.1 in
    rw (p.1, p.2) (head_no _ c.args.attached.now _ (items_not c.args.s.now c.args.attached.now _ c.read_items.ensures c.in_err-i.was))

pub returns-in_err-t : goal.returns-in_err-t
returns-in_err-t c =
    let u = items_are c.args.s.now c.args.attached.now _ c.read_items.ensures c.in_ok-i.was in
    let p = err_from_is_err_and c.from_residual-in_err-t.result c.from_residual-in_err-t.ensures.1 in
    rw (p.1, p.2) (timers_no _ _ _ _ u _ (timers_not c.args.s.now _ _ c.read_timers.ensures c.in_err-t.was))

pub returns-in_err-setup : goal.returns-in_err-setup
returns-in_err-setup c =
    let u = items_are c.args.s.now c.args.attached.now _ c.read_items.ensures c.in_ok-i.was in
    let v = timers_are c.args.s.now _ _ c.read_timers.ensures c.in_ok-t.was in
    let p = err_from_is_err_and c.from_residual-in_err-setup.result c.from_residual-in_err-setup.ensures.1 in
    rw (p.1, p.2) (setup_no _ _ _ _ u _ v _ (number_refused c.args.s.now _ c.read_setup.ensures c.in_err-setup.was))

pub returns : goal.returns
returns c =
    let u = items_are c.args.s.now c.args.attached.now _ c.read_items.ensures c.in_ok-i.was in
    let v = timers_are c.args.s.now _ _ c.read_timers.ensures c.in_ok-t.was in
    head_got _ _ _ _ u _ v _ _ (number_read c.args.s.now _ c.read_setup.ensures c.in_ok-setup.was)
