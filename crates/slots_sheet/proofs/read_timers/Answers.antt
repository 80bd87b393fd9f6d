-- The steps are laws of specs/.
use Rattle.std.proofs.lemmas.Result.{err_from_is_err_and}
use Rattle.slots_sheet.specs.Told.{timer}
use Rattle.slots_sheet.specs.Steps.{entry_read, entry_refused, five_no, ten_no, fifteen_no, timers_got}
use Rattle.slots_sheet.proofs.read_timers.Goals as goal

pub returns-in_err-five : goal.returns-in_err-five
returns-in_err-five c =
    let p = err_from_is_err_and c.from_residual.result c.from_residual.ensures.1 in
    rw (p.1, p.2) (five_no c.args.s.now c.args.at c.args.n _ (entry_refused c.args.s.now c.args.at (timer c.args.n c.args.n c.args.n) c.read_timer.ensures c.in_err-five.was))

pub returns-in_err-ten : goal.returns-in_err-ten
returns-in_err-ten c =
    let x = entry_read c.args.s.now c.args.at (timer c.args.n c.args.n c.args.n) c.read_timer.ensures c.in_ok-five.was in
    let p = err_from_is_err_and c.from_residual-in_err-ten.result c.from_residual-in_err-ten.ensures.1 in
    rw (p.1, p.2) (ten_no c.args.s.now c.args.at c.args.n _ _ x _ (entry_refused c.args.s.now c.in_ok-five.after (timer c.args.n c.in_ok-five.five c.args.n) c.read_timer-2.ensures c.in_err-ten.was))

pub returns-in_err-fifteen : goal.returns-in_err-fifteen
returns-in_err-fifteen c =
    let x = entry_read c.args.s.now c.args.at (timer c.args.n c.args.n c.args.n) c.read_timer.ensures c.in_ok-five.was in
    let y = entry_read c.args.s.now c.in_ok-five.after (timer c.args.n c.in_ok-five.five c.args.n) c.read_timer-2.ensures c.in_ok-ten.was in
    let p = err_from_is_err_and c.from_residual-in_err-fifteen.result c.from_residual-in_err-fifteen.ensures.1 in
    rw (p.1, p.2) (fifteen_no c.args.s.now c.args.at c.args.n _ _ x _ _ y _ (entry_refused c.args.s.now c.in_ok-ten.after (timer c.args.n c.in_ok-five.five c.in_ok-ten.ten) c.read_timer-3.ensures c.in_err-fifteen.was))

pub returns : goal.returns
returns c =
    let x = entry_read c.args.s.now c.args.at (timer c.args.n c.args.n c.args.n) c.read_timer.ensures c.in_ok-five.was in
    let y = entry_read c.args.s.now c.in_ok-five.after (timer c.args.n c.in_ok-five.five c.args.n) c.read_timer-2.ensures c.in_ok-ten.was in
    let z = entry_read c.args.s.now c.in_ok-ten.after (timer c.args.n c.in_ok-five.five c.in_ok-ten.ten) c.read_timer-3.ensures c.in_ok-fifteen.was in
    timers_got c.args.s.now c.args.at c.args.n _ _ x _ _ y _ _ z
