-- The steps are laws of specs/.
use Rattle.std.proofs.Common.{arith}
use Rattle.std.proofs.lemmas.Result.{err_from_is_err_and}
use Rattle.slots_sheet.specs.Told.{timer}
use Rattle.slots_sheet.specs.Steps.{judged_refused, entry_no, entry_got, timer_out, timer_first, timer_second, timer_in}
use Rattle.slots_sheet.proofs.read_timer.Goals as goal
use Rattle.slots_sheet.proofs.read_timer.Goals.{then-id-a-via-then-id-a, then-id-a-via-else-id-a+then-id-b}

pub returns-in_err-v : goal.returns-in_err-v
returns-in_err-v c =
    let p = err_from_is_err_and c.from_residual.result c.from_residual.ensures.1 in
    rw (p.1, p.2) (judged_refused c.args.s.now c.args.at c.read.ensures (timer c.args.n c.args.a c.args.b) c.in_err-v.was)

pub returns-then-from-v : goal.returns-then-from-v
returns-then-from-v c = entry_no c.args.s.now c.args.at c.read.ensures (timer c.args.n c.args.a c.args.b) c.in_ok-v.was (timer_out c.args.n c.args.a c.args.b c.in_ok-v.v (omega arith))

pub returns-then-id-a : goal.returns-then-id-a
returns-then-id-a c =
    entry_no c.args.s.now c.args.at c.read.ensures (timer c.args.n c.args.a c.args.b) c.in_ok-v.was
    (elim c.then-id-a.branch [
      | then-id-a-via-then-id-a w ↦ timer_first c.args.n c.args.a c.args.b c.in_ok-v.v (omega arith) w.if-id-a.true
      | then-id-a-via-else-id-a+then-id-b w ↦ timer_second c.args.n c.args.a c.args.b c.in_ok-v.v (omega arith) w.if-id-a.false w.if-id-b.true
    ])

pub returns : goal.returns
returns c = entry_got c.args.s.now c.args.at c.read.ensures (timer c.args.n c.args.a c.args.b) c.in_ok-v.was (timer_in c.args.n c.args.a c.args.b c.in_ok-v.v (omega arith) c.if-id-a.false c.if-id-b.false)
