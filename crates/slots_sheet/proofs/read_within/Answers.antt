-- The steps are laws of specs/.
use Rattle.std.proofs.Common.{arith}
use Rattle.std.proofs.lemmas.Result.{err_from_is_err_and}
use Rattle.slots_sheet.specs.Told.{within}
use Rattle.slots_sheet.specs.Steps.{judged_refused, entry_no, entry_got, within_low, within_high, within_in}
use Rattle.slots_sheet.proofs.read_within.Goals as goal
use Rattle.slots_sheet.proofs.read_within.Goals.{then-v-least-via-then-v-least, then-v-least-via-else-v-least+then-most-v}

pub returns-in_err-v : goal.returns-in_err-v
returns-in_err-v c =
    let p = err_from_is_err_and c.from_residual.result c.from_residual.ensures.1 in
    rw (p.1, p.2) (judged_refused c.args.s.now c.args.at c.read.ensures (within c.args.least c.args.most) c.in_err-v.was)

pub returns-then-v-least : goal.returns-then-v-least
returns-then-v-least c =
    entry_no c.args.s.now c.args.at c.read.ensures (within c.args.least c.args.most) c.in_ok-v.was
    (elim c.then-v-least.branch [
      | then-v-least-via-then-v-least w ↦ within_low c.args.least c.args.most c.in_ok-v.v (omega arith)
      | then-v-least-via-else-v-least+then-most-v w ↦ within_high c.args.least c.args.most c.in_ok-v.v (omega arith)
    ])

pub returns : goal.returns
returns c = entry_got c.args.s.now c.args.at c.read.ensures (within c.args.least c.args.most) c.in_ok-v.was (within_in c.args.least c.args.most c.in_ok-v.v (omega arith) (omega arith))
