-- The steps are laws of specs/.
use Rattle.std.proofs.Common.{arith}
use Rattle.std.proofs.lemmas.Result.{err_from_is_err_and}
use Rattle.slots_sheet.specs.Steps.{number_read, number_refused}
use Rattle.slots_sheet.specs.Whole.{setup_low}
use Rattle.slots_sheet.proofs.read_setup.Goals as goal

pub returns-in_err-v : goal.returns-in_err-v
returns-in_err-v c =
    let p = err_from_is_err_and c.from_residual.result c.from_residual.ensures.1 in
    rw (p.1, p.2) (number_refused c.args.s.now c.args.at c.read.ensures c.in_err-v.was)

pub overflow_cast-result : goal.overflow_cast-result
overflow_cast-result c = record { fits = omega (arith, setup_low _ _ _ _ (number_read c.args.s.now c.args.at c.read.ensures c.in_ok-v.was)) }

pub returns : goal.returns
returns c = number_read c.args.s.now c.args.at c.read.ensures c.in_ok-v.was
