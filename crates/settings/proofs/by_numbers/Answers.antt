-- The hidden ones are not more than all. Assumes nothing.
use Rattle.std.proofs.Common.{arith}
use Rattle.settings_model.specs.Closed.{bit}
use Rattle.settings.specs.Answer.{less_power}
use Rattle.settings.proofs.by_numbers.Goals as goal

pub overflow_sub-result : goal.overflow_sub-result
overflow_sub-result c = omega (arith, less_power c.args.k c.args.f (bit c.args.met))
