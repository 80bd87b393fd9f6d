-- Its requirements are lost. Assumes nothing.
use Rattle.std.proofs.Common.{arith}
use Rattle.signed_check.specs.Slots.{none_told, sorted_few}
use Rattle.signed_check.proofs.without_item.Goals as goal

pub overflow_sub-result : goal.overflow_sub-result
overflow_sub-result c = omega (arith, sorted_few c.args.slot c.args.n c.requires.1)

pub returns : goal.returns
returns c = none_told c.args.slot c.args.n c.requires.0 c.requires.1
