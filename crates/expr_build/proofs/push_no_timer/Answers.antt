use lib.IntN.{pos}
use Rattle.model.specs.declared.Op2.TheVariants.{Equal}
use Rattle.model.specs.declared.Op1.TheVariants.{Item}
use Rattle.expr_build.specs.Laws.{two_put}
use Rattle.expr_build.specs.Codes.{size_compare}
use native.Mathlib.Omega.{arith}
use Rattle.expr_build.proofs.push_no_timer.Goals as goal

pub push_missing_item-n2-requires : goal.push_missing_item-n2-requires
push_missing_item-n2-requires c = omega (arith, c.requires, c.push_missing_item-n1.ensures.counted, size_compare Equal Item (pos c.args.ten.0))

pub overflow_sub-n1 : goal.overflow_sub-n1
overflow_sub-n1 c = omega (arith, c.push_missing_item-n1.ensures.counted, size_compare Equal Item (pos c.args.ten.0))

pub overflow_sub-n2 : goal.overflow_sub-n2
overflow_sub-n2 c = omega (arith, c.push_missing_item-n2.ensures.counted, size_compare Equal Item (pos c.args.fifteen.0))

pub push_two-requires : goal.push_two-requires
push_two-requires c = omega (arith, c.requires, c.push_missing_item-n1.ensures.counted, size_compare Equal Item (pos c.args.ten.0), c.push_missing_item-n2.ensures.counted, size_compare Equal Item (pos c.args.fifteen.0))

pub returns : goal.returns
returns c = two_put c.push_missing_item-n1.ensures c.push_missing_item-n2.ensures c.push_two.ensures
