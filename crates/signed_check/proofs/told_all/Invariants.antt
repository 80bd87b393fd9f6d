-- What is told of the slots passed is there. Assumes nothing.
use Rattle.shop.specs.Shapes.{sheet_of}
use Rattle.shop_arrays.specs.Arrays.{arrays_in}
use Rattle.signed_check.specs.Shops.{Filled, told_at}
use Rattle.signed_check.proofs.told_all.Given as goal

abbrev pub invariant-loop-i : goal.invariant-loop-i
invariant-loop-i l = Filled (told_at (sheet_of l.attached l.sheet) (arrays_in l.items l.limits l.codes l.lens)) l.out l.i
