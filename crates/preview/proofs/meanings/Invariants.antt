-- The pairs of the slots passed are shown. Assumes nothing.
use Rattle.shop.specs.Shapes.{sheet_of}
use Rattle.shop_arrays.specs.Arrays.{arrays_in, shop_from}
use Rattle.checks.specs.Calls.{save_of}
use Rattle.preview.proofs.Pairs.{ShownTo}
use Rattle.preview.proofs.meanings.Given as goal

abbrev pub invariant-loop-i : goal.invariant-loop-i
invariant-loop-i l = ShownTo (sheet_of l.attached l.sheet) (save_of l.items l.atcs l.flags l.times l.vars) (shop_from (arrays_in l.sold l.limits l.codes l.lens)).slots l.i l.out
