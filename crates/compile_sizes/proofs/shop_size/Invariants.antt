-- The loop of `shop_size`: the Return block and the slots from i on are counted.
use Rattle.shop.specs.Shapes.{sheet_of}
use Rattle.shop_arrays.specs.Arrays.{arrays_in, shop_from}
use Rattle.compile_sizes.specs.Slots.{Summed}
use Rattle.compile_sizes.proofs.shop_size.Given as goal

abbrev pub invariant-loop-i : goal.invariant-loop-i
invariant-loop-i l = Summed (sheet_of l.attached l.sheet) (shop_from (arrays_in l.items l.limits l.codes l.lens)).slots l.i l.total
