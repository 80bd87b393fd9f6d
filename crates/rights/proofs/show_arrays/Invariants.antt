-- The slots passed are shown. Assumes nothing.
use Rattle.shop_arrays.specs.Arrays.{arrays_in}
use Rattle.rights.specs.Values.{table_of}
use Rattle.rights.specs.ArrayLaws.{ShownUpTo}
use Rattle.rights.proofs.show_arrays.Given as goal

abbrev pub invariant-loop-slot : goal.invariant-loop-slot
invariant-loop-slot l = ShownUpTo (table_of l.rights) l.user (arrays_in l.fn.items l.fn.limits l.fn.codes l.fn.lens) l.slot (arrays_in l.items l.limits l.codes l.lens)
