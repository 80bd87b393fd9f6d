-- The slots passed are shown. Assumes nothing.
use Rattle.rights.specs.Values.{table_of}
use Rattle.rights.specs.ShopLaws.{ShownUpTo}
use Rattle.rights.proofs.show.Given as goal

abbrev pub invariant-loop-slot : goal.invariant-loop-slot
invariant-loop-slot l = ShownUpTo (table_of l.rights) l.user l.fn.shop l.slot l.out
