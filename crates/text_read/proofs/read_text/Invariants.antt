-- The first i lines are read, and their slots stand in the shop.
use Rattle.text_read.specs.Whole.{Lines}
use Rattle.text_read.proofs.read_text.Given as goal

abbrev pub invariant-loop-i : goal.invariant-loop-i
invariant-loop-i l = Lines l.s l.i l.p l.shop
