-- The measure is b, the node whose operand is read.
use Rattle.parse_keys.proofs.+code_below.Given as goal

abbrev pub decreases-code_below : goal.decreases-code_below
decreases-code_below l = l.b
