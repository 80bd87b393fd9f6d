-- The measure is b, the node whose operand is read.
use Rattle.parse_conditions.proofs.+read_condition.Given as goal

abbrev pub decreases-read_condition : goal.decreases-read_condition
decreases-read_condition l = l.b
