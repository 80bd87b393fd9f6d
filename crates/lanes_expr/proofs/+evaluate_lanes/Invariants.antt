-- The node whose operand is read.
use Rattle.lanes_expr.proofs.+evaluate_lanes.Given as goal

abbrev pub decreases-evaluate_lanes : goal.decreases-evaluate_lanes
decreases-evaluate_lanes l = l.b
