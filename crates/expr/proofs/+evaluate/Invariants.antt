use Rattle.std.proofs.Common.{◌+◌, ◌*◌}
use Rattle.expr.proofs.+evaluate.Given as goal

abbrev pub decreases-evaluate : goal.decreases-evaluate
decreases-evaluate l = 2 * l.b + 1

abbrev pub decreases-evaluate_below : goal.decreases-evaluate_below
decreases-evaluate_below l = 2 * l.b
