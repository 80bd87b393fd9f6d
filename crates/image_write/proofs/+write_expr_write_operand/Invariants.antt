-- Twice the number that an operand has to be below, and one more than twice a node.
use Rattle.std.proofs.Common.{◌+◌, ◌*◌}
use Rattle.image_write.proofs.+write_expr_write_operand.Given as goal

abbrev pub decreases-write_expr : goal.decreases-write_expr
decreases-write_expr l = 2 * l.i + 1

abbrev pub decreases-write_operand : goal.decreases-write_operand
decreases-write_operand l = 2 * l.b
