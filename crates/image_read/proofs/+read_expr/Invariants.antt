-- The levels that are left fall.
use Rattle.std.proofs.Common.{◌-◌}
use Rattle.model.specs.Limits.{depth_limit}
use Rattle.image_read.proofs.+read_expr.Given as goal

abbrev pub decreases-read_expr : goal.decreases-read_expr
decreases-read_expr l = depth_limit - l.depth
