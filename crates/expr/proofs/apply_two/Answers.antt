use Rattle.expr.proofs.Signed.{sum_wraps, difference_wraps, and_bits, or_bits}
use Rattle.expr.proofs.apply_two.Goals as goal

pub returns-in-Add : goal.returns-in-Add
returns-in-Add c = rw c.in-Add.is (sum_wraps _ _ c.ranges.x c.ranges.y)

pub returns-in-Subtract : goal.returns-in-Subtract
returns-in-Subtract c = rw c.in-Subtract.is (difference_wraps _ _ c.ranges.x c.ranges.y)

pub returns-in-BitAnd : goal.returns-in-BitAnd
returns-in-BitAnd c = rw c.in-BitAnd.is (and_bits _ _ c.ranges.x c.ranges.y)

pub returns-in-BitOr : goal.returns-in-BitOr
returns-in-BitOr c = rw c.in-BitOr.is (or_bits _ _ c.ranges.x c.ranges.y)
