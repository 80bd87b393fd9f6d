-- What was appended is negated by a Not over it or where it stands.
use Rattle.std.proofs.Common.{◌≡◌, true, false, arith}
use Rattle.expr_cases.specs.Stands.{stands_last}
use Rattle.expr_cases.proofs.negated.Goals as goal

pub negate-requires : goal.negate-requires
negate-requires c = stands_last c.in-Some.ensures (λ e. let f : true ≡ false = (rw e at c.if-ne.ensures) in cc) (omega arith)
