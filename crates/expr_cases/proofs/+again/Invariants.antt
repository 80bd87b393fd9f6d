-- The measure is the count of nodes with the last of the expression.
use Rattle.expr_cases.proofs.+again.Given as goal

abbrev pub decreases-again : goal.decreases-again
decreases-again l = l.n
