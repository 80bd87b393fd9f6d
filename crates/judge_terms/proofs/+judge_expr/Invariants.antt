-- The number that a node has to be below falls. Assumes nothing.
use Rattle.judge_terms.proofs.+judge_expr.Given as goal

abbrev pub decreases-judge_expr : goal.decreases-judge_expr
decreases-judge_expr l = l.b
