use Rattle.expr_negate.proofs.+negate_node.Given as goal

abbrev pub decreases-negate_node : goal.decreases-negate_node
decreases-negate_node l = l.i
