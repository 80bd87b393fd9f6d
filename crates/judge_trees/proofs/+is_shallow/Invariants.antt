-- The levels that are left fall. Assumes nothing.
use Rattle.judge_trees.proofs.+is_shallow.Given as goal

abbrev pub decreases-is_shallow : goal.decreases-is_shallow
decreases-is_shallow l = l.levels
