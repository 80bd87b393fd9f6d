-- The trees below i are told. Assumes nothing.
use Rattle.judge_trees.specs.Grown.{Growing}
use Rattle.judge_trees.proofs.measure_trees.Given as goal

abbrev pub invariant-loop-i : goal.invariant-loop-i
invariant-loop-i l = Growing l.ws l.val l.fn.sizes l.n l.sizes l.i l.s
