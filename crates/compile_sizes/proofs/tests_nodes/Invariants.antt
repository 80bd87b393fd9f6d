-- The loop of `tests_nodes`: the tests of the codes passed are counted.
use Rattle.compile_sizes.specs.Tests.{Counted}
use Rattle.compile_sizes.proofs.tests_nodes.Given as goal

abbrev pub invariant-loop-code : goal.invariant-loop-code
invariant-loop-code l = Counted l.codes l.code-index l.nodes
