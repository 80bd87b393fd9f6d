-- How many commands were counted. Assumes nothing.
use Rattle.judge_plain.specs.Counted.{SumCount}
use Rattle.judge_plain.proofs.commands_nodes.Given as goal

abbrev pub invariant-loop-i : goal.invariant-loop-i
invariant-loop-i l = SumCount l.sizes l.cw l.counts l.i l.nodes l.most
