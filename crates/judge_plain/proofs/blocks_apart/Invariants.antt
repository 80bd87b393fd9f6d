-- Where the commands of the blocks so far end. Assumes nothing.
use Rattle.judge_plain.specs.Chain.{Chain}
use Rattle.judge_plain.specs.Counted.{Within}
use Rattle.judge_plain.proofs.blocks_apart.Given as goal

abbrev pub invariant-loop-i : goal.invariant-loop-i
invariant-loop-i l = Chain (Within l.bw l.counts) l.i l.end
