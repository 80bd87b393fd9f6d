-- Which blocks were seen. Assumes nothing.
use Rattle.memory.specs.View.{memory_of}
use Rattle.judge_record.specs.Whole.{Passing}
use Rattle.judge_record.proofs.judge_blocks.Given as goal

abbrev pub invariant-loop-i : goal.invariant-loop-i
invariant-loop-i l = Passing (memory_of l.ws l.val l.cw l.bw l.counts) l.i l.m l.n l.p
