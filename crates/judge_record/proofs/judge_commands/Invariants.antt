-- Which commands were seen. Assumes nothing.
use Rattle.memory.specs.View.{coded_of}
use Rattle.judge_terms.specs.Told.{limits_by}
use Rattle.judge_record.specs.CommandList.{Walked}
use Rattle.judge_record.proofs.judge_commands.Given as goal

abbrev pub invariant-loop-i : goal.invariant-loop-i
invariant-loop-i l = Walked (limits_by l.counts) (coded_of l.ws l.val l.cw l.counts) l.fn.held l.fn.first l.fn.n l.fn.at l.i l.k l.p
