-- From i on the runs are noted. Assumes nothing.
use Rattle.judge_held.specs.Runs.{Run, Runs}
use Rattle.judge_held.proofs.note_runs.Given as goal

abbrev pub invariant-loop-i : goal.invariant-loop-i
invariant-loop-i l = Run l.cw l.counts l.i l.run × Runs l.cw l.counts l.runs l.i
