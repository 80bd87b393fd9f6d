-- Assumes nothing.
use Rattle.std.proofs.Common.{◌≡◌, suc, ◌-◌, arith}
use Rattle.judge_held.specs.Runs.{Runs, run_last, runs_none, runs_more}
use Rattle.judge_held.proofs.note_runs.Goals as goal

pub loop-i-init : goal.loop-i-init
loop-i-init c = rw c.from-i.ensures (run_last c.args.cw.now c.args.counts, runs_none c.args.cw.now c.args.counts _)

pub run_from-run-requires : goal.run_from-run-requires
run_from-run-requires c =
    let e : suc (c.loop-i.i - 1) ≡ c.loop-i.i = omega arith in
    (omega arith, c.requires.0, rw e c.loop-i.invariant.0)

pub loop-i-preserved : goal.loop-i-preserved
loop-i-preserved c =
    let e : c.loop-i.i ≡ suc (c.loop-i.i - 1) = omega arith in
    let R : Runs c.args.cw.now c.args.counts c.loop-i.runs (suc (c.loop-i.i - 1)) = rw (← e) c.loop-i.invariant.1 in
    (c.run_from-run.ensures, runs_more c.args.cw.now c.args.counts R (omega arith) c.run_from-run.ensures)

pub returns : goal.returns
returns c =
    let e : c.loop-i.i ≡ 0 = omega arith in
    rw e at c.loop-i.invariant.1
