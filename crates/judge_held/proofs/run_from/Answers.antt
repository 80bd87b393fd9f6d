-- One more than the next run, or none. Assumes nothing.
use Rattle.judge_held.specs.Runs.{run_more, run_stop}
use Rattle.judge_held.proofs.run_from.Goals as goal

pub returns-then-roots_kept : goal.returns-then-roots_kept
returns-then-roots_kept c = run_more c.args.cw.now c.args.counts c.requires.0 c.roots_kept.ensures c.requires.2 c.if-roots_kept.true

pub returns-else-roots_kept : goal.returns-else-roots_kept
returns-else-roots_kept c = run_stop c.args.cw.now c.args.counts c.requires.0 c.roots_kept.ensures c.if-roots_kept.false
