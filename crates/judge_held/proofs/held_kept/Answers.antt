-- The blocks, by the runs that were noted. Assumes nothing.
use Rattle.judge_held.proofs.held_kept.Goals as goal

pub returns : goal.returns
returns c = λ ws vs. c.blocks_kept.ensures ws vs c.args.cw.now c.note_runs.ensures
