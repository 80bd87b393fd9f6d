-- By its target. Assumes nothing.
use Rattle.model.specs.Memory.{coded_in}
use Rattle.judge_held.specs.Runs.{set_both, set_target, set_value}
use Rattle.judge_held.proofs.set_kept.Goals as goal

pub returns-then-cw-i : goal.returns-then-cw-i
returns-then-cw-i c = λ ws vs n. set_both (coded_in ws vs c.args.cw.now c.args.nodes n) c.args.i _ c.if-cw-i-eq0.true c.if-cw-i.true

pub returns-else-cw-i : goal.returns-else-cw-i
returns-else-cw-i c = λ ws vs n. set_target (coded_in ws vs c.args.cw.now c.args.nodes n) c.args.i _ c.if-cw-i-eq0.true c.if-cw-i.false

pub returns-else-cw-i-eq0 : goal.returns-else-cw-i-eq0
returns-else-cw-i-eq0 c = λ ws vs n. set_value (coded_in ws vs c.args.cw.now c.args.nodes n) c.args.i _ c.if-cw-i-eq0.false
