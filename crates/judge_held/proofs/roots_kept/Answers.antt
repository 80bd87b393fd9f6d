-- By its code. Assumes nothing.
use Rattle.std.proofs.Common.{arith}
use Rattle.model.specs.Memory.{coded_in}
use Rattle.judge_held.specs.Runs.{roots_set, roots_if, roots_none}
use Rattle.judge_held.proofs.roots_kept.Goals as goal

pub returns-in-2 : goal.returns-in-2
returns-in-2 c = λ ws vs n. roots_set (coded_in ws vs c.args.cw.now c.args.nodes n) c.args.i _ c.in-2.is (c.set_kept.ensures ws vs n)

pub returns-in-3 : goal.returns-in-3
returns-in-3 c = λ ws vs n. roots_if (coded_in ws vs c.args.cw.now c.args.nodes n) c.args.i _ c.in-3.is

pub returns-in_default : goal.returns-in_default
returns-in_default c = λ ws vs n. roots_none (coded_in ws vs c.args.cw.now c.args.nodes n) c.args.i _ (λ e. omega arith) (λ e. omega arith)
