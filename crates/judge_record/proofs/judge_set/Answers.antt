-- By the target's code. Assumes nothing.
use Rattle.memory.specs.View.{coded_of}
use Rattle.judge_terms.specs.Told.{limits_by}
use Rattle.judge_record.specs.Commands.{set_variable_lem, set_other_lem, set_unknown}
use Rattle.judge_record.proofs.judge_set.Goals as goal

pub returns-then-target-eq0 : goal.returns-then-target-eq0
returns-then-target-eq0 c = set_variable_lem (limits_by c.args.counts) (coded_of c.args.ws.now c.args.val.now c.args.cw.now c.args.counts) _ _ _ c.if-target-eq0.true c.judge_pair.ensures

pub returns-then-target-eq1 : goal.returns-then-target-eq1
returns-then-target-eq1 c = set_other_lem (limits_by c.args.counts) (coded_of c.args.ws.now c.args.val.now c.args.cw.now c.args.counts) _ _ _ c.if-target-eq1.true c.judge_term.ensures

pub returns : goal.returns
returns c = set_unknown (limits_by c.args.counts) (coded_of c.args.ws.now c.args.val.now c.args.cw.now c.args.counts) _ _ _ c.if-target-eq0.false c.if-target-eq1.false
