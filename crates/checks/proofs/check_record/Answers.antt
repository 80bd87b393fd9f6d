-- A record that is plainly fine is accepted, and the judgement answers for the others. Assumes nothing.
use Rattle.std.proofs.Common.{sym, ap}
use Rattle.std.proofs.lemmas.Result.{err_from_is_err_and}
use Rattle.model.specs.Reading.{refusal_of}
use Rattle.memory.specs.View.{memory_of}
use Rattle.judge_record.specs.Stages.{fine_of, no_of}
use Rattle.checks.proofs.check_record.Goals as goal

pub returns-in_err-judge_record : goal.returns-in_err-judge_record
returns-in_err-judge_record c =
    let p = err_from_is_err_and c.from_residual.result c.from_residual.ensures.1 in
    rw (p.1, p.2) (sym (ap refusal_of (no_of (memory_of c.args.ws.now c.args.val.now c.args.cw.now c.args.bw.now c.args.counts) c.judge_record.ensures c.in_err-judge_record.was)))

pub returns : goal.returns
returns c = sym (ap refusal_of (fine_of (memory_of c.args.ws.now c.args.val.now c.args.cw.now c.args.bw.now c.args.counts) c.judge_record.ensures c.in_ok-judge_record.was).judged)
