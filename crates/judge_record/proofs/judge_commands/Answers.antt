-- Assumes nothing.
use Rattle.std.proofs.Common.{ℕ, ◌+◌, ap, arith}
use Rattle.std.proofs.lemmas.Result.{err_from_is_err_and}
use Rattle.memory.specs.View.{coded_of}
use Rattle.judge_terms.specs.Told.{limits_by}
use Rattle.judge_record.specs.CommandList.{walk_start, walk_next, walk_no, walk_done}
use Rattle.judge_record.proofs.judge_commands.Goals as goal

pub loop-i-init : goal.loop-i-init
loop-i-init c = walk_start (limits_by c.args.counts) (coded_of c.args.ws.now c.args.val.now c.args.cw.now c.args.counts) c.args.held c.args.first c.args.n c.args.at c.requires.1.few

pub returns-in_err-k : goal.returns-in_err-k
returns-in_err-k c =
    let p = err_from_is_err_and c.from_residual.result c.from_residual.ensures.1 in
    rw (p.1, p.2) (walk_no (limits_by c.args.counts) (coded_of c.args.ws.now c.args.val.now c.args.cw.now c.args.counts) _ _ _ _ c.loop-i.invariant (omega arith) (ap (λ (x : ℕ). x + c.loop-i.i) c.from-first.ensures) c.judge_command.ensures c.in_err-k.was)

pub loop-i-preserved : goal.loop-i-preserved
loop-i-preserved c = walk_next (limits_by c.args.counts) (coded_of c.args.ws.now c.args.val.now c.args.cw.now c.args.counts) _ _ _ _ c.loop-i.invariant (omega arith) (ap (λ (x : ℕ). x + c.loop-i.i) c.from-first.ensures) c.judge_command.ensures c.in_ok-k.was

pub returns : goal.returns
returns c = walk_done (limits_by c.args.counts) (coded_of c.args.ws.now c.args.val.now c.args.cw.now c.args.counts) _ _ _ _ c.loop-i.invariant (omega arith) (omega arith)
