use Rattle.std.proofs.Common.{◌≡◌, ◌+◌, ◌-◌, ap, ◌∙◌, arith}
use Rattle.std.specs.Prelude.{Ok, Err}
use Rattle.std.proofs.lemmas.Result.{err_from_is_err_and}
use Rattle.runner.proofs.Laws.{one_passed, out_passed, halt_passed, all_passed}
use Rattle.runner.proofs.execute_block.Goals as goal

pub returns-in_err-flow : goal.returns-in_err-flow
returns-in_err-flow c =
    let e = err_from_is_err_and c.from_residual.result c.from_residual.ensures.1 in
    let z : c.args.first + (c.loop-c.c - c.args.first) ≡ c.loop-c.c = omega arith in
    halt_passed _ _ _ _ _ _ _ _ c.loop-c.invariant (omega arith) (λ n m. rw z (c.command.ensures n m)) c.in_err-flow.was (e.1 ∙ ap Err e.2)

pub returns-in-Break : goal.returns-in-Break
returns-in-Break c =
    let z : c.args.first + (c.loop-c.c - c.args.first) ≡ c.loop-c.c = omega arith in
    out_passed _ _ _ _ _ _ _ _ c.loop-c.invariant (omega arith) (λ n m. rw z (c.command.ensures n m)) (c.in_ok-flow.was ∙ ap Ok c.in-Break.is)

pub loop-c-preserved : goal.loop-c-preserved
loop-c-preserved c =
    let z : c.args.first + (c.loop-c.c - c.args.first) ≡ c.loop-c.c = omega arith in
    let y : c.loop-c.c + 1 - c.args.first ≡ c.loop-c.c - c.args.first + 1 = omega arith in
    rw y (one_passed _ _ _ _ _ _ _ _ c.loop-c.invariant (omega arith) (λ n m. rw z (c.command.ensures n m)) (c.in_ok-flow.was ∙ ap Ok c.in_default.is))

pub returns : goal.returns
returns c = all_passed _ _ _ _ _ _ _ _ c.loop-c.invariant c.follow_link.result (omega arith) c.follow_link.ensures
