use Rattle.std.proofs.Common.{ap, ◌∙◌, rules}
use Rattle.std.specs.Prelude.{Err}
use Rattle.std.specs.Int.{w32}
use Rattle.std.proofs.lemmas.Result.{err_from_is_err_and}
use mir.Val.{SFits}
use Rattle.model.specs.Memory.{nodes_in}
use Rattle.expr.specs.Tree.{below_root}
use Rattle.runner.proofs.Laws.{bits_zero, bits_nonzero, if_stops, if_zero_lem, if_next, if_no_next}
use Rattle.runner.proofs.if_else.Goals as goal

pub returns-in_err-evaluate : goal.returns-in_err-evaluate
returns-in_err-evaluate c = λ n.
    let e = err_from_is_err_and c.from_residual.result c.from_residual.ensures.1 in
    if_stops (rw (below_root (nodes_in c.args.ws.now c.args.val.now n) c.args.test) at (c.evaluate.ensures n)) c.in_err-evaluate.was (e.1 ∙ ap Err e.2)

pub returns-then-branch-eq0 : goal.returns-then-branch-eq0
returns-then-branch-eq0 c = λ n.
    let f : SFits w32 c.in_ok-evaluate.field-0 = search rules in
    if_zero_lem (rw (below_root (nodes_in c.args.ws.now c.args.val.now n) c.args.test) at (c.evaluate.ensures n)) c.in_ok-evaluate.was (bits_zero _ c.if-branch-eq0.true f)

pub returns-in_err-follow_link : goal.returns-in_err-follow_link
returns-in_err-follow_link c = λ n.
    let e = err_from_is_err_and c.from_residual-in_err-follow_link.result c.from_residual-in_err-follow_link.ensures.1 in
    if_no_next (rw (below_root (nodes_in c.args.ws.now c.args.val.now n) c.args.test) at (c.evaluate.ensures n)) c.in_ok-evaluate.was (bits_nonzero c.in_ok-evaluate.field-0 c.if-branch-eq0.false) c.follow_link.ensures c.in_err-follow_link.was (e.1 ∙ ap Err e.2)

pub returns : goal.returns
returns c = λ n.
    if_next (rw (below_root (nodes_in c.args.ws.now c.args.val.now n) c.args.test) at (c.evaluate.ensures n)) c.in_ok-evaluate.was (bits_nonzero c.in_ok-evaluate.field-0 c.if-branch-eq0.false) c.follow_link.ensures c.in_ok-follow_link.was
