use Rattle.std.proofs.Common.{ap, ◌∙◌, rules}
use Rattle.std.specs.Int.{w32}
use Rattle.std.proofs.lemmas.Int.{to_z-of_z}
use mir.Val.{SFits}
use Rattle.std.specs.Prelude.{Err}
use Rattle.std.proofs.lemmas.Result.{err_from_is_err_and}
use Rattle.model.specs.Memory.{nodes_in}
use Rattle.expr.specs.Tree.{below_root}
use Rattle.runner.proofs.Laws.{target_stops, value_stops, value_stored}
use Rattle.runner.proofs.set_variable.Goals as goal

pub returns-in_err-k : goal.returns-in_err-k
returns-in_err-k c = λ n nx.
    let e = err_from_is_err_and c.from_residual.result c.from_residual.ensures.1 in
    target_stops (rw (below_root (nodes_in c.args.ws.now c.args.val.now n) c.args.target) at (c.evaluate.ensures n)) c.in_err-k.was (e.1 ∙ ap Err e.2)

pub returns-in_err-x : goal.returns-in_err-x
returns-in_err-x c = λ n nx.
    let e = err_from_is_err_and c.from_residual-in_err-x.result c.from_residual-in_err-x.ensures.1 in
    value_stops (rw (below_root (nodes_in c.args.ws.now c.args.val.now n) c.args.target) at (c.evaluate.ensures n)) (rw (below_root (nodes_in c.args.ws.now c.args.val.now n) c.args.value) at (c.evaluate-2.ensures n)) c.in_ok-k.was c.in_err-x.was (e.1 ∙ ap Err e.2)

pub returns : goal.returns
returns c = λ n nx.
    let f : SFits w32 c.in_ok-k.k = search rules in
    let g : SFits w32 c.in_ok-x.x = search rules in
    value_stored (rw (below_root (nodes_in c.args.ws.now c.args.val.now n) c.args.target) at (c.evaluate.ensures n)) (rw (below_root (nodes_in c.args.ws.now c.args.val.now n) c.args.value) at (c.evaluate-2.ensures n)) c.in_ok-k.was c.in_ok-x.was (rw (to_z-of_z w32 _ f, to_z-of_z w32 _ g) at c.store_at.ensures)
