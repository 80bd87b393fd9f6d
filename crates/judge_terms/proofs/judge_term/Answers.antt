-- The walk from depth 0, fine or refused. Assumes nothing.
use Rattle.std.proofs.Common.{refl}
use Rattle.std.proofs.lemmas.Result.{err_from_is_err_and}
use Rattle.judge_terms.specs.Told.{limits_by}
use Rattle.memory.specs.View.{nodes_of}
use Rattle.judge_terms.specs.Nodes.{term_told}
use Rattle.judge_terms.proofs.judge_term.Goals as goal

pub returns : goal.returns
returns c = term_told (limits_by c.args.counts) (nodes_of c.args.ws.now c.args.val.now c.args.counts) c.args.i c.args.n c.args.at refl (rw c.in_ok-m.was at c.judge_expr.ensures)

pub returns-in_err-m : goal.returns-in_err-m
returns-in_err-m c =
    let p = err_from_is_err_and c.from_residual.result c.from_residual.ensures.1 in
    rw (p.1, p.2) (term_told (limits_by c.args.counts) (nodes_of c.args.ws.now c.args.val.now c.args.counts) c.args.i c.args.n c.args.at refl (rw c.in_err-m.was at c.judge_expr.ensures))
