-- Assumes nothing.
use Rattle.std.proofs.Common.{arith}
use Rattle.std.proofs.lemmas.Result.{err_from_is_err_and}
use Rattle.memory.specs.View.{nodes_of}
use Rattle.judge_terms.specs.Told.{limits_by}
use Rattle.judge_terms.specs.Pieces.{good_of}
use Rattle.judge_record.specs.Commands.{pair_told, pair_no}
use Rattle.judge_record.proofs.judge_pair.Goals as goal

pub returns-in_err-m : goal.returns-in_err-m
returns-in_err-m c =
    let p = err_from_is_err_and c.from_residual.result c.from_residual.ensures.1 in
    rw (p.1, p.2) (pair_no (limits_by c.args.counts) (nodes_of c.args.ws.now c.args.val.now c.args.counts) _ _ _ _ c.judge_term.ensures c.in_err-m.was)

pub judge_term-requires-2 : goal.judge_term-requires-2
judge_term-requires-2 c =
    let g = good_of c.judge_term.ensures c.in_ok-m.was in
    record { kept = c.requires.kept; few = g.low; soon = omega (arith, g.short) }

pub returns : goal.returns
returns c = pair_told (limits_by c.args.counts) (nodes_of c.args.ws.now c.args.val.now c.args.counts) _ _ _ _ c.judge_term.ensures c.in_ok-m.was c.judge_term-2.ensures
