-- Assumes nothing.
use Rattle.std.proofs.Common.{arith}
use Rattle.std.proofs.lemmas.Result.{err_from_is_err_and}
use Rattle.memory.specs.View.{coded_of}
use Rattle.judge_terms.specs.Told.{limits_by}
use Rattle.judge_terms.specs.Pieces.{good_of}
use Rattle.judge_record.specs.Commands.{if_told, if_no}
use Rattle.judge_record.proofs.judge_if.Goals as goal

pub returns-in_err-m : goal.returns-in_err-m
returns-in_err-m c =
    let p = err_from_is_err_and c.from_residual.result c.from_residual.ensures.1 in
    rw (p.1, p.2) (if_no (limits_by c.args.counts) (coded_of c.args.ws.now c.args.val.now c.args.cw.now c.args.counts) _ _ _ c.judge_term.ensures c.in_err-m.was)

pub judge_block_no-requires : goal.judge_block_no-requires
judge_block_no-requires c =
    let g = good_of c.judge_term.ensures c.in_ok-m.was in
    omega (arith, g.low, g.short, c.requires.1.soon, c.requires.1.kept.nodes)

pub returns : goal.returns
returns c = if_told (limits_by c.args.counts) (coded_of c.args.ws.now c.args.val.now c.args.cw.now c.args.counts) _ _ _ c.judge_term.ensures c.in_ok-m.was c.judge_block_no.ensures
