-- Assumes nothing.
use Rattle.std.proofs.Common.{arith}
use Rattle.std.proofs.lemmas.Result.{err_from_is_err_and}
use Rattle.judge_terms.specs.Pieces.{good_of}
use Rattle.judge_record.specs.Blocks.{links_told, links_no}
use Rattle.judge_record.proofs.judge_links.Goals as goal

pub returns-in_err-m : goal.returns-in_err-m
returns-in_err-m c =
    let p = err_from_is_err_and c.from_residual.result c.from_residual.ensures.1 in
    rw (p.1, p.2) (links_no _ _ _ _ _ c.judge_link.ensures c.in_err-m.was)

pub judge_link-requires-2 : goal.judge_link-requires-2
judge_link-requires-2 c =
    let g = good_of c.judge_link.ensures c.in_ok-m.was in
    omega (arith, g.short, g.counted)

pub returns : goal.returns
returns c = links_told _ _ _ _ _ c.judge_link.ensures c.in_ok-m.was c.judge_link-2.ensures
