-- The steps are laws of specs/BlockLaws.antt.
use Rattle.std.proofs.lemmas.Result.{err_from_is_err_and}
use Rattle.image_read.specs.BlockLaws.{links_no, links_no_2, links_done}
use Rattle.image_read.proofs.read_links.Goals as goal

pub returns-in_err-next : goal.returns-in_err-next
returns-in_err-next c =
    let p = err_from_is_err_and c.from_residual.result c.from_residual.ensures.1 in
    rw (p.1, p.2) (links_no _ _ _ _ c.in_err-next.ensures)

pub returns-in_err-other : goal.returns-in_err-other
returns-in_err-other c =
    let p = err_from_is_err_and c.from_residual-in_err-other.result c.from_residual-in_err-other.ensures.1 in
    rw (p.1, p.2) (links_no_2 _ _ _ _ _ c.in_ok-next.ensures _ c.in_err-other.ensures)

pub returns : goal.returns
returns c = links_done _ _ _ _ _ c.in_ok-next.ensures _ _ c.in_ok-other.ensures
