-- The steps are laws of specs/CommandLaws.antt.
use Rattle.std.proofs.lemmas.Result.{err_from_is_err_and}
use Rattle.image_read.specs.CommandLaws.{block_in_lem, block_out, block_bad}
use Rattle.image_read.proofs.read_block_no.Goals as goal

pub returns-in_err-k : goal.returns-in_err-k
returns-in_err-k c =
    let p = err_from_is_err_and c.from_residual.result c.from_residual.ensures.1 in
    rw (p.1, p.2) (block_bad _ _ _ _ c.in_err-k.ensures.told)

pub returns-then-k-from : goal.returns-then-k-from
returns-then-k-from c = block_out _ _ _ _ _ c.in_ok-k.ensures.told (rw c.from.ensures at c.if-k-from.true)

pub returns : goal.returns
returns c = block_in_lem _ _ _ _ _ c.in_ok-k.ensures.told (rw c.from.ensures at c.if-k-from.false)
