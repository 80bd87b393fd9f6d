-- The steps are laws of specs/BlockLoop.antt.
use Rattle.std.proofs.lemmas.Result.{err_from_is_err_and}
use Rattle.std.proofs.Common.{arith}
use Rattle.image_read.specs.BlockLoop.{blocks_start, blocks_next, blocks_no, blocks_done}
use Rattle.image_read.proofs.read_blocks.Goals as goal

pub loop-i-init : goal.loop-i-init
loop-i-init c = blocks_start _ _ _ _ _ _ _ c.requires.1

pub returns-in_err-nodes : goal.returns-in_err-nodes
returns-in_err-nodes c =
    let p = err_from_is_err_and c.from_residual.result c.from_residual.ensures.1 in
    rw (p.1, p.2) (blocks_no _ _ _ _ _ _ _ _ _ _ _ _ _ _ _ (omega arith) c.loop-i.invariant _ _ _ _ _ _ _ _ _ c.in_err-nodes.ensures)

pub loop-i-preserved : goal.loop-i-preserved
loop-i-preserved c = blocks_next _ _ _ _ _ _ _ _ _ _ _ _ _ _ _ (omega arith) c.loop-i.invariant _ _ _ _ _ _ _ c.in_ok-nodes.ensures

pub returns : goal.returns
returns c = blocks_done _ _ _ _ _ _ _ _ _ _ _ _ _ _ _ (omega arith) (omega arith) c.loop-i.invariant
