-- The steps are laws of specs/Whole.antt.
use Rattle.std.proofs.lemmas.Result.{err_from_is_err_and}
use Rattle.std.proofs.Common.{[]}
use Rattle.memory.specs.View.{empty_in}
use Rattle.image_read.specs.Whole.{image_bad, image_place, image_full, image_no, image_left, image_done}
use Rattle.image_read.proofs.read_all.Goals as goal

pub returns-in_err-c : goal.returns-in_err-c
returns-in_err-c c =
    let p = err_from_is_err_and c.from_residual.result c.from_residual.ensures.1 in
    rw (p.1, p.2) (image_bad _ _ _ _ _ _ _ _ c.in_err-c.ensures.told)

pub returns-then-c-gt-MOST_BLOCKS : goal.returns-then-c-gt-MOST_BLOCKS
returns-then-c-gt-MOST_BLOCKS c = image_full _ _ _ _ _ c.in_ok-c.ensures.told _ _ _ _ c.if-c-gt-MOST_BLOCKS.true

pub read_blocks-requires : goal.read_blocks-requires
read_blocks-requires c = (c.if-c-gt-MOST_BLOCKS.false, image_place _ (empty_in [] [] [] []) _ _ _ c.in_ok-c.ensures.told)

pub returns-in_err-nodes : goal.returns-in_err-nodes
returns-in_err-nodes c =
    let p = err_from_is_err_and c.from_residual-in_err-nodes.result c.from_residual-in_err-nodes.ensures.1 in
    rw (p.1, p.2) (image_no _ _ _ _ _ c.in_ok-c.ensures.told c.if-c-gt-MOST_BLOCKS.false _ _ _ _ _ _ _ _ _ c.in_err-nodes.ensures)

pub returns-then-end-s : goal.returns-then-end-s
returns-then-end-s c = image_left _ _ _ _ _ c.in_ok-c.ensures.told c.if-c-gt-MOST_BLOCKS.false _ _ _ _ _ _ _ c.in_ok-nodes.ensures _ _ _ _ c.if-end-s.true

pub returns : goal.returns
returns c = image_done _ _ _ _ _ c.in_ok-c.ensures.told c.if-c-gt-MOST_BLOCKS.false _ _ _ _ _ _ _ c.in_ok-nodes.ensures c.if-end-s.false
