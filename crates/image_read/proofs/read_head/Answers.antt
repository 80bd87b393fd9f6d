-- The steps are laws of specs/ExprLaws.antt.
use Rattle.std.proofs.lemmas.Result.{err_from_is_err_and}
use Rattle.image_read.specs.ExprLaws.{head_bad, head_full, head_deep, head_done}
use Rattle.image_read.proofs.read_head.Goals as goal

pub returns-in_err-c-clause-told : goal.returns-in_err-c-clause-told
returns-in_err-c-clause-told c =
    let p = err_from_is_err_and c.from_residual.result c.from_residual.ensures.1 in
    rw (p.1, p.2) (head_bad _ _ _ _ _ c.in_err-c.ensures.told)

pub returns-then-n-depth-ge-NODE_LIMIT-clause-told : goal.returns-then-n-depth-ge-NODE_LIMIT-clause-told
returns-then-n-depth-ge-NODE_LIMIT-clause-told c = head_full _ _ _ _ _ _ c.in_ok-c.ensures.told c.if-n-depth-ge-NODE_LIMIT.true

pub returns-then-depth-ge64-clause-told : goal.returns-then-depth-ge64-clause-told
returns-then-depth-ge64-clause-told c = head_deep _ _ _ _ _ _ c.in_ok-c.ensures.told c.if-n-depth-ge-NODE_LIMIT.false c.if-depth-ge64.true

pub returns-clause-told : goal.returns-clause-told
returns-clause-told c = head_done _ _ _ _ _ _ c.in_ok-c.ensures.told c.if-n-depth-ge-NODE_LIMIT.false c.if-depth-ge64.false
