-- The steps are laws of specs/ExprLaws.antt.
use Rattle.std.proofs.lemmas.Result.{err_from_is_err_and}
use Rattle.std.proofs.Common.{◌∙◌, to_z-of_z, w32}
use Rattle.image_read.specs.ExprLaws.{imm_told, imm_bad}
use Rattle.image_read.proofs.read_imm.Goals as goal

pub returns-in_err-z-clause-told : goal.returns-in_err-z-clause-told
returns-in_err-z-clause-told c =
    let p = err_from_is_err_and c.from_residual.result c.from_residual.ensures.1 in
    rw (p.1, p.2) (imm_bad _ _ _ _ _ _ _ c.in_err-z.ensures.told)

pub returns-clause-told : goal.returns-clause-told
returns-clause-told c = imm_told _ _ _ _ _ _ _ _ _ c.in_ok-z.ensures.told (to_z-of_z {w = w32} {z = c.signed.result} (record { sfits = c.signed.type_inv }) ∙ c.signed.ensures) c.push_node.ensures
