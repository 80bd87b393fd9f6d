-- The steps are laws of specs/BlockLaws.antt.
use Rattle.std.proofs.Common.{arith}
use Rattle.std.proofs.lemmas.Result.{err_from_is_err_and}
use Rattle.image_read.specs.BlockLaws.{kind_bad, placeholder_done, data_done, code_told}
use Rattle.image_read.proofs.read_block.Goals as goal

pub returns-in_err-kind : goal.returns-in_err-kind
returns-in_err-kind c =
    let p = err_from_is_err_and c.from_residual.result c.from_residual.ensures.1 in
    rw (p.1, p.2) (kind_bad _ _ _ _ _ _ _ _ _ _ _ _ _ _ _ c.in_err-kind.ensures.told)

pub returns-in-0 : goal.returns-in-0
returns-in-0 c = placeholder_done _ _ _ _ _ _ _ _ _ _ _ _ c.in_ok-kind.ensures.told _ _ c.requires.0 c.requires.1 c.in-0.is c.push_block.ensures

pub returns-in-1 : goal.returns-in-1
returns-in-1 c = code_told _ _ _ _ _ _ _ _ _ _ _ _ c.in_ok-kind.ensures.told _ _ _ _ _ c.in-1.is c.read_code.ensures

pub returns-in_default : goal.returns-in_default
returns-in_default c = data_done _ _ _ _ _ _ _ _ _ _ _ _ c.in_ok-kind.ensures.told _ _ c.requires.0 c.requires.1 (omega arith) c.push_block-in_default.ensures
