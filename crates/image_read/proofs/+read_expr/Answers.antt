-- The steps are laws of specs/ExprLaws.antt.
use Rattle.std.proofs.lemmas.Result.{err_from_is_err_and}
use Rattle.std.proofs.Common.{refl}
use Rattle.image_read.specs.ExprLaws.{headed, told_no, told_other, told_imm16, told_imm32, told_one, told_one_no, told_two, told_two_no, told_two_no_2}
use Rattle.image_read.proofs.+read_expr.Goals as goal

pub returns-in_err-c-clause-told : goal.returns-in_err-c-clause-told
returns-in_err-c-clause-told t c =
    let p = err_from_is_err_and c.from_residual.result c.from_residual.ensures.1 in
    rw (p.1, p.2) (told_no _ _ _ _ _ _ _ _ c.in_err-c.ensures.told)

pub returns-in_err-left-in-Two-clause-told : goal.returns-in_err-left-in-Two-clause-told
returns-in_err-left-in-Two-clause-told t c =
    let p = err_from_is_err_and c.from_residual-in_err-left-in-Two.result c.from_residual-in_err-left-in-Two.ensures.1 in
    rw (p.1, p.2) (told_two_no _ _ _ _ _ _ (headed _ _ _ _ _ _ c.in_ok-c.ensures.told) _ c.in-Two.ensures _ _ _ refl _ _ _ _ _ c.in_err-left-in-Two.ensures.told)

pub returns-in_err-right-in-Two-clause-told : goal.returns-in_err-right-in-Two-clause-told
returns-in_err-right-in-Two-clause-told t c =
    let p = err_from_is_err_and c.from_residual-in_err-right-in-Two.result c.from_residual-in_err-right-in-Two.ensures.1 in
    rw (p.1, p.2) (told_two_no_2 _ _ _ _ _ _ (headed _ _ _ _ _ _ c.in_ok-c.ensures.told) _ c.in-Two.ensures _ _ _ refl _ _ _ _ c.in_ok-left-in-Two.ensures.told _ _ _ _ _ c.in_err-right-in-Two.ensures.told)

pub returns-in_ok-right-in-Two-clause-told : goal.returns-in_ok-right-in-Two-clause-told
returns-in_ok-right-in-Two-clause-told t c = told_two _ _ _ _ _ _ (headed _ _ _ _ _ _ c.in_ok-c.ensures.told) _ c.in-Two.ensures _ _ _ refl _ _ _ _ c.in_ok-left-in-Two.ensures.told _ _ _ _ _ _ _ c.in_ok-right-in-Two.ensures.told c.push_node.ensures

pub returns-in_err-operand-in-One-clause-told : goal.returns-in_err-operand-in-One-clause-told
returns-in_err-operand-in-One-clause-told t c =
    let p = err_from_is_err_and c.from_residual-in_err-operand-in-One.result c.from_residual-in_err-operand-in-One.ensures.1 in
    rw (p.1, p.2) (told_one_no _ _ _ _ _ _ (headed _ _ _ _ _ _ c.in_ok-c.ensures.told) _ c.in-One.ensures _ _ _ refl _ _ _ _ _ c.in_err-operand-in-One.ensures.told)

pub returns-in_ok-operand-in-One-clause-told : goal.returns-in_ok-operand-in-One-clause-told
returns-in_ok-operand-in-One-clause-told t c = told_one _ _ _ _ _ _ (headed _ _ _ _ _ _ c.in_ok-c.ensures.told) _ c.in-One.ensures _ _ _ refl _ _ _ _ _ _ _ c.in_ok-operand-in-One.ensures.told c.push_node-in-One.ensures

pub returns-in-Imm16-clause-told : goal.returns-in-Imm16-clause-told
returns-in-Imm16-clause-told t c = told_imm16 _ _ _ _ _ _ (headed _ _ _ _ _ _ c.in_ok-c.ensures.told) _ c.in-Imm16.ensures _ _ _ _ _ refl c.read_imm.ensures.told

pub returns-in-Imm32-clause-told : goal.returns-in-Imm32-clause-told
returns-in-Imm32-clause-told t c = told_imm32 _ _ _ _ _ _ (headed _ _ _ _ _ _ c.in_ok-c.ensures.told) _ c.in-Imm32.ensures _ _ _ _ _ refl c.read_imm-in-Imm32.ensures.told

pub returns-in-Other-clause-told : goal.returns-in-Other-clause-told
returns-in-Other-clause-told t c = told_other _ _ _ _ _ _ (headed _ _ _ _ _ _ c.in_ok-c.ensures.told) _ c.in-Other.ensures _ _ _ _ _ refl c.push_node-in-Other.ensures
