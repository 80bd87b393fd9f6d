-- The steps are laws of specs/BlockLaws.antt.
use Rattle.std.proofs.lemmas.Result.{err_from_is_err_and}
use Rattle.std.proofs.Common.{arith}
use Rattle.image_read.specs.BlockLaws.{declared, code_count_no, code_commands_no, code_links_no, code_done}
use Rattle.image_read.proofs.read_code.Goals as goal

pub returns-in_err-held : goal.returns-in_err-held
returns-in_err-held c =
    let p = err_from_is_err_and c.from_residual.result c.from_residual.ensures.1 in
    rw (p.1, p.2) (code_count_no _ _ _ _ _ _ _ _ _ _ _ _ _ _ _ c.in_err-held.ensures)

pub read_commands-requires : goal.read_commands-requires
read_commands-requires c = let d = declared _ _ _ _ _ c.in_ok-held.ensures in omega arith

pub returns-in_err-nodes : goal.returns-in_err-nodes
returns-in_err-nodes c =
    let p = err_from_is_err_and c.from_residual-in_err-nodes.result c.from_residual-in_err-nodes.ensures.1 in
    rw (p.1, p.2) (code_commands_no _ _ _ _ _ _ _ _ _ _ _ _ c.in_ok-held.ensures _ _ _ _ _ _ _ _ c.in_err-nodes.ensures)

pub returns-in_err-next : goal.returns-in_err-next
returns-in_err-next c =
    let p = err_from_is_err_and c.from_residual-in_err-next.result c.from_residual-in_err-next.ensures.1 in
    rw (p.1, p.2) (code_links_no _ _ _ _ _ _ _ _ _ _ _ _ c.in_ok-held.ensures _ _ _ _ _ c.in_ok-nodes.ensures _ _ _ _ _ c.in_err-next.ensures)

pub overflow_add-result : goal.overflow_add-result
overflow_add-result c = let d = declared _ _ _ _ _ c.in_ok-held.ensures in omega arith

pub returns : goal.returns
returns c = code_done _ _ _ _ _ _ _ _ _ _ _ _ c.in_ok-held.ensures _ _ _ _ _ c.in_ok-nodes.ensures _ _ _ _ _ c.in_ok-next.ensures c.push_block.ensures
