-- The steps are laws of specs/CommandLaws.antt.
use Rattle.std.proofs.Common.{arith}
use Rattle.std.proofs.lemmas.Result.{err_from_is_err_and}
use Rattle.image_read.specs.CommandLaws.{command_bad, return_done, other_done, goto_told, endif_told, if_told, set_told}
use Rattle.image_read.proofs.read_command.Goals as goal

pub returns-in_err-c : goal.returns-in_err-c
returns-in_err-c c =
    let p = err_from_is_err_and c.from_residual.result c.from_residual.ensures.1 in
    rw (p.1, p.2) (command_bad _ _ _ _ _ _ _ _ _ _ _ _ c.in_err-c.ensures.told)

pub returns-in-0 : goal.returns-in-0
returns-in-0 c = return_done _ _ _ _ _ _ _ _ _ _ c.in_ok-c.ensures.told _ _ c.requires.0 c.in-0.is c.push_command.ensures

pub returns-in-1 : goal.returns-in-1
returns-in-1 c = goto_told _ _ _ _ _ _ _ _ _ _ c.in_ok-c.ensures.told _ _ c.requires.0 c.in-1.is c.read_jump.ensures

pub returns-in-2 : goal.returns-in-2
returns-in-2 c = set_told _ _ _ _ _ _ _ _ _ _ c.in_ok-c.ensures.told _ _ _ _ c.in-2.is c.read_set.ensures

pub returns-in-3 : goal.returns-in-3
returns-in-3 c = if_told _ _ _ _ _ _ _ _ _ _ c.in_ok-c.ensures.told _ _ _ _ c.in-3.is c.read_if.ensures

pub returns-in-4 : goal.returns-in-4
returns-in-4 c = endif_told _ _ _ _ _ _ _ _ _ _ c.in_ok-c.ensures.told _ _ c.requires.0 c.in-4.is c.read_jump-in-4.ensures

pub returns-in_default : goal.returns-in_default
returns-in_default c = other_done _ _ _ _ _ _ _ _ _ _ c.in_ok-c.ensures.told _ _ c.requires.0 (omega arith) c.push_command-in_default.ensures
