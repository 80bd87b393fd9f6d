-- The steps are laws of specs/BlockLaws.antt.
use Rattle.std.proofs.lemmas.Result.{err_from_is_err_and}
use Rattle.image_read.specs.BlockLaws.{count_bad, count_full, count_done}
use Rattle.image_read.proofs.read_count.Goals as goal

pub returns-in_err-c : goal.returns-in_err-c
returns-in_err-c c =
    let p = err_from_is_err_and c.from_residual.result c.from_residual.ensures.1 in
    rw (p.1, p.2) (count_bad _ _ _ _ c.in_err-c.ensures.told)

pub returns-then-from-c-gt-MOST_COMMANDS : goal.returns-then-from-c-gt-MOST_COMMANDS
returns-then-from-c-gt-MOST_COMMANDS c = count_full _ _ _ _ _ c.in_ok-c.ensures.told (rw c.from.ensures at c.if-from-c-gt-MOST_COMMANDS.true)

pub returns : goal.returns
returns c = count_done _ _ _ _ _ c.in_ok-c.ensures.told (rw c.from.ensures at c.if-from-c-gt-MOST_COMMANDS.false)
