-- The steps are laws of specs/ExprLaws.antt.
use Rattle.image_read.specs.ExprLaws.{number_told, number_under}
use Rattle.image_read.proofs.number_below.Goals as goal

pub returns-clause-told : goal.returns-clause-told
returns-clause-told c = rw c.ok_or.ensures.value (number_told _ _ _ _ c.read_number.ensures)

pub returns-clause-low : goal.returns-clause-low
returns-clause-low c = rw c.ok_or.ensures.value (number_under _ _ _ _ c.read_number.ensures)
