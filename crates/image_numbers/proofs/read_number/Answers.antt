-- The steps are laws of specs/NumberLaws.antt.
use Rattle.image_numbers.specs.NumberLaws.{told_under, told_over, told_none_under}
use Rattle.image_numbers.proofs.read_number.Goals as goal

pub returns-in_err-v : goal.returns-in_err-v
returns-in_err-v c = rw c.from_residual.ensures (told_none_under _ _ _ c.in_err-v.ensures)

pub returns-then-v-limit : goal.returns-then-v-limit
returns-then-v-limit c = told_under _ _ _ _ _ c.in_ok-v.ensures c.if-v-limit.true

pub returns-else-v-limit : goal.returns-else-v-limit
returns-else-v-limit c = told_over _ _ _ _ _ c.in_ok-v.ensures c.if-v-limit.false
