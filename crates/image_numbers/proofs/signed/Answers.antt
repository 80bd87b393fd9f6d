-- The steps are laws of specs/Signed.antt.
use Rattle.image_numbers.specs.Signed.{signed_even, signed_odd}
use Rattle.image_numbers.proofs.signed.Goals as goal

pub returns-then-v-eq0 : goal.returns-then-v-eq0
returns-then-v-eq0 c = signed_even _ c.requires c.if-v-eq0.true

pub returns-else-v-eq0 : goal.returns-else-v-eq0
returns-else-v-eq0 c = signed_odd _ c.requires c.if-v-eq0.false
