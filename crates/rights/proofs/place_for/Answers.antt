-- The slot of a field that is there. Assumes nothing.
use Rattle.rights.specs.ArrayLaws.{place_low, place_high}
use Rattle.rights.proofs.place_for.Goals as goal

pub returns-then-field-lt3 : goal.returns-then-field-lt3
returns-then-field-lt3 c = place_low c.args.field c.args.slot c.if-field-lt3.true

pub returns-else-field-lt3 : goal.returns-else-field-lt3
returns-else-field-lt3 c = place_high c.args.field c.args.slot c.if-field-lt3.false
