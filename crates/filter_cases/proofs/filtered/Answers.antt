-- Words and companions are below four and five.
use Rattle.filter_cases.specs.Four.{fits_met}
use Rattle.filter_cases.proofs.filtered.Goals as goal

pub filter_alive-n-requires : goal.filter_alive-n-requires
filter_alive-n-requires c = rw c.from.ensures (fits_met c.args.x c.args.t c.requires)
