-- Every link of a safe record is below its count, so that the setup block marks all of its links.
use Rattle.std.proofs.Common.{arith}
use Rattle.lanes_falls.specs.Sweeps.{swept_from}
use Rattle.lanes_falls.proofs.sweep_from.Goals as goal

pub links_below-all-requires : goal.links_below-all-requires
links_below-all-requires c = (c.requires.0.few, omega (arith, c.requires.0.few, c.requires.1), c.requires.0.fits c.args.b c.requires.1)

pub returns : goal.returns
returns c = swept_from _ _ _ _ c.requires.0 c.requires.1 c.requires.2 c.links_below-all.ensures c.sweep_down.ensures
