use Rattle.std.proofs.Common.{◌-◌}
use Rattle.reach.specs.Stacks.{push_entry}
use Rattle.reach.proofs.push_one.Goals as goal

pub returns : goal.returns
returns c = push_entry c.args.stack.now c.args.depth (c.args.link.0 - 1) c.args.under.0 c.requires.0
