use Rattle.std.proofs.Common.{ap, ◌∙◌}
use Rattle.shop_arrays.specs.Arrays.{shop_from}
use Rattle.shop_arrays.specs.Slots.{shop_none}
use Rattle.parse_walk.proofs.walk.Goals as goal

pub walk_many-requires-clause-accepted : goal.walk_many-requires-clause-accepted
walk_many-requires-clause-accepted c = (c.requires.accepted.0, ap shop_from c.clear_arrays.ensures ∙ shop_none)
