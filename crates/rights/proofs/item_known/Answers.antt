-- No entries are judged. Assumes nothing.
use Rattle.std.proofs.Common.{◌∙◌}
use Rattle.std.proofs.Math.Bool.{and-true}
use Rattle.shop.specs.Shapes.{entries}
use Rattle.rights.proofs.item_known.Goals as goal

pub returns : goal.returns
unfolding entries
returns c = c.check_parts.ensures ∙ and-true _
