-- std wraps at 32 bits as the definition does.
use Rattle.std.proofs.Common.{◌∙◌, w32}
use Rattle.std.proofs.lemmas.Int.{wrapping_sub_is}
use Rattle.ints.specs.Wrap.{wraps_same}
use Rattle.ints.proofs.wrapping_sub_i32.Goals as goal

pub returns : goal.returns
returns c = wrapping_sub_is w32 _ _ c.ranges.a c.ranges.b ∙ wraps_same w32 _
