-- The operation on bits is taken on all bits.
use Rattle.std.specs.Int.Bits.{bit_and}
use Rattle.std.proofs.Common.{w32}
use Rattle.ints.specs.Bits.{bits_own}
use Rattle.ints.proofs.and_i32.Goals as goal

pub returns : goal.returns
returns c = bits_own bit_and w32 c.args.x c.args.y c.ranges.x c.ranges.y
