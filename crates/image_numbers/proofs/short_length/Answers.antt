use Rattle.std.proofs.Common.{arith}
use Rattle.image_numbers.specs.Lengths.{short_word}
use Rattle.image_numbers.proofs.short_length.Goals as goal

pub returns : goal.returns
returns c = short_word _ _ (omega (arith, c.ranges.x)) (rw c.from.ensures at c.word_length.ensures)
