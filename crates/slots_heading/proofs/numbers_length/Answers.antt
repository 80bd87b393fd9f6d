-- Five bytes hold the setup number.
use Rattle.std.proofs.Common.{arith}
use Rattle.image_numbers.specs.Lengths.{word_short}
use Rattle.slots_heading.proofs.numbers_length.Goals as goal

pub overflow_add-result-2 : goal.overflow_add-result-2
overflow_add-result-2 c = record { fits = omega (arith, c.word_length.ensures, word_short c.from-2.result, c.short_length-5.ensures.short, c.short_length-4.ensures.short, c.short_length-3.ensures.short, c.short_length-2.ensures.short, c.short_length.ensures.short, c.short_length.ensures.low) }
