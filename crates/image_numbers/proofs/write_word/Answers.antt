-- Five groups are enough.
use Rattle.std.proofs.Common.{refl, arith}
use Rattle.model.specs.Reading.{word}
use Rattle.image_numbers.specs.Words.{room_last, stored_last}
use Rattle.image_numbers.proofs.write_word.Goals as goal

pub bounds-out-at : goal.bounds-out-at
unfolding word
bounds-out-at c = room_last 5 _ (omega arith) c.requires.1 c.if-v-lt128.true

pub returns-then-v-lt128 : goal.returns-then-v-lt128
unfolding word
returns-then-v-lt128 c = stored_last 5 _ (omega arith) _ _ _ c.if-v-lt128.true refl

pub write_groups-requires : goal.write_groups-requires
unfolding word
write_groups-requires c = (c.requires.0, omega arith, c.requires.1)

pub returns : goal.returns
unfolding word
returns c = c.write_groups.ensures
