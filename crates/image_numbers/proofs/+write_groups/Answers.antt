-- The steps are laws of specs/Words.antt.
use Rattle.std.proofs.Common.{refl, arith}
use Rattle.image_numbers.specs.Words.{high_low, high_some, room_last, room_more, room_high, stored_last, stored_more}
use Rattle.image_numbers.proofs.+write_groups.Goals as goal

pub bounds-out-at : goal.bounds-out-at
bounds-out-at t c = room_last _ _ c.requires.1 c.requires.2 c.if-v-lt128.true

pub returns-then-v-lt128 : goal.returns-then-v-lt128
returns-then-v-lt128 t c = stored_last _ _ c.requires.1 _ _ _ c.if-v-lt128.true refl

pub bounds-out-at-2 : goal.bounds-out-at-2
bounds-out-at-2 t c = room_more _ _ c.requires.1 c.requires.2 c.if-v-lt128.false

pub write_groups-requires : goal.write_groups-requires
write_groups-requires t c =
    let some = c.requires.1 in (
      omega arith,
      (high_low _ _ some c.requires.0, high_some _ _ some c.if-v-lt128.false c.requires.0, room_high _ _ some c.requires.2 _ c.if-v-lt128.false),
    )

pub returns : goal.returns
returns t c = stored_more _ _ c.requires.1 _ _ _ _ _ c.if-v-lt128.false refl c.write_groups.ensures
