-- `slots_heading::write_timers` meets its contract. Assumes nothing.
use mathlib.Core.List.{◌++◌}
use Rattle.model.specs.Reading.{word}
use Rattle.image_numbers.specs.Stored.{stored_on, room_first, room_next}
use borrow.Author.Rules.{rules}
use Rattle.slots_heading.proofs.write_timers.Statement.{statement}
use Rattle.slots_heading.proofs.write_timers.Tie as tie

write-short-requires : tie.Need-write_short-p-requires
write-short-requires c κs = room_first (word c.args.sheet.timer10.0 ++ (word c.args.sheet.timer15.0 ++ word c.args.setup)) c.requires

write-short-requires-2 : tie.Need-write_short-q-requires
write-short-requires-2 c κs = room_first (word c.args.sheet.timer15.0 ++ word c.args.setup) (room_next c.write_short-p.ensures c.requires)

write-short-requires-3 : tie.Need-write_short-s-requires
write-short-requires-3 c κs = room_first (word c.args.setup) (room_next c.write_short-q.ensures (room_next c.write_short-p.ensures c.requires))

write-wide-requires : tie.Need-write_wide-requires
write-wide-requires c κs = room_next c.write_short-s.ensures (room_next c.write_short-q.ensures (room_next c.write_short-p.ensures c.requires))

returns : tie.Need-returns
returns c = stored_on c.write_short-p.ensures (stored_on c.write_short-q.ensures (stored_on c.write_short-s.ensures c.write_wide.ensures))

pub write_timers_spec : {M : Type 1} → statement M
write_timers_spec = tie.close (tie.spec
    write-short-requires
    write-short-requires-2
    write-short-requires-3
    write-wide-requires
    (λ c. search rules)
    returns)
