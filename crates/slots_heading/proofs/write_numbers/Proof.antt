-- `slots_heading::write_numbers` meets its contract. Assumes nothing.
use Rattle.image_numbers.specs.Stored.{stored_on, stored_as, room_as, room_first, room_next}
use Rattle.slots_heading.specs.Steps.{timers_bytes}
use Rattle.slots_heading.proofs.Steps.{halves}
use borrow.Author.Rules.{rules}
use Rattle.slots_heading.proofs.write_numbers.Statement.{statement}
use Rattle.slots_heading.proofs.write_numbers.Tie as tie

write-items-requires : tie.Need-write_items-p-requires
write-items-requires c κs = room_first (timers_bytes c.args.sheet c.args.setup) (room_as (halves c.args.attached.now c.args.sheet c.args.setup c.args.n c.requires.0) c.requires.1)

write-timers-requires : tie.Need-write_timers-requires
write-timers-requires c κs = room_next c.write_items-p.ensures (room_as (halves c.args.attached.now c.args.sheet c.args.setup c.args.n c.requires.0) c.requires.1)

returns : tie.Need-returns
returns c = stored_as (halves c.args.attached.now c.args.sheet c.args.setup c.args.n c.requires.0) (stored_on c.write_items-p.ensures c.write_timers.ensures)

pub write_numbers_spec : {M : Type 1} → statement M
write_numbers_spec = tie.close (tie.spec
    write-items-requires
    write-timers-requires
    (λ c. search rules)
    returns)
