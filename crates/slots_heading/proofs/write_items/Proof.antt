-- `slots_heading::write_items` meets its contract. Assumes nothing.
use mathlib.Core.List.{◌++◌}
use lib.ListN.{length}
use Rattle.model.specs.Reading.{word}
use Rattle.image_numbers.specs.Stored.{stored_on, room_first, room_next}
use Rattle.slots_heading.specs.Steps.{entries_bytes}
use borrow.Author.Rules.{rules}
use Rattle.slots_heading.proofs.write_items.Statement.{statement}
use Rattle.slots_heading.proofs.write_items.Tie as tie

write-short-requires : tie.Need-write_short-p-requires
write-short-requires c κs = room_first (word c.args.atcs ++ entries_bytes c.args.attached.now (length c.args.attached.now) 0) c.requires

write-short-requires-2 : tie.Need-write_short-q-requires
write-short-requires-2 c κs = room_first (entries_bytes c.args.attached.now (length c.args.attached.now) 0) (room_next c.write_short-p.ensures c.requires)

write-atcs-requires : tie.Need-write_atcs-requires
write-atcs-requires c κs = room_next c.write_short-q.ensures (room_next c.write_short-p.ensures c.requires)

returns : tie.Need-returns
returns c = stored_on c.write_short-p.ensures (stored_on c.write_short-q.ensures c.write_atcs.ensures)

pub write_items_spec : {M : Type 1} → statement M
write_items_spec = tie.close (tie.spec
    write-short-requires
    write-short-requires-2
    write-atcs-requires
    (λ c. search rules)
    returns)
