-- An item's number after the other.
use Rattle.std.proofs.Common.{arith, length}
use Rattle.image_write.specs.Loop.{go_start, go_room, go_next, go_end}
use Rattle.slots_heading.proofs.Steps.{entries_pieces}
use Rattle.slots_heading.proofs.write_atcs.Goals as goal

pub loop-entry-init : goal.loop-entry-init
loop-entry-init c = go_start (entries_pieces c.args.attached.now) (length c.args.attached.now) 0 c.requires

pub write_short-p-requires : goal.write_short-p-requires
write_short-p-requires c = rw c.from.ensures (go_room (entries_pieces c.args.attached.now) (length c.args.attached.now) 0 c.loop-entry.invariant c.loop-entry-test.true (omega arith))

pub loop-entry-preserved : goal.loop-entry-preserved
loop-entry-preserved c = go_next (entries_pieces c.args.attached.now) (length c.args.attached.now) 0 c.loop-entry.invariant c.loop-entry-test.true (omega arith) (rw c.from.ensures at c.write_short-p.ensures)

pub returns : goal.returns
returns c = go_end (entries_pieces c.args.attached.now) (length c.args.attached.now) 0 c.loop-entry.invariant c.loop-entry-test.false
