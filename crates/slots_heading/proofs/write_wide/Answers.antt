-- Folding undoes unfolding.
use Rattle.std.proofs.Common.{to_z-of_z, w32}
use Rattle.model.proofs.Laws.Reading.{zig_zag}
use Rattle.slots_heading.proofs.write_wide.Goals as goal

pub write_value-requires : goal.write_value-requires
write_value-requires c = rw (to_z-of_z {w = w32} {z = c.signed.result} (record { sfits = c.signed.type_inv }), c.signed.ensures, c.from.ensures, zig_zag c.args.v) c.requires

pub returns : goal.returns
returns c = rw (to_z-of_z {w = w32} {z = c.signed.result} (record { sfits = c.signed.type_inv }), c.signed.ensures, c.from.ensures, zig_zag c.args.v) at c.write_value.ensures
