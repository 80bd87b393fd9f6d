use Rattle.std.specs.Int.{w16}
use mir.Val.{SFits}
use Rattle.std.proofs.Common.{to_z-of_z}
use Rattle.parse_scan.specs.Table.{table_set}
use Rattle.parse_scan.proofs.keep.Goals as goal

pub returns : goal.returns
returns c = let a = c.args in
    let f : SFits w16 c.in-Some.v = record { sfits = c.in-Some.known_told-1-own.given.0.1 } in
    rw (to_z-of_z f, c.bit.ensures, c.in-Some.is) (table_set a.mask a.xs.now a.slot c.in-Some.v)
