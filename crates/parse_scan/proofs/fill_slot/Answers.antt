use mathlib.Core.Path.{◌∙◌}
use lib.IntN.{pos}
use lib.ListN.{get_or}
use mir.Syntax.{w16, w32}
use mir.Val.{SFits}
use mir.Facts.{to_z-of_z}
use Rattle.parse_scan.specs.InPlace.{filled_in}
use Rattle.parse_scan.proofs.fill_slot.Goals as goal

pub returns : goal.returns
returns c = let a = c.args in
    let n = c.fill_number in
    let fx : SFits w32 (get_or a.items.now a.i (pos 0)) = record { sfits = c.fill_number-arg-1.given } in
    let fl : SFits w16 (get_or a.limits.now a.i (pos 0)) = record { sfits = c.new_count-arg-1.given } in
    filled_in a.known a.id.0 a.count a.i a.items.now a.limits.now c.requires.0 c.requires.1.0 c.requires.1.1 _ _
    (rw (to_z-of_z {w = w32} (record { sfits = n.type_inv })) (rw (to_z-of_z fx) at n.ensures))
    (to_z-of_z {w = w16} (record { sfits = c.new_count.type_inv }) ∙ (rw (to_z-of_z c.ranges.count, to_z-of_z fl) at c.new_count.ensures))
