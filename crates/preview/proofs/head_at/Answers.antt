-- With the row of the codes it is the slot. Assumes nothing.
use Rattle.std.proofs.Common.{refl, get_or, pos}
use mir.Facts.{to_z-of_z}
use mir.Syntax.{w16}
use Rattle.shop_arrays.specs.Arrays.{slot_at}
use Rattle.preview.proofs.head_at.Goals as goal

pub returns : goal.returns
unfolding slot_at
returns c = λ cs.
    rw (to_z-of_z {w = w16} {z = get_or c.args.limits.now c.args.i (pos 0)} (record { sfits = c.result-1.given }), c.item_at.ensures) refl
