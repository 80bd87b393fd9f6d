use Rattle.std.proofs.Common.{ap, ◌∙◌, ◌/◌, ◌^◌, ◌%◌, ℤ, to_z-of_z, w16}
use Rattle.std.proofs.Math.Option.{Option, some}
use borrow.Author.Tests.{eq-eqb, ne_eqb}
use Rattle.parse_scan.specs.Table.{there, absent}
use Rattle.parse_scan.proofs.value_at.Goals as goal

pub returns-then-mask-slot-eq1 : goal.returns-then-mask-slot-eq1
returns-then-mask-slot-eq1 c = let a = c.args in
    ap {B = Option ℤ} some (to_z-of_z {w = w16} (record { sfits = c.result-1.given }))
    ∙ there a.mask a.xs.now c.told-xs a.slot c.requires (eq-eqb (a.mask / 2 ^ a.slot % 2) 1 c.if-mask-slot-eq1.true)

pub returns-else-mask-slot-eq1 : goal.returns-else-mask-slot-eq1
returns-else-mask-slot-eq1 c = let a = c.args in
    absent a.mask a.xs.now c.told-xs a.slot c.requires (ne_eqb (a.mask / 2 ^ a.slot % 2) 1 c.if-mask-slot-eq1.false)
