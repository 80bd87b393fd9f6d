-- Each arm is its operator.
use Rattle.std.proofs.Common.{◌∙◌, w32}
use Rattle.std.proofs.Math.Facts.{to_z-of_z}
use Rattle.model.specs.Limits.{flag_count, time_count}
use Rattle.lanes_expr.proofs.Worths.{int_worth, nat_worth}
use Rattle.lanes_expr.proofs.apply_in.Goals as goal

pub returns-in-Flag : goal.returns-in-Flag
returns-in-Flag c = rw c.in-Flag.is (to_z-of_z {w = w32} (record { sfits = c.element_in.type_inv }) ∙ (rw (to_z-of_z {w = w32} c.ranges.x) at c.element_in.ensures) ∙ nat_worth flag_count c.args.l c.args.flags.now c.args.x)

pub returns-in-Item : goal.returns-in-Item
returns-in-Item c = rw c.in-Item.is (to_z-of_z {w = w32} (record { sfits = c.element_in-in-Item.type_inv }) ∙ (rw (to_z-of_z {w = w32} c.ranges.x) at c.element_in-in-Item.ensures) ∙ int_worth c.args.w.items c.args.l c.args.items.now c.args.x)

pub returns-in-Atc : goal.returns-in-Atc
returns-in-Atc c = rw c.in-Atc.is (to_z-of_z {w = w32} (record { sfits = c.element_in-in-Atc.type_inv }) ∙ (rw (to_z-of_z {w = w32} c.ranges.x) at c.element_in-in-Atc.ensures) ∙ nat_worth c.args.w.atcs c.args.l c.args.atcs.now c.args.x)

pub returns-in-Time : goal.returns-in-Time
returns-in-Time c = rw c.in-Time.is (to_z-of_z {w = w32} (record { sfits = c.element_in-in-Time.type_inv }) ∙ (rw (to_z-of_z {w = w32} c.ranges.x) at c.element_in-in-Time.ensures) ∙ int_worth time_count c.args.l c.args.times.now c.args.x)
