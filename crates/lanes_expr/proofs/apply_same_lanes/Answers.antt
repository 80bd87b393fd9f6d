-- Each arm is its operator.
use Rattle.std.proofs.Common.{get_or, w32}
use Rattle.std.proofs.Math.Facts.{to_z-of_z}
use Rattle.model.specs.Limits.{flag_count, time_count}
use Rattle.lanes_expr.specs.Each.{each_as}
use Rattle.lanes_expr.proofs.Worths.{int_worth, nat_worth}
use Rattle.lanes_expr.proofs.apply_same_lanes.Goals as goal

pub returns-in-Flag : goal.returns-in-Flag
returns-in-Flag c = rw c.in-Flag.is (each_as c.same_elements.ensures (λ j y. rw (to_z-of_z {w = w32} c.ranges.x) (nat_worth flag_count (get_or c.args.ls.now j 0) c.args.flags.now c.args.x)))

pub returns-in-Item : goal.returns-in-Item
returns-in-Item c = rw c.in-Item.is (each_as c.same_elements-in-Item.ensures (λ j y. rw (to_z-of_z {w = w32} c.ranges.x) (int_worth c.args.w.items (get_or c.args.ls.now j 0) c.args.items.now c.args.x)))

pub returns-in-Atc : goal.returns-in-Atc
returns-in-Atc c = rw c.in-Atc.is (each_as c.same_elements-in-Atc.ensures (λ j y. rw (to_z-of_z {w = w32} c.ranges.x) (nat_worth c.args.w.atcs (get_or c.args.ls.now j 0) c.args.atcs.now c.args.x)))

pub returns-in-Time : goal.returns-in-Time
returns-in-Time c = rw c.in-Time.is (each_as c.same_elements-in-Time.ensures (λ j y. rw (to_z-of_z {w = w32} c.ranges.x) (int_worth time_count (get_or c.args.ls.now j 0) c.args.times.now c.args.x)))
