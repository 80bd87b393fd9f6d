-- The context from the answers of the functions that make it.
use Rattle.std.proofs.Common.{◌≡◌, ◌∙◌}
use Rattle.std.proofs.Math.Facts.{to_z-of_z}
use Rattle.shop.specs.Shapes.{timer_is}
use Rattle.compile_slots.specs.Parts.{is_five}
use Rattle.compile_slots.specs.Context.{context_made, not_five}
use Rattle.compile_slots.proofs.item_context.Goals as goal
use Rattle.compile_slots.proofs.item_context.Goals.{in-Five, in_default}

pub returns : goal.returns
returns c =
    let five : c.match-matches.matches ≡ is_five (timer_is c.timer_of-timer.result) =
    elim c.match-matches.branch [ in-Five w ↦ rw (w.matches-is, w.in-Five.is) | in_default w ↦ w.matches-is ∙ not_five _ w.in_default.not-Five ] in
    context_made c.args.attached.now c.args.sheet c.args.limit c.args.index c.args.end c.args.item c.args.len _ c.rate_of.result _ _ _
    (c.timer_of-timer.ensures c.args.attached.now) c.rate_of.ensures (rw c.from.ensures at c.acquired_of-acquired.ensures) (rw (to_z-of_z c.ranges.limit) at c.limit_of-limit.ensures) five
