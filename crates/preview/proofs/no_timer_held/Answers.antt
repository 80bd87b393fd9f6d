-- Neither of the two timers is held. Assumes nothing.
use Rattle.shop.specs.Shapes.{sheet_of}
use Rattle.preview.proofs.no_timer_held.Goals as goal

pub returns-then-not-is_held : goal.returns-then-not-is_held
unfolding sheet_of
returns-then-not-is_held c = λ ks bs f t v. rw (← c.if-not-is_held.ensures, ← c.is_held-then-not-is_held.ensures)

pub returns-else-not-is_held : goal.returns-else-not-is_held
unfolding sheet_of
returns-else-not-is_held c = λ ks bs f t v. rw (← c.if-not-is_held.ensures, c.if-not-is_held.false)
