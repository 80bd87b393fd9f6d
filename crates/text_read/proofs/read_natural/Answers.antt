-- The steps are laws of specs/.
use Rattle.text_read.specs.Faults.{fault_number}
use Rattle.text_read.specs.Numbers.{natural_none, natural_alone, digits_start, digits_over, digits_next, digits_done}
use Rattle.text_read.proofs.read_natural.Goals as goal

pub returns-in_default : goal.returns-in_default
returns-in_default c = natural_none c.args.s.now c.args.at (fault_number c.args.e) c.args.bound c.in_default.ensures

pub returns-then-first-eq0 : goal.returns-then-first-eq0
returns-then-first-eq0 c = natural_alone _ _ _ _ _ c.in-Some.ensures c.requires c.if-first-eq0.true

pub loop-d-init : goal.loop-d-init
loop-d-init c = digits_start _ _ _ _ _ c.in-Some.ensures c.requires c.if-first-eq0.false

pub returns-then-bound-n : goal.returns-then-bound-n
returns-then-bound-n c = digits_over _ _ _ _ _ _ c.loop-d.invariant _ c.in-Some-digit_at.ensures c.if-bound-n.true

pub loop-d-preserved : goal.loop-d-preserved
loop-d-preserved c = digits_next _ _ _ _ _ _ c.loop-d.invariant _ c.in-Some-digit_at.ensures c.if-bound-n.false

pub returns : goal.returns
returns c = digits_done _ _ _ _ _ _ c.loop-d.invariant c.in_default-digit_at.ensures
