-- The steps are laws of specs/.
use Rattle.std.proofs.Common.{refl, arith}
use Rattle.text_read.specs.Whole.{lines_start, lines_no, lines_next, lines_over, lines_done}
use Rattle.text_read.proofs.read_text.Goals as goal

pub loop-i-init : goal.loop-i-init
loop-i-init c = lines_start _ _ c.empty_shop-shop.ensures

pub returns-in-Err : goal.returns-in-Err
returns-in-Err c = lines_no _ _ _ _ c.loop-i.invariant c.loop-i-test.true _ c.in-Err.ensures

pub loop-i-preserved : goal.loop-i-preserved
loop-i-preserved c = lines_next _ _ _ _ c.loop-i.invariant c.loop-i-test.true _ _ c.in-Ok.ensures _ refl

pub returns-then-p-s : goal.returns-then-p-s
returns-then-p-s c = lines_over _ _ _ _ c.loop-i.invariant (omega arith) (omega arith) c.if-p-s.true

pub returns : goal.returns
returns c = lines_done _ _ _ _ c.loop-i.invariant (omega arith) (omega arith) c.if-p-s.false
