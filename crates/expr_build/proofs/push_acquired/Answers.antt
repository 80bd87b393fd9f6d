use lib.IntN.{pos}
use mir.Syntax.{w32}
use mir.Facts.{to_z_pos}
use Rattle.model.specs.Expr.{size}
use Rattle.model.specs.declared.Op2.TheVariants.{NotEqual}
use Rattle.expr_build.specs.Laws.{two_put}
use Rattle.expr_build.specs.Tests.{with_zero}
use Rattle.expr_build.specs.Codes.{size_compare}
use Rattle.expr_build.specs.AcquiredLaws.{rate_none, rate_some, size_timer, size_least}
use native.Mathlib.Omega.{arith}
use Rattle.expr_build.proofs.push_acquired.Goals as goal

pub push_compare-n1-requires : goal.push_compare-n1-requires
push_compare-n1-requires c = omega (arith, c.requires.0, size_least c.args.a)

pub returns-then-a-eq0 : goal.returns-then-a-eq0
returns-then-a-eq0 c = rw (rate_none (with_zero NotEqual c.args.a.of (pos c.args.a.id)) c.args.a.rate c.if-a-eq0.true) (rw (c.from.ensures, to_z_pos w32 {n = c.args.a.id} (omega arith)) at c.push_compare-n1.ensures)

pub push_rate-n2-requires : goal.push_rate-n2-requires
push_rate-n2-requires c = (omega (arith, c.requires.0, size_timer c.args.a c.if-a-eq0.false, (rw (c.from.ensures, to_z_pos w32 {n = c.args.a.id} (omega arith)) at c.push_compare-n1.ensures).counted, size_compare NotEqual c.args.a.of (pos c.args.a.id)), c.requires.1)

pub overflow_sub-n1 : goal.overflow_sub-n1
overflow_sub-n1 c = omega (arith, (rw (c.from.ensures, to_z_pos w32 {n = c.args.a.id} (omega arith)) at c.push_compare-n1.ensures).counted, size_compare NotEqual c.args.a.of (pos c.args.a.id))

pub overflow_sub-n2 : goal.overflow_sub-n2
unfolding size
overflow_sub-n2 c = omega (arith, c.push_rate-n2.ensures.counted)

pub push_two-requires : goal.push_two-requires
unfolding size
push_two-requires c = omega (arith, c.requires.0, size_timer c.args.a c.if-a-eq0.false, (rw (c.from.ensures, to_z_pos w32 {n = c.args.a.id} (omega arith)) at c.push_compare-n1.ensures).counted, size_compare NotEqual c.args.a.of (pos c.args.a.id), c.push_rate-n2.ensures.counted)

pub returns : goal.returns
returns c = rw (rate_some (with_zero NotEqual c.args.a.of (pos c.args.a.id)) c.args.a.rate c.if-a-eq0.false) (two_put (rw (c.from.ensures, to_z_pos w32 {n = c.args.a.id} (omega arith)) at c.push_compare-n1.ensures) c.push_rate-n2.ensures c.push_two.ensures)
