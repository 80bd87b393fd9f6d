use Rattle.model.specs.Expr.{negate}
use Rattle.expr_build.specs.Tests.{join_codes, acquired_of}
use Rattle.expr_build.specs.Laws.{two_put}
use Rattle.expr_build.specs.AcquiredLaws.{missing_none, missing_some, size_missing_some, size_missing_least}
use native.Mathlib.Omega.{arith}
use Rattle.memory.specs.PutNodes.{size_pos}
use Rattle.expr_build.proofs.push_missing_and.Goals as goal

pub push_missing-n1-requires : goal.push_missing-n1-requires
push_missing-n1-requires c = (omega (arith, c.requires.0, size_missing_least c.args.a c.args.codes.now c.args.len), c.requires.1)

pub returns-then-len-eq0 : goal.returns-then-len-eq0
returns-then-len-eq0 c = rw (missing_none c.args.a c.args.codes.now c.args.len c.if-len-eq0.true) c.push_missing-n1.ensures

pub push_tests-n2-requires : goal.push_tests-n2-requires
push_tests-n2-requires c = record { len_nonzero = (omega (arith, c.if-len-eq0.false), c.requires.2); len_bound = omega (arith, c.requires.0, size_missing_some c.args.a c.args.codes.now c.args.len c.if-len-eq0.false, c.push_missing-n1.ensures.counted) }

pub overflow_sub-n1 : goal.overflow_sub-n1
overflow_sub-n1 c = omega (arith, c.push_missing-n1.ensures.counted, size_pos (negate (acquired_of c.args.a)))

pub overflow_sub-n2 : goal.overflow_sub-n2
overflow_sub-n2 c = omega (arith, c.push_tests-n2.ensures.counted, size_pos (join_codes c.args.codes.now c.args.len))

pub push_two-requires : goal.push_two-requires
push_two-requires c = omega (arith, c.requires.0, size_missing_some c.args.a c.args.codes.now c.args.len c.if-len-eq0.false, c.push_missing-n1.ensures.counted, c.push_tests-n2.ensures.counted)

pub returns : goal.returns
returns c = rw (missing_some c.args.a c.args.codes.now c.args.len c.if-len-eq0.false) (two_put c.push_missing-n1.ensures c.push_tests-n2.ensures c.push_two.ensures)
