use mathlib.Core.Path.{sym, ◌∙◌}
use Rattle.expr_negate.specs.InPlace.{last_put}
use Rattle.expr_build.specs.Codes.{test_missing, test_had, subject_turns, subject_small}
use native.Mathlib.Omega.{arith}
use Rattle.expr_build.proofs.push_test.Goals as goal

pub push_subject-m-requires : goal.push_subject-m-requires
push_subject-m-requires c = omega (arith, c.requires, subject_small c.args.code)

pub negate-requires : goal.negate-requires
negate-requires c = last_put c.push_subject-m.ensures (subject_turns c.args.code) (rw (test_missing c.args.code (sym c.is_missing.ensures ∙ c.if-is_missing.true)) at c.requires)

pub returns-then-is_missing : goal.returns-then-is_missing
returns-then-is_missing c = rw (test_missing c.args.code (sym c.is_missing.ensures ∙ c.if-is_missing.true)) (c.negate.ensures _ _ (subject_turns c.args.code) c.push_subject-m.ensures)

pub returns : goal.returns
returns c = rw (test_had c.args.code (sym c.is_missing.ensures ∙ c.if-is_missing.false)) c.push_subject-m.ensures
