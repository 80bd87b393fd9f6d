use Rattle.expr_negate.specs.Turns.{flips}
use Rattle.expr_negate.specs.InPlace.{last_put}
use Rattle.expr_build.specs.AcquiredLaws.{acquired_flips, size_missing}
use native.Mathlib.Omega.{arith}
use Rattle.expr_build.proofs.push_missing.Goals as goal

pub push_acquired-m-requires : goal.push_acquired-m-requires
push_acquired-m-requires c = (omega (arith, c.requires.0, size_missing c.args.a), c.requires.1)

pub negate-requires : goal.negate-requires
negate-requires c = last_put c.push_acquired-m.ensures (flips (acquired_flips c.args.a)) c.requires.0

pub returns : goal.returns
returns c = c.negate.ensures _ _ (flips (acquired_flips c.args.a)) c.push_acquired-m.ensures
