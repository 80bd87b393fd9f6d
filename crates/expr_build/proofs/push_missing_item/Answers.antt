use lib.IntN.{pos}
use mathlib.Core.Path.{refl}
use mir.Syntax.{w32}
use mir.Facts.{to_z_pos}
use Rattle.model.specs.declared.Op2.TheVariants.{Equal}
use Rattle.model.specs.declared.Op1.TheVariants.{Item}
use Rattle.expr_negate.specs.Turns.{flips, compared}
use Rattle.expr_negate.specs.InPlace.{last_put}
use Rattle.expr_build.specs.Codes.{size_compare}
use native.Mathlib.Omega.{arith}
use Rattle.expr_build.proofs.push_missing_item.Goals as goal

pub negate-requires : goal.negate-requires
negate-requires c = last_put (rw (c.from.ensures, to_z_pos w32 {n = c.args.item.0} (omega arith)) at c.push_compare-m.ensures) (flips (compared refl refl)) (omega (arith, c.requires, size_compare Equal Item (pos c.args.item.0)))

pub returns : goal.returns
returns c = c.negate.ensures _ _ (flips (compared refl refl)) (rw (c.from.ensures, to_z_pos w32 {n = c.args.item.0} (omega arith)) at c.push_compare-m.ensures)
