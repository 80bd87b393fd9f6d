-- What a requirement reads of a save, apart from whether that has to be there or missing. Assumes nothing: these are definitions.
use Rattle.std.specs.Prelude.{Bool, false, not, ℕ, ℤ, pos}
use Rattle.std.proofs.Math.Option.{Option, none, some}
use Rattle.model.specs.Signed.{eq_z, is_zero}
use Rattle.model.specs.Save.{Save, nat_at}
use Rattle.model.specs.Requirement.{Requirement, haveItem, missingItem, haveAtc, missingAtc, haveFlag, missingFlag}
use Rattle.model.specs.Meaning.{held}

abbrev pub is_there : Save → Requirement → Bool
is_there s (haveItem i) = not (is_zero (held s i))
is_there s (missingItem i) = not (is_zero (held s i))
is_there s (haveAtc a) = not (is_zero (nat_at s.atcs (pos a)))
is_there s (missingAtc a) = not (is_zero (nat_at s.atcs (pos a)))
is_there s (haveFlag f) = not (is_zero (nat_at s.flags f))
is_there s (missingFlag f) = not (is_zero (nat_at s.flags f))

-- a timer's rate counts as having it
abbrev pub rated_at : Option ℕ → ℤ → Bool
rated_at none z = false
rated_at (some r) z = eq_z z (pos r)
