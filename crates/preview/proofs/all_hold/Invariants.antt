-- Every entry passed holds. Assumes nothing.
use Rattle.std.proofs.Common.{Bool, List, ℕ, ℤ}
use Rattle.model.specs.Meaning.{holds}
use Rattle.shop_codes.specs.Codes.{requirement_of}
use Rattle.shop.specs.Shapes.{entries}
use Rattle.shop.proofs.All.{Tested}
use Rattle.checks.specs.Calls.{save_of}
use Rattle.preview.proofs.all_hold.Given as goal

-- whether a code's requirement holds
abbrev pub held : List ℤ → List ℕ → List ℕ → List ℤ → List ℤ → ℕ → Bool
held items atcs flags t v c = holds (save_of items atcs flags t v) (requirement_of c)

abbrev pub invariant-loop-i : goal.invariant-loop-i
invariant-loop-i l = (t v : List ℤ) → Tested (held l.items l.atcs l.flags t v) (entries l.len l.row) l.i
