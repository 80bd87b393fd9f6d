-- The negation of no code passed is there. Assumes nothing.
use Rattle.std.proofs.Common.{Bool, List, ℕ, take}
use Rattle.shop.proofs.All.{Tested}
use Rattle.settings.specs.Codes.{lacks_code, negated_code}
use Rattle.settings.proofs.no_pair.Given as goal

abbrev pub alone : List ℕ → ℕ → Bool
alone cs c = lacks_code (negated_code c) cs

abbrev pub invariant-loop-code : goal.invariant-loop-code
invariant-loop-code l = Tested (alone (take l.n l.row)) (take l.n l.row) l.code-index
