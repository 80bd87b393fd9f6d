-- Whether the requirement of a code holds. Assumes nothing.
use mathlib.Core.Path.{◌≡◌, refl, sym, ◌∙◌}
use mathlib.Core.Bool.{Bool, true, false, not, cond}
use mathlib.Core.List.{List, map}
use Prim.Native.Nat.{ℕ}
use lib.IntN.{pos}
use Rattle.model.specs.Signed.{is_zero}
use Rattle.model.specs.Save.{Save, nat_at}
use Rattle.model.specs.Sheet.{all}
use Rattle.model.specs.Requirement.{Requirement, haveItem, missingItem, haveAtc, missingAtc, haveFlag, missingFlag}
use Rattle.model.specs.Meaning.{held, holds, all_hold}
use Rattle.model.proofs.Laws.Runs.{all_hold_lem}
use Rattle.shop_codes.specs.Codes.{requirement_of, is_missing}
use Rattle.shop.proofs.All.{all_map}
use Rattle.preview.specs.Tests.{is_there}

module _ (s : Save) where
  twice : (b : Bool) → b ≡ not (not b)
  twice true = refl
  twice false = refl

  pub holds_by : (r : Requirement) → holds s r ≡ cond (is_missing r) (not (is_there s r)) (is_there s r)
  unfolding holds
  holds_by (haveItem i) = refl
  holds_by (missingItem i) = twice (is_zero (held s i))
  holds_by (haveAtc a) = refl
  holds_by (missingAtc a) = twice (is_zero (nat_at s.atcs (pos a)))
  holds_by (haveFlag f) = refl
  holds_by (missingFlag f) = twice (is_zero (nat_at s.flags f))

  pub all_held : (cs : List ℕ) → all (λ c. holds s (requirement_of c)) cs ≡ all_hold s (map requirement_of cs)
  all_held cs = sym (all_map (holds s) requirement_of cs) ∙ all_hold_lem s (map requirement_of cs)
