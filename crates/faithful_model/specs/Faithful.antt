-- The rule that tells faithful slots: its requirements can all be met, and at limit 1 nothing that is asked is the acquired subject itself. Assumes nothing: these are definitions.
use Rattle.std.specs.Prelude.{Bool, true, not, ◌&&◌, List, ℕ, leb, ℤ}
use Rattle.std.proofs.Math.Option.{Option, none, some}
use Rattle.model.specs.Sheet.{Sheet, all}
use Rattle.model.specs.Requirement.{Requirement, negate_req, member}
use Rattle.model.specs.Shop.{Slot, limit_of}
use Rattle.model.specs.Normal.{acquired_of}

-- no requirement stands beside its negation
unfoldable pub no_pair : List Requirement → Bool
no_pair rs = all (λ r. not (member (negate_req r) rs)) rs

-- of item w, one being whether its coerced limit is 1: there, the Have of the acquired subject (atc or item) is not among them either
abbrev pub faithful_filled : Sheet → ℕ → Bool → List Requirement → Bool
faithful_filled h w one rs = no_pair rs && not (one && member (acquired_of h w) rs)

abbrev pub faithful_for : Sheet → Option ℕ → ℤ → List Requirement → Bool
faithful_for h none z rs = true
faithful_for h (some w) z rs = faithful_filled h w (leb (limit_of h w z) 1) rs

unfoldable pub is_faithful : Sheet → Slot → Bool
is_faithful h x = faithful_for h x.item x.limit x.requirements
