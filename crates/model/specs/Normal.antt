-- The normal form of a shop (01, Parser: Normal form). Assumes nothing: these are definitions.
use Rattle.std.specs.Prelude.{Bool, not, cond, ◌&&◌, List, map, ℕ, leb, ℤ, pos}
use Rattle.std.proofs.Math.Option.{Option, none, some}
use Rattle.model.specs.Sheet.{Sheet, atc_for}
use Rattle.model.specs.Requirement.{Requirement, negate_req, same_req, sorted, member, keep, settled}
use Rattle.model.specs.Shop.{Slot, empty_slot, limit_of}
use Rattle.model.specs.Compile.{acquired_req}

abbrev pub filled_slot : ℕ → ℕ → List Requirement → Slot
filled_slot w l rs = record { item = some w; limit = pos l; requirements = rs }

-- the acquired test of item or atc
unfoldable pub acquired_of : Sheet → ℕ → Requirement
acquired_of h w = acquired_req (atc_for h w) w

-- contradicts none of qs, and is neither the acquired test nor its negation
unfoldable pub lone : Requirement → List Requirement → Requirement → Bool
lone a qs r = not (member (negate_req r) qs) && (not (same_req r a) && not (same_req r (negate_req a)))

abbrev pub normal_filled : Sheet → ℕ → ℕ → List Requirement → Slot
normal_filled h w l qs = cond (leb l 1) (filled_slot w 1 (keep (lone (acquired_of h w) qs) qs)) (filled_slot w l (settled qs))

-- no item gives the empty slot
abbrev pub normal_for : Sheet → Option ℕ → ℤ → List Requirement → Slot
normal_for h none z qs = empty_slot
normal_for h (some w) z qs = normal_filled h w (limit_of h w z) qs

unfoldable pub normal : Sheet → Slot → Slot
normal h x = normal_for h x.item x.limit (sorted x.requirements)

abbrev pub normal_shop : Sheet → List Slot → List Slot
normal_shop h xs = map (normal h) xs
