-- Lists of entries: one after the other, and that they stay as keys are added and places after them are written. Assumes nothing.
use Rattle.std.specs.Prelude.{◌≡◌, List, [], ◌∷◌, ◌++◌, ℕ, suc, ◌+◌, ◌<◌, get_or, length}
use Rattle.std.proofs.Common.{arith}
use Rattle.model.specs.Requirement.{Requirement}
use Rattle.parse_keys.specs.Tables.{Grown}
use Rattle.parse_keys.specs.Growth.{grown_stand}
use Rattle.parse_conditions.specs.Listing.{Listing}

pub listing_length : (ks : List ℕ) (m : ℕ) (ls : List ℕ) (at : ℕ) (qs : List Requirement) (to : ℕ) → Listing ks m ls at qs to → at + length qs ≡ to
listing_length ks m ls at [] to e = omega arith
listing_length ks m ls at (q ∷ qs) to l = omega (arith, listing_length ks m ls (suc at) qs to l.1)

pub listing_append : (ks : List ℕ) (m : ℕ) (ls : List ℕ) (at : ℕ) (xs : List Requirement) (mid : ℕ) (ys : List Requirement) (to : ℕ)
    → Listing ks m ls at xs mid → Listing ks m ls mid ys to → Listing ks m ls at (xs ++ ys) to
listing_append ks m ls at [] mid ys to e l = rw e l
listing_append ks m ls at (x ∷ xs) mid ys to k l = (k.0, listing_append ks m ls (suc at) xs mid ys to k.1 l)

module _ (ks : List ℕ) (m : ℕ) (ks' : List ℕ) (n : ℕ) (ls ls' : List ℕ) (to : ℕ) (g : Grown ks m ks' n) (f : (j : ℕ) → j < to → get_or ls' j 0 ≡ get_or ls j 0) where
  pub listing_stays : (at : ℕ) (qs : List Requirement) → Listing ks m ls at qs to → Listing ks' n ls' at qs to
  listing_stays at [] e = e
  listing_stays at (q ∷ qs) l =
      let b : at < to = omega (arith, listing_length ks m ls (suc at) qs to l.1) in
      (rw (f at b) (grown_stand ks m ks' n (get_or ls at 0) q g l.0), listing_stays (suc at) qs l.1)
