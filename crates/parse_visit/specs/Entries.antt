-- Entries of the tables read as requirements: they stay while tables grow, and the companions stand for the negations. Assumes nothing.
use Rattle.std.specs.Prelude.{◌≡◌, refl, true, false, List, [], ◌∷◌, ◌++◌, map, ℕ, suc, ◌≤◌, ◌<◌, get_or, length}
use Rattle.std.proofs.Common.{arith}
use Rattle.std.proofs.Math.Decide.{dec_le}
use Rattle.std.proofs.Math.Seq.{slice, slice_empty, slice-cons}
use Rattle.model.specs.Requirement.{Requirement, negate_req}
use Rattle.parse_keys.specs.Entries.{entry_req, turned, Valid, Stand}
use Rattle.parse_keys.specs.Tables.{Companions, Grown}
use Rattle.parse_keys.specs.Turns.{turn_req, turn_valid}
use Rattle.parse_keys.specs.Growth.{grown_stand}
use Rattle.parse_conditions.specs.Listing.{Listing}
use Rattle.parse_conditions.specs.ListingLaws.{listing_length}
use Rattle.parse_filter.specs.Chains.{companion_of, signed_entry}

-- entries xs of m keys stand for the requirements qs, in their order
abbrev pub Reads : List ℕ → ℕ → List ℕ → List Requirement → Type 0
Reads ks m [] [] = Unit {0}
Reads ks m [] (q ∷ qs) = ⊥
Reads ks m (x ∷ xs) [] = ⊥
Reads ks m (x ∷ xs) (q ∷ qs) = Stand ks m x q × Reads ks m xs qs

pub reads_append : (ks : List ℕ) (m : ℕ) (xs ys : List ℕ) (qs rs : List Requirement) → Reads ks m xs qs → Reads ks m ys rs → Reads ks m (xs ++ ys) (qs ++ rs)
reads_append ks m [] ys [] rs p r = r
reads_append ks m [] ys (q ∷ qs) rs p r = absurd p
reads_append ks m (x ∷ xs) ys [] rs p r = absurd p
reads_append ks m (x ∷ xs) ys (q ∷ qs) rs p r = (p.0, reads_append ks m xs ys qs rs p.1 r)

pub reads_map : (ks : List ℕ) (m : ℕ) (xs : List ℕ) (qs : List Requirement) → Reads ks m xs qs → map (entry_req ks) xs ≡ qs
reads_map ks m [] [] p = refl
reads_map ks m [] (q ∷ qs) p = absurd p
reads_map ks m (x ∷ xs) [] p = absurd p
reads_map ks m (x ∷ xs) (q ∷ qs) p = rw (p.0.is, reads_map ks m xs qs p.1)

-- ---- keys grow

pub reads_grown : (ks : List ℕ) (m : ℕ) (ks' : List ℕ) (n : ℕ) → Grown ks m ks' n → (xs : List ℕ) (qs : List Requirement) → Reads ks m xs qs → Reads ks' n xs qs
reads_grown ks m ks' n g [] [] p = tt
reads_grown ks m ks' n g [] (q ∷ qs) p = absurd p
reads_grown ks m ks' n g (x ∷ xs) [] p = absurd p
reads_grown ks m ks' n g (x ∷ xs) (q ∷ qs) p = (grown_stand ks m ks' n x q g p.0, reads_grown ks m ks' n g xs qs p.1)

-- ---- companions

pub reads_other : (ks cs : List ℕ) (m : ℕ) → Companions cs m → (xs : List ℕ) (qs : List Requirement) → Reads ks m xs qs → Reads ks m (map (companion_of cs) xs) (map negate_req qs)
reads_other ks cs m c [] [] p = tt
reads_other ks cs m c [] (q ∷ qs) p = absurd p
reads_other ks cs m c (x ∷ xs) [] p = absurd p
reads_other ks cs m c (x ∷ xs) (q ∷ qs) p =
    let e : get_or cs x 0 ≡ turned true x = c x p.0.valid in
    (record { valid = rw e (turn_valid m x true p.0.valid); is = rw (e, turn_req ks x, p.0.is) }, reads_other ks cs m c xs qs p.1)

pub reads_plain : (ks cs : List ℕ) (m : ℕ) (xs : List ℕ) (qs : List Requirement) → Reads ks m xs qs → Reads ks m (map (signed_entry cs false) xs) qs
reads_plain ks cs m [] [] p = tt
reads_plain ks cs m [] (q ∷ qs) p = absurd p
reads_plain ks cs m (x ∷ xs) [] p = absurd p
reads_plain ks cs m (x ∷ xs) (q ∷ qs) p = (p.0, reads_plain ks cs m xs qs p.1)

-- ---- a part of the list

pub listing_reads : (ks : List ℕ) (m : ℕ) (ls : List ℕ) (at : ℕ) (qs : List Requirement) (to : ℕ) → to ≤ length ls → Listing ks m ls at qs to → Reads ks m (slice at to ls) qs
listing_reads ks m ls at [] to h p = rw (p, slice_empty to ls) tt
listing_reads ks m ls at (q ∷ qs) to h p =
    let u = listing_length ks m ls (suc at) qs to p.1 in
    rw (slice-cons at to ls 0 (omega arith) h) (p.0, listing_reads ks m ls (suc at) qs to h p.1)

-- each of its entries is valid
pub listing_valid : (ks : List ℕ) (m : ℕ) (ls : List ℕ) (at : ℕ) (qs : List Requirement) (to : ℕ) → Listing ks m ls at qs to → (i : ℕ) → at ≤ i → i < to → Valid m (get_or ls i 0)
listing_valid ks m ls at [] to p i l u = absurd (omega arith)
listing_valid ks m ls at (q ∷ qs) to p i l u = by (dec_le (suc at) i) (listing_valid ks m ls (suc at) qs to p.1 i)
  where
    by : Dec (suc at ≤ i) → (suc at ≤ i → i < to → Valid m (get_or ls i 0)) → Valid m (get_or ls i 0)
    by (yes d) ih = ih d u
    by (no d) ih = let e : at ≡ i = omega arith in rw (← e) p.0.valid
