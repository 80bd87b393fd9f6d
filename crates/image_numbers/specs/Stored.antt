-- What writing bytes into a slice leaves, and the room that it takes. Assumes nothing.
use Rattle.std.specs.Prelude.{◌≡◌, refl, List, [], ◌∷◌, ◌++◌, ℕ, suc, ◌+◌, ◌≤◌, length, set}
use Rattle.std.proofs.Common.{ap, ap₂, sym, ◌∙◌, add-zero, add-suc, suc-add, arith, length-append}
use Rattle.std.proofs.lemmas.List.Edits.{sets}
use Rattle.std.proofs.Math.Seq.{length-sets}

-- xs with the bytes b from a place on, and the place after them
pub record Stored (xs : List ℕ) (at : ℕ) (b : List ℕ) (ys : List ℕ) (r : ℕ) : Type 0 where
  pub is : ys ≡ sets xs at b
  pub place : r ≡ at + length b

-- from a place on there is room for the bytes b
pub record Room (xs : List ℕ) (at : ℕ) (b : List ℕ) : Type 0 where
  pub fits : at + length b ≤ length xs

sets_append : (xs a b : List ℕ) (c : ℕ) → sets (sets xs c a) (c + length a) b ≡ sets xs c (a ++ b)
sets_append xs [] b c = ap (λ (k : ℕ). sets xs k b) (add-zero c)
sets_append xs (x ∷ a) b c =
    ap (λ (k : ℕ). sets (sets (set xs c x) (suc c) a) k b) (add-suc c (length a) ∙ sym (suc-add c (length a)))
    ∙ sets_append (set xs c x) a b (suc c)

pub stored_none : {xs : List ℕ} {at : ℕ} → Stored xs at [] xs at
stored_none = record { is = refl; place = omega arith }

-- one run of bytes after another
pub stored_on : {xs ys zs : List ℕ} {at p r : ℕ} {a b : List ℕ} → Stored xs at a ys p → Stored ys p b zs r → Stored xs at (a ++ b) zs r
stored_on {xs} {ys} {zs} {at} {p} {r} {a} {b} u v = record {
  is = v.is ∙ ap₂ (λ (l : List ℕ) (k : ℕ). sets l k b) u.is u.place ∙ sets_append xs a b at;
  place = omega (arith, u.place, v.place, length-append a b);
}

-- the same bytes by another name
pub stored_as : {xs ys : List ℕ} {at r : ℕ} {a b : List ℕ} → b ≡ a → Stored xs at a ys r → Stored xs at b ys r
stored_as e u = rw e u

pub stored_length : {xs ys : List ℕ} {at r : ℕ} {a : List ℕ} → Stored xs at a ys r → length ys ≡ length xs
stored_length {xs} {ys} {at} {r} {a} u = ap length u.is ∙ length-sets xs at a

pub room_as : {xs : List ℕ} {at : ℕ} {a b : List ℕ} → b ≡ a → Room xs at b → Room xs at a
room_as e u = rw e at u

pub room_first : {xs : List ℕ} {at : ℕ} {a : List ℕ} (b : List ℕ) → Room xs at (a ++ b) → Room xs at a
room_first {xs} {at} {a} b h = let f = h.fits in record { fits = omega (arith, length-append a b) }

-- what is left after the first run
pub room_next : {xs ys : List ℕ} {at p : ℕ} {a b : List ℕ} → Stored xs at a ys p → Room xs at (a ++ b) → Room ys p b
room_next {xs} {ys} {at} {p} {a} {b} u h = let f = h.fits in record { fits = omega (arith, u.place, stored_length u, length-append a b) }
