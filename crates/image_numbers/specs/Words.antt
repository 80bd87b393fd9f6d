-- Numbers in groups of seven bits, a group at a time. Assumes nothing.
use Rattle.std.specs.Prelude.{◌≡◌, refl, List, [], ◌∷◌, length, set}
use Rattle.std.proofs.Common.{ap, sym, ◌∙◌, length-set}
use Rattle.std.proofs.Math.Path.{subst}
use Prim.Native.Nat.{ℕ, zero, suc, ◌+◌, ◌-◌, ◌*◌, ◌/◌, ◌%◌, ◌≤◌, ◌<◌}
use native.Mathlib.Omega.{arith}
use borrow.Author.Tests.{lt-ltb, le-ltb}
use Rattle.std.proofs.lemmas.List.Edits.{sets}
use Rattle.model.specs.Reading.{word_to, room}
use Rattle.image_numbers.specs.Stored.{Stored, Room}

module _ (f v : ℕ) (some : 0 < f) where
  word_last : v < 128 → word_to f v ≡ v ∷ []
  unfolding word_to
  word_last h = let q : f ≡ suc (f - 1) = omega arith in rw (q, lt-ltb v 128 h)

  word_next : 128 ≤ v → word_to f v ≡ (v % 128 + 128) ∷ word_to (f - 1) (v / 128)
  unfolding word_to
  word_next h =
      let q : f ≡ suc (f - 1) = omega arith in
      subst (λ (g : ℕ). word_to g v ≡ (v % 128 + 128) ∷ word_to (f - 1) (v / 128)) (sym q) (rw (le-ltb v 128 h))

  -- what is left of the number fits into one group less
  pub high_low : v < room f → v / 128 < room (f - 1)
  high_low h =
      let q : f ≡ suc (f - 1) = omega arith in
      let k : v < 128 * room (f - 1) = subst (λ (g : ℕ). v < room g) q h in
      omega arith

  pub high_some : 128 ≤ v → v < room f → 0 < f - 1
  high_some g h = go (f - 1) (subst (λ (g : ℕ). v < room g) (let q : f ≡ suc (f - 1) = omega arith in q) h)
    where
      go : (e : ℕ) → v < 128 * room e → 0 < e
      go zero k = absurd (omega arith)
      go (suc e) k = omega arith

  module _ {xs : List ℕ} {at : ℕ} (h : Room xs at (word_to f v)) where
    pub room_last : v < 128 → at < length xs
    room_last s = let u = h.fits in omega (arith, ap length (word_last s))

    pub room_more : 128 ≤ v → at < length xs
    room_more g = let u = h.fits in omega (arith, ap length (word_next g))

    pub room_high : (x : ℕ) → 128 ≤ v → Room (set xs at x) (at + 1) (word_to (f - 1) (v / 128))
    room_high x g = let u = h.fits in record { fits = omega (arith, ap length (word_next g), length-set xs at x) }

  pub stored_last : (xs : List ℕ) (at x : ℕ) → v < 128 → x ≡ v → Stored xs at (word_to f v) (set xs at x) (at + 1)
  stored_last xs at x h e = rw (word_last h, e) (record { is = refl; place = refl })

  pub stored_more : (xs ys : List ℕ) (at x r : ℕ) → 128 ≤ v → x ≡ v % 128 + 128 → Stored (set xs at x) (at + 1) (word_to (f - 1) (v / 128)) ys r → Stored xs at (word_to f v) ys r
  stored_more xs ys at x r h e u = rw (word_next h, ← e) (record {
    is = u.is ∙ ap (λ (k : ℕ). sets (set xs at x) k (word_to (f - 1) (v / 128))) (omega arith);
    place = u.place ∙ omega arith;
  })
