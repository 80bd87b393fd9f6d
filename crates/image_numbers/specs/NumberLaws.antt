-- The steps of the number reader. Assumes nothing.
use Rattle.std.specs.Prelude.{◌≡◌, refl, Some, None, Bool, true, false, List, [], ◌∷◌, ltb, length, get_or, drop}
use Rattle.std.proofs.Math.Path.{ap, subst}
use Rattle.std.proofs.Common.{sym, ◌∙◌, add-one}
use Rattle.std.proofs.Math.Bool.{cond}
use Prim.Native.Nat.{ℕ, zero, suc, ◌+◌, ◌-◌, ◌*◌, ◌≤◌, ◌<◌}
use native.Mathlib.Omega.{arith}
use borrow.Author.Tests.{ltb-true, lt-ltb, le-ltb}
use Rattle.std.proofs.Math.ListN.{drop_of_length-le}
use Rattle.std.proofs.Math.Seq.{drop-cons}
use Rattle.model.specs.Refusal.{bad_image}
use Rattle.model.specs.Reading.{got, refused, groups, more, number, under, room}
use Rattle.model.proofs.Laws.Reading.{refused≢got, got_value, more_split}
use Rattle.image_numbers.specs.Told.{Told}

-- f groups hold less than 128 ^ f
groups_low : (f : ℕ) (s : List ℕ) (n : ℕ) (r : List ℕ) → groups f s ≡ got n r → n < room f
unfolding groups
groups_low zero s n r p = absurd (refused≢got p)
groups_low (suc f) [] n r p = absurd (refused≢got p)
groups_low (suc f) (b ∷ s) n r p = go (ltb b 128) (ltb b 256) refl refl (λ v. groups_low f s v r) p
  where
    room_pos : (f : ℕ) → 0 < room f
    room_pos zero = omega arith
    room_pos (suc f) = omega (arith, room_pos f)

    go : (t u : Bool) → ltb b 128 ≡ t → ltb b 256 ≡ u → ((v : ℕ) → groups f s ≡ got v r → v < room f) → cond t (got b s) (cond u (more (b - 128) (groups f s)) (refused bad_image)) ≡ got n r → n < room (suc f)
    go true u e d ih q = omega (arith, ltb-true b 128 e, room_pos f, got_value q)
    go false false e d ih q = absurd (refused≢got q)
    go false true e d ih q =
        let m = more_split (b - 128) (groups f s) n r q in
        omega (arith, m.is, ih m.high m.was, ltb-true b 256 d)

room_top : (f : ℕ) → f ≤ 4 → room f ≤ 268435456
room_top zero h = omega arith
room_top (suc zero) h = omega arith
room_top (suc (suc zero)) h = omega arith
room_top (suc (suc (suc zero))) h = omega arith
room_top (suc (suc (suc (suc zero)))) h = omega arith
room_top (suc (suc (suc (suc (suc f))))) h = absurd (omega arith)

pub told_low : (s : List ℕ) (f : ℕ) (t : List ℕ) (v p : ℕ) → f ≤ 4 → Told s (Some (v, p)) (groups f t) → v < 268435456
unfolding Told
told_low s f t v p h q = omega (arith, groups_low f t v (drop p s) q.0, room_top f h)

module _ (s : List ℕ) (at f : ℕ) where
  pub told_none : f ≡ 0 → Told s None (groups f (drop at s))
  unfolding Told groups
  told_none e = rw e

  pub told_end : (f ≡ 0 → ⊥) → length s ≤ at → Told s None (groups f (drop at s))
  unfolding Told groups
  told_end e h = let q : f ≡ suc (f - 1) = omega arith in rw (q, drop_of_length-le s h)

  module _ (nz : f ≡ 0 → ⊥) (i : at < length s) (b : ℕ) (eb : b ≡ get_or s at 0) where
    here : groups f (drop at s) ≡ cond (ltb b 128) (got b (drop (at + 1) s)) (cond (ltb b 256) (more (b - 128) (groups (f - 1) (drop (at + 1) s))) (refused bad_image))
    unfolding groups
    here = let q : f ≡ suc (f - 1) = omega arith in
        subst (λ (g : ℕ). groups g (drop at s) ≡ cond (ltb b 128) (got b (drop (at + 1) s)) (cond (ltb b 256) (more (b - 128) (groups (f - 1) (drop (at + 1) s))) (refused bad_image))) (sym q)
        (rw (add-one, eb, drop-cons s at 0 i))

    pub told_last : b < 128 → Told s (Some (b, at + 1)) (groups f (drop at s))
    unfolding Told
    told_last h = (here ∙ rw (lt-ltb b 128 h), omega arith)

    module _ (low : 128 ≤ b) (byte : get_or s at 0 < 256) where
      goes : groups f (drop at s) ≡ more (b - 128) (groups (f - 1) (drop (at + 1) s))
      goes = here ∙ rw (le-ltb b 128 low, lt-ltb b 256 (rw eb byte))

      pub told_zero : (v p : ℕ) → Told s (Some (v, p)) (groups (f - 1) (drop (at + 1) s)) → v ≡ 0 → Told s None (groups f (drop at s))
      unfolding Told more
      told_zero v p a z = goes ∙ rw (a.0, z)

      pub told_more : (v p : ℕ) → Told s (Some (v, p)) (groups (f - 1) (drop (at + 1) s)) → (v ≡ 0 → ⊥) → Told s (Some (128 * v + (b - 128), p)) (groups f (drop at s))
      unfolding Told more
      told_more v p a z =
          let n : v ≡ suc (v - 1) = omega arith in
          let m : b - 128 + 128 * suc (v - 1) ≡ 128 * v + (b - 128) = omega arith in
          (goes ∙ ap (more (b - 128)) (a.0 ∙ ap (λ (x : ℕ). got x (drop p s)) n) ∙ ap (λ (x : ℕ). got x (drop p s)) m, a.1)

      pub told_bad : Told s None (groups (f - 1) (drop (at + 1) s)) → Told s None (groups f (drop at s))
      unfolding Told more
      told_bad a = goes ∙ rw a

module _ (s t : List ℕ) (l : ℕ) where
  pub told_under : (v p : ℕ) → Told s (Some (v, p)) (groups 5 t) → v < l → Told s (Some (v, p)) (number l t)
  unfolding Told number under
  told_under v p a h = (rw (a.0, lt-ltb v l h), a.1)

  pub told_over : (v p : ℕ) → Told s (Some (v, p)) (groups 5 t) → l ≤ v → Told s None (number l t)
  unfolding Told number under
  told_over v p a h = rw (a.0, le-ltb v l h)

  pub told_none_under : Told s None (groups 5 t) → Told s None (number l t)
  unfolding Told number under
  told_none_under a = rw a
