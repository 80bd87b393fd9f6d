-- Signed numbers as an image has them: folded into numbers, and back. Assumes nothing.
use Rattle.std.specs.Prelude.{◌≡◌, refl, true, false, ℕ, suc, ◌+◌, ◌*◌, ◌/◌, ◌%◌, ◌<◌, T, ℤ, pos, negsuc, ◌-ℤ◌}
use Rattle.std.proofs.Common.{ap, sym, ◌∙◌, subst, arith, ltb-true, le-ltb, eq-eqb, ne_eqb, SFits, to_z, of_z, to_z-of_z}
use Rattle.std.specs.Int.Signed.{lt_z}
use Rattle.std.specs.Int.{w32}
use Rattle.std.proofs.lemmas.Int.{to_z_pos}
use Rattle.model.specs.Limits.{wide, half32}
use Rattle.model.specs.Reading.{zig, zag}
use Rattle.model.proofs.Laws.Signed.{minus_one}

-- ---- folded

-- a negative number, flipped
pub record Flipped (z : ℤ) : Type 0 where
  pub high : ℕ
  pub is : negsuc 0 -ℤ z ≡ pos high
  pub low : high < half32
  pub folds : 2 * high + 1 ≡ zig z

pub flipped : (z : ℤ) → SFits w32 z → lt_z z (pos 0) ≡ true → Flipped z
unfolding zig
flipped (pos n) f t = absurd (omega (arith, ltb-true n 0 t))
flipped (negsuc n) f t =
    let h : n < half32 = f.sfits in
    record { high = n; is = rw (le-ltb (suc n) 1 (omega arith)) (ap pos (omega arith)); low = h; folds = refl }

-- a number that is not
pub record Plain (z : ℤ) : Type 0 where
  pub high : ℕ
  pub is : z ≡ pos high
  pub low : high < half32
  pub folds : 2 * high ≡ zig z

pub plain : (z : ℤ) → SFits w32 z → lt_z z (pos 0) ≡ false → Plain z
unfolding zig
plain (pos n) f t = record { high = n; is = refl; low = f.sfits; folds = refl }
plain (negsuc n) f t = absurd (subst T t tt)

pub zig_low : (z : ℤ) → SFits w32 z → zig z < wide
unfolding zig
zig_low (pos n) f = let h : n < half32 = f.sfits in omega arith
zig_low (negsuc n) f = let h : n < half32 = f.sfits in omega arith

-- ---- unfolded

pub zag_even : (n : ℕ) → n % 2 ≡ 0 → zag n ≡ pos (n / 2)
unfolding zag
zag_even n h = rw (eq-eqb (n % 2) 0 h)

pub zag_odd : (n : ℕ) → (n % 2 ≡ 0 → ⊥) → zag n ≡ negsuc (n / 2)
unfolding zag
zag_odd n h = rw (ne_eqb (n % 2) 0 h)

module _ (v : ℕ) (h : v < wide) where
  half : to_z w32 (v / 2) ≡ pos (v / 2)
  half = to_z_pos w32 (v / 2) (omega arith)

  pub signed_even : v % 2 ≡ 0 → to_z w32 (v / 2) ≡ zag v
  signed_even e = half ∙ sym (zag_even v e)

  down : negsuc 0 -ℤ to_z w32 (v / 2) ≡ negsuc (v / 2)
  down = ap (λ (z : ℤ). negsuc 0 -ℤ z) half ∙ minus_one (v / 2)

  pub signed_fits : SFits w32 (negsuc 0 -ℤ to_z w32 (v / 2))
  signed_fits = rw down (record { sfits = omega arith })

  pub signed_odd : (v % 2 ≡ 0 → ⊥) → to_z w32 (of_z w32 (negsuc 0 -ℤ to_z w32 (v / 2))) ≡ zag v
  signed_odd e = to_z-of_z {w = w32} signed_fits ∙ down ∙ sym (zag_odd v e)
