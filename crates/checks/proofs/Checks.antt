-- What each check finds, and that the checks answer in their order. Assumes nothing.
use mathlib.Core.Path.{◌≡◌, refl, ◌∙◌, subst}
use mathlib.Core.Bool.{true, false, ◌&&◌}
use mathlib.Core.List.{List, [], ◌∷◌}
use Prim.Native.Nat.{ℕ, zero, suc, ◌<◌}
use native.Mathlib.Omega.{arith}
use native.Mathlib.Nat.{not-suc-le-zero}
use lib.Dec.{T, eqb}
use lib.IntN.{ℤ, pos, negsuc}
use lib.Signed.{lt_z}
use mir.Syntax.{w16, w32}
use mir.Val.{SFits}
use lib.ListN.{length, length-map}
use borrow.Author.Tests.{ltb-true, le-leb}
use Rattle.model.specs.Limits.{half16, most_held, flag_count, time_count, variable_count}
use Rattle.model.specs.Refusal.{first_of}
use Rattle.model.specs.Signed.{in_range}
use Rattle.model.specs.Sheet.{Sheet, sheet_ok, save_ok, all, is_count, is_bit}
use Rattle.model.specs.Judge.{setup_refusal, shared_refusal}
use Rattle.model.specs.Memory.{Memory, script_of}
use Rattle.model.specs.RecordCalls.{call_in, record_refusal}
use Rattle.model.proofs.Laws.Checks.{first_alone}
use Rattle.checks.specs.Calls.{save_of}
use Rattle.shop.specs.Shapes.{sheet_of}
use Rattle.shop.specs.declared.Sheet as code

-- ---- check 12

pub count_negative : (z : ℤ) → lt_z z (pos 0) ≡ true → is_count z ≡ false
count_negative (pos n) t = absurd (not-suc-le-zero (ltb-true n 0 t))
count_negative (negsuc n) t = refl

pub count_natural : (z : ℤ) → SFits w16 z → lt_z z (pos 0) ≡ false → is_count z ≡ true
count_natural (pos n) f t = let h : n < half16 = f.sfits in rw (le-leb 0 n (omega arith), le-leb n most_held (omega arith))
count_natural (negsuc n) f t = absurd (subst T t tt)

pub save_is : (ks : List ℕ) (h : code.Sheet) (items : List ℤ) (atcs flags : List ℕ) (times vars : List ℤ)
    → save_ok (sheet_of ks h) (save_of items atcs flags times vars)
    ≡ ((eqb (length items) (length ks) && all is_count items)
    && (eqb (length atcs) h.atcs && all is_bit atcs)
    && (eqb (length flags) flag_count && all is_bit flags)
    && (eqb (length times) time_count && all (in_range w16) times)
    && (eqb (length vars) variable_count && all (in_range w32) vars))
unfolding save_ok sheet_of
save_is ks h items atcs flags times vars = rw length-map

-- ---- the call

module _ (h : Sheet) (m : Memory) (b : ℕ) where
  pub call_sheet : sheet_ok h ≡ false → 1 ≡ call_in h m b
  unfolding call_in shared_refusal
  call_sheet e = rw e

  pub call_refused : (k : ℕ) → sheet_ok h ≡ true → k ≡ record_refusal m → (k ≡ 0 → ⊥) → k ≡ call_in h m b
  unfolding call_in shared_refusal
  call_refused k e p n = rw (e, ← p) (go k n)
    where
      go : (k : ℕ) → (k ≡ 0 → ⊥) → k ≡ first_of (k ∷ setup_refusal (script_of m) b ∷ [])
      go zero n = absurd (n refl)
      go (suc k) n = refl

  pub call_setup : (k : ℕ) → sheet_ok h ≡ true → record_refusal m ≡ 0 → k ≡ setup_refusal (script_of m) b → k ≡ call_in h m b
  unfolding call_in shared_refusal
  call_setup k e p q = rw (e, p) (q ∙ first_alone (setup_refusal (script_of m) b))
