-- Numbers that a loop comes by, one step at a time: a running sum, or where what was gone over ends. Assumes nothing.
use Rattle.std.specs.Prelude.{◌≡◌, refl, Bool, true, false, cond, ℕ, ◌+◌, ◌≤◌, ◌<◌, ltb}
use Rattle.std.proofs.Common.{◌∙◌, arith, ltb-true, ltb-false, lt-ltb, le-ltb}

-- from 0 by n steps to e: step i leads from mark i to mark (i + 1)
pub record Chain (Step : ℕ → ℕ → ℕ → Type 0) (n e : ℕ) : Type 0 where
  pub mark : ℕ → ℕ
  pub first : mark 0 ≡ 0
  pub last : mark n ≡ e
  pub step : (i : ℕ) → i < n → Step i (mark i) (mark (i + 1))

module _ {Step : ℕ → ℕ → ℕ → Type 0} where
  pub chain_none : Chain Step 0 0
  chain_none = record { mark = λ i. 0; first = refl; last = refl; step = λ i h. absurd (omega arith) }

  pub chain_more : {n e e' : ℕ} → Chain Step n e → Step n e e' → Chain Step (n + 1) e'
  chain_more {n} {e} {e'} C s = record { mark = mark; first = low 0 (omega arith) ∙ C.first; last = high; step = λ i h. by i h (ltb i n) refl }
    where
      mark : ℕ → ℕ
      mark i = cond (ltb i (n + 1)) (C.mark i) e'

      low : (i : ℕ) → i ≤ n → mark i ≡ C.mark i
      low i h = rw (lt-ltb i (n + 1) (omega arith))

      high : mark (n + 1) ≡ e'
      high = rw (le-ltb (n + 1) (n + 1) (omega arith))

      by : (i : ℕ) → i < n + 1 → (b : Bool) → ltb i n ≡ b → Step i (mark i) (mark (i + 1))
      by i h true q =
          let p = ltb-true i n q in
          rw (low i (omega arith), low (i + 1) (omega arith)) (C.step i p)
      by i h false q =
          let p : i ≡ n = omega (arith, ltb-false i n q) in
          rw (p, low n (omega arith), C.last, high) s
