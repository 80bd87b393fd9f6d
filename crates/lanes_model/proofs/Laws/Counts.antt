-- How many numbers below a bound have a property, where a list holds them all. Assumes nothing.
use Rattle.std.specs.Prelude.{◌≡◌, refl, Bool, true, false, cond, not, ◌&&◌, ◌⊎◌, ℕ, zero, suc, ◌≤◌, eqb, length}
use Rattle.std.proofs.Common.{sym, true≢false, inl, inr, arith, eqb-true, eq-eqb, ne_eqb}
use mathlib.Core.List.Memᴰ
use mathlib.Core.List.{List, [], ◌∷◌, Memᴰ}
use Rattle.model.proofs.Laws.Checks.{and_left, and_right}
use Rattle.lanes_model.specs.Walk.{count_below}

-- those that are not k
abbrev without : ℕ → (ℕ → Bool) → ℕ → Bool
without k p c = not (eqb c k) && p c

-- k aside, as many below k as before
count_below_lem : (n k : ℕ) (p : ℕ → Bool) → n ≤ k → count_below n p ≡ count_below n (without k p)
count_below_lem zero k p l = refl
count_below_lem (suc n) k p l = rw (ne_eqb n k (omega arith), count_below_lem n k p (omega arith))

-- and one more at most
count_without : (n k : ℕ) (p : ℕ → Bool) → count_below n p ≤ suc (count_below n (without k p))
count_without zero k p = omega arith
count_without (suc n) k p = by (eqb n k) refl (p n) (count_without n k p)
  where
    by : (x : Bool) → eqb n k ≡ x → (y : Bool) → count_below n p ≤ suc (count_below n (without k p))
        → cond y (suc (count_below n p)) (count_below n p) ≤ suc (cond (not x && y) (suc (count_below n (without k p))) (count_below n (without k p)))
    by true e true ih = let w = eqb-true n k e in omega (arith, count_below_lem n k p (omega arith))
    by true e false ih = ih
    by false e true ih = omega arith
    by false e false ih = ih

count_none : (n : ℕ) (p : ℕ → Bool) → ((c : ℕ) → p c ≡ true → ⊥) → count_below n p ≤ 0
count_none zero p f = omega arith
count_none (suc n) p f = by (p n) refl (count_none n p f)
  where
    by : (x : Bool) → p n ≡ x → count_below n p ≤ 0 → cond x (suc (count_below n p)) (count_below n p) ≤ 0
    by true e ih = absurd (f n e)
    by false e ih = ih

pub count_list : (n : ℕ) (p : ℕ → Bool) (ks : List ℕ) → ((c : ℕ) → p c ≡ true → Memᴰ c ks) → count_below n p ≤ length ks
count_list n p [] f = count_none n p (λ c e. Memᴰ.not-nil (f c e))
count_list n p (k ∷ ks) f = omega (arith, count_without n k p, count_list n (without k p) ks others)
  where
    others : (c : ℕ) → without k p c ≡ true → Memᴰ c ks
    others c e = by (Memᴰ.cases_cons (f c (and_right (not (eqb c k)) (p c) e)))
      where
        by : (c ≡ k) ⊎ Memᴰ c ks → Memᴰ c ks
        by (inl q) = let z : not true ≡ true = rw (eq-eqb c k q) at (and_left (not (eqb c k)) (p c) e) in absurd (true≢false (sym z))
        by (inr m) = m
