-- Counting over all combinations. Assumes nothing.
use Rattle.std.specs.Prelude.{◌≡◌, Bool, not, ◌&&◌, length}
use Rattle.std.proofs.Math.Path.{refl}
use Rattle.std.proofs.Common.{sym, ap, ◌∙◌, true≢false, pow-suc}
use Rattle.std.proofs.Math.Bool.{true, false, cond}
use mathlib.Core.List.{List, [], ◌∷◌, ◌++◌, map}
use Prim.Native.Nat.{ℕ, zero, suc, ◌+◌, ◌^◌}
use native.Mathlib.Omega.{arith}
use Rattle.settings_model.specs.Settings.{combos, count}

module _ {A : Type 0} where
  pub count_append : (p : A → Bool) (xs ys : List A) → count p (xs ++ ys) ≡ count p xs + count p ys
  unfolding count
  count_append p [] ys = omega arith
  count_append p (x ∷ xs) ys = by (p x) (count_append p xs ys)
    where
      by : (b : Bool) → count p (xs ++ ys) ≡ count p xs + count p ys → cond b (suc (count p (xs ++ ys))) (count p (xs ++ ys)) ≡ cond b (suc (count p xs)) (count p xs) + count p ys
      by true ih = omega arith
      by false ih = ih

  -- those that p takes are those that q takes too and those that q does not
  pub count_split : (p q : A → Bool) (xs : List A) → count (λ x. p x && q x) xs + count (λ x. p x && not (q x)) xs ≡ count p xs
  unfolding count
  count_split p q [] = refl
  count_split p q (x ∷ xs) = by (p x) (q x) (count_split p q xs)
    where
      a : ℕ
      a = count (λ x. p x && q x) xs

      b : ℕ
      b = count (λ x. p x && not (q x)) xs

      by : (c d : Bool) → a + b ≡ count p xs → cond (c && d) (suc a) a + cond (c && not d) (suc b) b ≡ cond c (suc (count p xs)) (count p xs)
      by true true ih = omega arith
      by true false ih = omega arith
      by false d ih = ih

  pub count_none : (xs : List A) → count (λ x. false) xs ≡ 0
  unfolding count
  count_none [] = refl
  count_none (x ∷ xs) = count_none xs

count_map : {A B : Type 0} (p : B → Bool) (f : A → B) (xs : List A) → count p (map f xs) ≡ count (λ x. p (f x)) xs
unfolding count
count_map p f [] = refl
count_map p f (x ∷ xs) = rw (count_map p f xs)

-- one more subject: both of its answers
pub count_more : (p : List Bool → Bool) (n : ℕ) → count p (combos (suc n)) ≡ count (λ c. p (true ∷ c)) (combos n) + count (λ c. p (false ∷ c)) (combos n)
unfolding combos
count_more p n = count_append p (map (λ c. true ∷ c) (combos n)) (map (λ c. false ∷ c) (combos n)) ∙ rw (count_map p (λ c. true ∷ c) (combos n), count_map p (λ c. false ∷ c) (combos n))

-- two tests that say the same of every combination of n subjects
pub count_same : (n : ℕ) (p q : List Bool → Bool) → ((c : List Bool) → length c ≡ n → p c ≡ q c) → count p (combos n) ≡ count q (combos n)
unfolding combos count
count_same zero p q e = rw (e [] refl)
count_same (suc n) p q e =
    count_more p n
    ∙ rw (count_same n (λ c. p (true ∷ c)) (λ c. q (true ∷ c)) (λ c l. e (true ∷ c) (ap suc l)), count_same n (λ c. p (false ∷ c)) (λ c. q (false ∷ c)) (λ c l. e (false ∷ c) (ap suc l)))
    (sym (count_more q n))

-- there are 2 to the n of them
pub count_all : (n : ℕ) → count (λ c. true) (combos n) ≡ 2 ^ n
unfolding combos count
count_all zero = refl
count_all (suc n) = count_more (λ c. true) n ∙ rw (count_all n, pow-suc 2 n) (omega arith)

abbrev pub same_list : List Bool → List Bool → Bool
same_list [] [] = true
same_list [] (b ∷ bs) = false
same_list (a ∷ as') [] = false
same_list (true ∷ as') (true ∷ bs) = same_list as' bs
same_list (true ∷ as') (false ∷ bs) = false
same_list (false ∷ as') (true ∷ bs) = false
same_list (false ∷ as') (false ∷ bs) = same_list as' bs

pub same_true : (a b : List Bool) → same_list a b ≡ true → a ≡ b
same_true [] [] e = refl
same_true [] (b ∷ bs) e = absurd (true≢false (sym e))
same_true (a ∷ as') [] e = absurd (true≢false (sym e))
same_true (true ∷ as') (true ∷ bs) e = ap (λ l. true ∷ l) (same_true as' bs e)
same_true (true ∷ as') (false ∷ bs) e = absurd (true≢false (sym e))
same_true (false ∷ as') (true ∷ bs) e = absurd (true≢false (sym e))
same_true (false ∷ as') (false ∷ bs) e = ap (λ l. false ∷ l) (same_true as' bs e)

pub same_own : (a : List Bool) → same_list a a ≡ true
same_own [] = refl
same_own (true ∷ as') = same_own as'
same_own (false ∷ as') = same_own as'

-- each of them stands there once
pub each_once : (t : List Bool) → count (same_list t) (combos (length t)) ≡ 1
unfolding combos count
each_once [] = refl
each_once (true ∷ t) = count_more (same_list (true ∷ t)) (length t) ∙ rw (each_once t, count_none (combos (length t)))
each_once (false ∷ t) = count_more (same_list (false ∷ t)) (length t) ∙ rw (each_once t, count_none (combos (length t)))
