-- What the unmarked blocks weigh together: marking one takes its weight away. Assumes nothing.
use Rattle.std.specs.Prelude.{◌≡◌, refl, Bool, true, false, cond, List, [], ◌∷◌, ℕ, zero, suc, ◌+◌, ◌<◌, length, get_or, set, replicate}
use Rattle.std.proofs.Common.{ap, arith}
use Rattle.model.specs.Script.{sum_of}

unfoldable pub weight_of : {A : Type 0} → (A → ℕ) → List Bool → List A → ℕ
weight_of f [] xs = 0
weight_of f (m ∷ ms) [] = 0
weight_of f (m ∷ ms) (x ∷ xs) = cond m (weight_of f ms xs) (f x + weight_of f ms xs)

pub weight_set : {A : Type 0} (f : A → ℕ) (ms : List Bool) (xs : List A) (d : A) (b : ℕ) → b < length ms → b < length xs → get_or ms b false ≡ false
    → weight_of f (set ms b true) xs + f (get_or xs b d) ≡ weight_of f ms xs
unfolding weight_of
weight_set f [] xs d b h k e = absurd (omega arith)
weight_set f (m ∷ ms) [] d b h k e = absurd (omega arith)
weight_set f (true ∷ ms) (x ∷ xs) d zero h k e = let z : ◌≡◌ {A = ℕ} 0 1 = cc in absurd (omega arith)
weight_set f (false ∷ ms) (x ∷ xs) d zero h k e = omega arith
weight_set f (true ∷ ms) (x ∷ xs) d (suc b) h k e = weight_set f ms xs d b (omega arith) (omega arith) e
weight_set f (false ∷ ms) (x ∷ xs) d (suc b) h k e = omega (arith, weight_set f ms xs d b (omega arith) (omega arith) e)

pub weight_all : {A : Type 0} (f : A → ℕ) (xs : List A) → weight_of f (replicate (length xs) false) xs ≡ sum_of f xs
unfolding weight_of
weight_all f [] = refl
weight_all f (x ∷ xs) = ap (λ n. f x + n) (weight_all f xs)
