-- Elements of lists by their places: what lists of equal elements, marks that were set, and padded lists have there. Assumes nothing.
use Rattle.std.specs.Prelude.{◌≡◌, refl, Bool, true, false, List, [], ◌∷◌, ℕ, zero, suc, ◌<◌, get_or, set, length, replicate}
use Rattle.std.proofs.Common.{ap, arith}
use Rattle.model.specs.Sheet.{all}
use Rattle.model.specs.Shop.{Slot, padded}
use Rattle.model.proofs.Laws.Checks.{and_left, and_right}

-- a list of one value has it everywhere, where that is what stands past its end
pub all_one : {A : Type 0} (d : A) (n b : ℕ) → get_or (replicate n d) b d ≡ d
all_one d zero b = refl
all_one d (suc n) zero = refl
all_one d (suc n) (suc b) = all_one d n b

-- within the list the default does not matter
pub any_default : {A : Type 0} (xs : List A) (i : ℕ) (d e : A) → i < length xs → get_or xs i d ≡ get_or xs i e
any_default [] i d e l = absurd (omega arith)
any_default (x ∷ xs) zero d e l = refl
any_default (x ∷ xs) (suc i) d e l = any_default xs i d e (omega arith)

pub marks_stay : (ms : List Bool) (k j : ℕ) → get_or ms j false ≡ true → get_or (set ms k true) j false ≡ true
marks_stay [] k j p = p
marks_stay (m ∷ ms) zero zero p = refl
marks_stay (m ∷ ms) (suc k) zero p = p
marks_stay (m ∷ ms) zero (suc j) p = p
marks_stay (m ∷ ms) (suc k) (suc j) p = marks_stay ms k j p

-- what holds at every place holds of all
pub all_from : {A : Type 0} (p : A → Bool) (xs : List A) (d : A) → ((n : ℕ) → n < length xs → p (get_or xs n d) ≡ true) → all p xs ≡ true
all_from p [] d f = refl
all_from p (x ∷ xs) d f = rw (f 0 (omega arith)) (all_from p xs d (λ n l. f (suc n) (omega arith)))

pub all_set : {A : Type 0} (p : A → Bool) (xs : List A) (i : ℕ) (y : A) → all p xs ≡ true → p y ≡ true → all p (set xs i y) ≡ true
all_set p [] i y a e = refl
all_set p (x ∷ xs) zero y a e = rw e (and_right (p x) _ a)
all_set p (x ∷ xs) (suc i) y a e = rw (and_left (p x) _ a) (all_set p xs i y (and_right (p x) _ a) e)

-- a list that is long enough is not padded
pub padded_all : (n : ℕ) (xs : List Slot) → length xs ≡ n → padded n xs ≡ xs
unfolding padded
padded_all zero [] e = refl
padded_all zero (x ∷ xs) e = absurd (omega arith)
padded_all (suc n) [] e = absurd (omega arith)
padded_all (suc n) (x ∷ xs) e = ap (λ l. x ∷ l) (padded_all n xs (omega arith))
