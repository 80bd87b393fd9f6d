-- What elements of a part are worth, in the terms of the definitions. Assumes nothing.
use Rattle.std.specs.Prelude.{◌≡◌, refl, List, map, ℕ, zero, suc, ◌*◌, ℤ, pos, negsuc, get_or, take, drop, replicate}
use Rattle.std.proofs.Common.{ap, ◌∙◌}
use Rattle.std.proofs.Math.ListN.{get_or-map}
use Rattle.std.proofs.lemmas.List.{drop-map, take-map, map-id}
use Rattle.model.specs.Save.{nat_at, int_at}
use Rattle.lanes_model.specs.Flat.{part}
use Rattle.lanes_expr.specs.Lanes.{worth_in}

part_map : {A B : Type 0} (f : A → B) (w l : ℕ) (xs : List A) → part w l (map f xs) ≡ map f (part w l xs)
part_map f w l xs = ap (take w) (drop-map f (l * w) xs) ∙ take-map f w (drop (l * w) xs)

-- of bytes
pub nat_worth : (w l : ℕ) (xs : List ℕ) (x : ℤ) → worth_in pos w l xs x ≡ nat_at (part w l xs) x
nat_worth w l xs (pos k) = ap (λ (ys : List ℤ). get_or ys k (pos 0)) (part_map pos w l xs) ∙ get_or-map pos (part w l xs) k 0
nat_worth w l xs (negsuc k) = refl

-- of signed numbers
pub int_worth : (w l : ℕ) (xs : List ℤ) (x : ℤ) → worth_in (λ y. y) w l xs x ≡ int_at (part w l xs) x
int_worth w l xs x = ap (λ (ys : List ℤ). int_at (part w l ys) x) (map-id xs)

-- the same number everywhere, which is also what stands past the end
pub replicated : (n j : ℕ) (z : ℤ) → get_or (replicate n z) j z ≡ z
replicated zero j z = refl
replicated (suc n) zero z = refl
replicated (suc n) (suc j) z = replicated n j z
