-- A loop that tests every element of a list, and tests in a row. Assumes nothing.
use mathlib.Core.Path.{◌≡◌, refl, sym, ap, ◌∙◌}
use mathlib.Core.Bool.{Bool, true, false, ◌&&◌}
use mathlib.Core.List.{List, [], ◌∷◌, map}
use Prim.Native.Nat.{ℕ, ◌+◌, ◌≤◌, ◌<◌}
use native.Mathlib.Numerals.{add-one}
use native.Mathlib.Omega.{arith}
use lib.ListN.{length, drop, get_or, drop_of_length-le, length-map}
use lib.Seq.{drop-cons}
use Rattle.std.specs.List.{list_all}
use Rattle.model.specs.Sheet.{all}

-- the first i elements passed
pub record Tested {A : Type 0} (p : A → Bool) (xs : List A) (i : ℕ) : Type 0 where
  pub low : i ≤ length xs
  pub is : all p xs ≡ all p (drop i xs)

module _ {A : Type 0} (p : A → Bool) (xs : List A) where
  pub start : Tested p xs 0
  start = record { low = omega arith; is = refl }

  module _ (i : ℕ) (t : Tested p xs i) where
    pub more : (d : A) → i < length xs → p (get_or xs i d) ≡ true → Tested p xs (i + 1)
    more d h e = record { low = omega arith; is = t.is ∙ rw (drop-cons xs i d h, e, add-one i) }

    pub stop : (d : A) → i < length xs → p (get_or xs i d) ≡ false → false ≡ all p xs
    stop d h e = sym (t.is ∙ rw (drop-cons xs i d h, e))

    pub done : length xs ≤ i → true ≡ all p xs
    done h = sym (t.is ∙ ap (all p) (drop_of_length-le xs h))

-- the test of std is the definitions'
pub all_same : {A : Type 0} (p : A → Bool) (xs : List A) → list_all p xs ≡ all p xs
all_same p [] = refl
all_same p (x ∷ xs) = ap (λ b. p x && b) (all_same p xs)

pub all_map : {A B : Type 0} (p : B → Bool) (f : A → B) (xs : List A) → all p (map f xs) ≡ all (λ x. p (f x)) xs
all_map p f [] = refl
all_map p f (x ∷ xs) = ap (λ b. p (f x) && b) (all_map p f xs)

-- an array of structs is as long as its elements' images are
pub length_mapped : {X Y : Type 0} (f : X → Y) (l : List X) (n : ℕ) → length (map f l) ≡ n → length l ≡ n
length_mapped f l n e = sym (length-map l f) ∙ e
