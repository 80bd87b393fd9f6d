-- What is left of a list keeps its order, and the new numbers say where. Assumes nothing.
use Rattle.std.specs.Prelude.{◌≡◌, refl, Bool, true, false, List, [], ◌∷◌, ℕ, zero, suc, ◌≤◌, ◌<◌, get_or, length}
use Rattle.std.proofs.Common.{sym, ap, true≢false, arith}
use Rattle.std.proofs.Math.Decide.{dec_le}
use Rattle.model.specs.Script.{sum_of}
use Rattle.reclaim_model.specs.Reclaim.{survivors, rank}
use Rattle.reclaim_model.proofs.Laws.Reached.{mark_in}

-- the length of what is left is the number of all that survive
pub length_left : {A : Type 0} (ms : List Bool) (xs : List A) → length ms ≡ length xs → length (survivors ms xs) ≡ rank ms (length ms)
unfolding survivors rank
length_left [] xs e = refl
length_left (m ∷ ms) [] e = absurd (omega arith)
length_left (true ∷ ms) (x ∷ xs) e = ap suc (length_left ms xs (omega arith))
length_left (false ∷ ms) (x ∷ xs) e = length_left ms xs (omega arith)

pub rank_most : (ms : List Bool) (b : ℕ) → rank ms b ≤ length ms
unfolding rank
rank_most [] b = omega arith
rank_most (m ∷ ms) zero = omega arith
rank_most (true ∷ ms) (suc b) = omega (arith, rank_most ms b)
rank_most (false ∷ ms) (suc b) = omega (arith, rank_most ms b)

-- "survivors keep their order"
pub rank_grows : (ms : List Bool) (a b : ℕ) → a < b → get_or ms a false ≡ true → rank ms a < rank ms b
unfolding rank
rank_grows [] a b l e = absurd (true≢false (sym e))
rank_grows (m ∷ ms) a zero l e = absurd (omega arith)
rank_grows (true ∷ ms) zero (suc b) l e = omega arith
rank_grows (false ∷ ms) zero (suc b) l e = absurd (true≢false (sym e))
rank_grows (true ∷ ms) (suc a) (suc b) l e = omega (arith, rank_grows ms a b (omega arith) e)
rank_grows (false ∷ ms) (suc a) (suc b) l e = rank_grows ms a b (omega arith) e

pub rank_in : (ms : List Bool) (b : ℕ) → get_or ms b false ≡ true → rank ms b < rank ms (length ms)
rank_in ms b e = rank_grows ms b (length ms) (mark_in ms b e) e

pub rank_apart : (ms : List Bool) (a b : ℕ) → get_or ms a false ≡ true → get_or ms b false ≡ true → rank ms a ≡ rank ms b → a ≡ b
rank_apart ms a b p q e = by (dec_le a b) (dec_le b a)
  where
    by : Dec (a ≤ b) → Dec (b ≤ a) → a ≡ b
    by (yes l) (yes r) = omega arith
    by (yes l) (no r) = absurd (omega (arith, rank_grows ms a b (omega arith) p))
    by (no l) d = absurd (omega (arith, rank_grows ms b a (omega arith) q))

-- a survivor stands at its new number
pub left_at : {A : Type 0} (ms : List Bool) (xs : List A) (d : A) (b : ℕ) → length ms ≡ length xs → get_or ms b false ≡ true → get_or (survivors ms xs) (rank ms b) d ≡ get_or xs b d
unfolding survivors rank
left_at [] xs d b l e = absurd (true≢false (sym e))
left_at (m ∷ ms) [] d b l e = absurd (omega arith)
left_at (true ∷ ms) (x ∷ xs) d zero l e = refl
left_at (false ∷ ms) (x ∷ xs) d zero l e = absurd (true≢false (sym e))
left_at (true ∷ ms) (x ∷ xs) d (suc b) l e = left_at ms xs d b (omega arith) e
left_at (false ∷ ms) (x ∷ xs) d (suc b) l e = left_at ms xs d b (omega arith) e

-- and nothing else is left
pub record Origin {A : Type 0} (ms : List Bool) (xs : List A) (d : A) (j : ℕ) : Type 0 where
  pub from : ℕ
  pub lives : get_or ms from false ≡ true
  pub number : rank ms from ≡ j

pub left_from_lem : {A : Type 0} (ms : List Bool) (xs : List A) (d : A) (j : ℕ) → length ms ≡ length xs → j < length (survivors ms xs) → Origin ms xs d j
unfolding survivors rank
left_from_lem [] xs d j l e = absurd (omega arith)
left_from_lem (m ∷ ms) [] d j l e = absurd (omega arith)
left_from_lem (true ∷ ms) (x ∷ xs) d zero l e = record { from = 0; lives = refl; number = refl }
left_from_lem (true ∷ ms) (x ∷ xs) d (suc j) l e = let r = left_from_lem ms xs d j (omega arith) (omega arith) in record { from = suc r.from; lives = r.lives; number = ap suc r.number }
left_from_lem (false ∷ ms) (x ∷ xs) d j l e = let r = left_from_lem ms xs d j (omega arith) e in record { from = suc r.from; lives = r.lives; number = r.number }

-- what is left counts no more
pub sum_left : {A : Type 0} (f : A → ℕ) (ms : List Bool) (xs : List A) → sum_of f (survivors ms xs) ≤ sum_of f xs
unfolding survivors
sum_left f [] xs = omega arith
sum_left f (m ∷ ms) [] = omega arith
sum_left f (true ∷ ms) (x ∷ xs) = omega (arith, sum_left f ms xs)
sum_left f (false ∷ ms) (x ∷ xs) = omega (arith, sum_left f ms xs)
