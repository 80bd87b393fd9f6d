-- What `all` over the numbers below a count answers, said of the numbers. Assumes nothing.
use Rattle.std.specs.Prelude.{◌≡◌, Bool, true, false, Option, ℕ, ◌≤◌, ◌<◌, List, length, get_or, MatchBool, MatchOption}
use Rattle.std.proofs.Common.{arith}
use Rattle.std.proofs.iter.Yields.{nat_range_steps}
use Rattle.std.proofs.lemmas.Iterator.{YieldsList-from_range, cases_from_all}
use Rattle.std.proofs.lemmas.List.FromFn.{length-range_with_len, get_or-range_with_len}
use Rattle.std.specs.Fn.{Called}
use Rattle.std.specs.Iterator.{YieldsThen}
use Rattle.std.specs.List.{range_with_len, FoldsTo}
use Rattle.std.specs.declared.ops.Range.{Range}
use denote.Param.Members.{Mut}

nth : (n k : ℕ) → k < n → get_or (range_with_len 0 n) k 0 ≡ k
nth n k l = omega (arith, get_or-range_with_len 0 n k 0 l)

pub all_below : {F : Type 0} {g : Mut F (ℕ × Unit {0}) Bool} {s : Range ℕ} (u : Range ℕ) (f : F) (r : Bool) (n : ℕ) (Yes No : ℕ → Type 0)
    → s ≡ record { start = 0; end = n }
    → (xs : List ℕ) × (o : Option ℕ) × (j : F) × YieldsThen nat_range_steps s xs o u × FoldsTo (λ p x q. Called g p (x, tt) true q) f xs j × MatchOption o (r ≡ true) (λ x. (r ≡ false) × ((h : F) × Called g j (x, tt) false h))
    → ((x : ℕ) (q : F) → Called g f (x, tt) true q → (q ≡ f) × Yes x)
    → ((x : ℕ) (q : F) → Called g f (x, tt) false q → No x)
    → MatchBool r ((k : ℕ) → k < n → Yes k) ((k : ℕ) × (k < n) × No k)
all_below {F} {g} {s} u f r n Yes No e ran ys ns = go r (cases_from_all u f r Yes No ran (YieldsList-from_range 0 n n e (omega arith)) ys ns)
  where
    go : (b : Bool) → MatchBool b ((k d : ℕ) → 0 ≤ k → k < length (range_with_len 0 n) → Yes (get_or (range_with_len 0 n) k d)) ((k : ℕ) × (k < length (range_with_len 0 n)) × ((d : ℕ) → No (get_or (range_with_len 0 n) k d)))
        → MatchBool b ((k : ℕ) → k < n → Yes k) ((k : ℕ) × (k < n) × No k)
    go true p = λ k l. rw (nth n k l) at (p k 0 (omega arith) (rw (length-range_with_len 0 n) l))
    go false p = let l : p.0 < n = rw (length-range_with_len 0 n) at p.1 in (p.0, l, rw (nth n p.0 l) at (p.2 0))
