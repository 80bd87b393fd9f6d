-- A loop over the first places of a list: what it leaves, and its turns. Assumes nothing.
use Rattle.std.specs.Prelude.{◌≡◌, refl, List, ℕ, ◌+◌, ◌≤◌, ◌<◌, get_or, set, length}
use Rattle.std.proofs.Common.{ap, ◌∙◌, arith, length-set, get_or-set_same, get_or-set_other}
use Rattle.std.proofs.Math.Decide.{dec_le}

-- each of the first s places is f of its number and what stood there; the others are as they were
pub record Each {A : Type 0} (d : A) (f : ℕ → A → A) (s : ℕ) (xs ys : List A) : Type 0 where
  pub done : (j : ℕ) → j < s → get_or ys j d ≡ f j (get_or xs j d)
  pub rest : (j : ℕ) → s ≤ j → get_or ys j d ≡ get_or xs j d
  pub long : length ys ≡ length xs

pub each_none : {A : Type 0} (d : A) (f : ℕ → A → A) (xs : List A) → Each d f 0 xs xs
each_none d f xs = record { done = λ j l. absurd (omega arith); rest = λ j l. refl; long = refl }

-- a loop that is not run, where it would change nothing
pub each_kept : {A : Type 0} (d : A) (f : ℕ → A → A) (s : ℕ) (xs : List A) → ((j : ℕ) (x : A) → x ≡ f j x) → Each d f s xs xs
each_kept d f s xs p = record { done = λ j l. p j (get_or xs j d); rest = λ j l. refl; long = refl }

-- one place more, with f of what stands there
pub each_more : {A : Type 0} {d : A} {f : ℕ → A → A} {k : ℕ} {xs ys : List A} {v : A} → Each d f k xs ys → k < length xs → v ≡ f k (get_or ys k d) → Each d f (k + 1) xs (set ys k v)
each_more {d = d} {f = f} {k = k} {xs = xs} {ys = ys} {v = v} e l p = record {
  done = λ j h. by j h (dec_le k j);
  rest = λ j h. get_or-set_other ys k j v d (omega arith) ∙ e.rest j (omega arith);
  long = length-set ys k v ∙ e.long;
}
  where
    by : (j : ℕ) → j < k + 1 → Dec (k ≤ j) → get_or (set ys k v) j d ≡ f j (get_or xs j d)
    by j h (yes q) = let w : j ≡ k = omega arith in rw w (get_or-set_same ys k v d (rw e.long l) ∙ p ∙ ap (f k) (e.rest k (omega arith)))
    by j h (no q) = get_or-set_other ys k j v d (omega arith) ∙ e.done j (omega arith)

pub each_all : {A : Type 0} {d : A} {f : ℕ → A → A} {k s : ℕ} {xs ys : List A} → Each d f k xs ys → k ≤ s → s ≤ k → Each d f s xs ys
each_all {k = k} {s = s} e p q = let w : s ≡ k = omega arith in rw w e

-- by another name of f
pub each_as : {A : Type 0} {d : A} {f g : ℕ → A → A} {s : ℕ} {xs ys : List A} → Each d f s xs ys → ((j : ℕ) (x : A) → f j x ≡ g j x) → Each d g s xs ys
each_as {d = d} {xs = xs} e p = record { done = λ j l. e.done j l ∙ p j (get_or xs j d); rest = e.rest; long = e.long }
