-- The blocks of a context with requirements and without. Assumes nothing.
use Rattle.std.specs.Prelude.{◌≡◌, refl, List, ℕ, zero, suc}
use Rattle.std.proofs.Common.{ap}
use Rattle.compile_slots.specs.declared.ItemContext.{ItemContext}
use Rattle.compile_slots.specs.Parts.{once_by, once_of, limit_by, limit_in, filled_by, filled_of}

-- what is the same for every number of requirements but 0
other_than_none : {A : Type 0} (f : ℕ → A) (y : A) → ((m : ℕ) → f (suc m) ≡ y) → (n : ℕ) → (n ≡ 0 → ⊥) → f n ≡ y
other_than_none f y e zero h = absurd (h refl)
other_than_none f y e (suc n) h = e n

pub once_none : (x : ItemContext) → x.len ≡ 0 → once_of x ≡ once_by 0 x
once_none x e = ap (λ (n : ℕ). once_by n x) e

pub once_some : (x : ItemContext) → (x.len ≡ 0 → ⊥) → once_of x ≡ once_by 1 x
once_some x h = other_than_none (λ (n : ℕ). once_by n x) (once_by 1 x) (λ m. refl) x.len h

pub limit_none : (x : ItemContext) (cs : List ℕ) → x.len ≡ 0 → limit_in x cs ≡ limit_by 0 x cs
limit_none x cs e = ap (λ (n : ℕ). limit_by n x cs) e

pub limit_some : (x : ItemContext) (cs : List ℕ) → (x.len ≡ 0 → ⊥) → limit_in x cs ≡ limit_by 1 x cs
limit_some x cs h = other_than_none (λ (n : ℕ). limit_by n x cs) (limit_by 1 x cs) (λ m. refl) x.len h

pub filled_none : (x : ItemContext) (cs : List ℕ) → x.len ≡ 0 → filled_of x cs ≡ filled_by 0 x cs
filled_none x cs e = ap (λ (n : ℕ). filled_by n x cs) e

pub filled_some : (x : ItemContext) (cs : List ℕ) → (x.len ≡ 0 → ⊥) → filled_of x cs ≡ filled_by 1 x cs
filled_some x cs h = other_than_none (λ (n : ℕ). filled_by n x cs) (filled_by 1 x cs) (λ m. refl) x.len h
