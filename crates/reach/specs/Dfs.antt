-- A walk of blocks with marks, next before else, over any state; and the same with a stack. Assumes nothing.
use Rattle.std.specs.Prelude.{◌≡◌, Bool}
use Rattle.std.proofs.Math.Path.{refl}
use Rattle.std.proofs.Common.{sym, ap, ◌∙◌, zero-add, suc-add}
use Rattle.std.proofs.Math.Bool.{true, false, cond}
use Rattle.std.proofs.Math.Option.{Option, none, some}
use mathlib.Core.List.{List, [], ◌∷◌}
use Prim.Native.Nat.{ℕ, zero, suc, ◌+◌, ◌≤◌, ◌<◌}
use native.Mathlib.Omega.{arith}

-- a block and the condition under which it is reached
pub record Entry (C : Type 0) : Type 0 where
  pub block : ℕ
  pub under : C

abbrev pub entry : {C : Type 0} → ℕ → C → Entry C
entry b c = record { block = b; under = c }

-- what a block leaves, and where it goes on: nowhere, to next, to next and then to else
pub data Ways (C : Type 0) : Type 0 where
  nowhere : Ways C
  to : Entry C → Ways C
  to_both : Entry C → Entry C → Ways C

pub record Stepped (C S : Type 0) : Type 0 where
  pub state : S
  pub ways : Ways C

-- the ways taken in order, by a walk g
abbrev pub after : {C S : Type 0} → (Entry C → S → S) → Ways C → S → S
after g nowhere s = s
after g (to k) s = g k s
after g (to_both k j) s = g j (g k s)

module _ (C S : Type 0) (skip : ℕ → S → Bool) (step : Entry C → S → Stepped C S) where
  -- to a depth of at most f
  unfoldable pub walk_a : ℕ → Entry C → S → S
  walk_a zero e s = s
  walk_a (suc f) e s = cond (skip e.block s) s (after (λ k t. walk_a f k t) (step e s).ways (step e s).state)

  -- a stack of entries, the top first
  unfoldable pub walks_a : ℕ → List (Entry C) → S → S
  walks_a f [] s = s
  walks_a f (e ∷ es) s = walks_a f es (walk_a f e s)

abbrev pub pushed : {C : Type 0} → Ways C → List (Entry C) → List (Entry C)
pushed nowhere es = es
pushed (to k) es = k ∷ es
pushed (to_both k j) es = k ∷ j ∷ es

-- "next before else, else only where there is a next"
abbrev pub ways_by : {C : Type 0} → Option ℕ → Option ℕ → C → C → Ways C
ways_by none el c d = nowhere
ways_by (some k) none c d = to (entry k c)
ways_by (some k) (some j) c d = to_both (entry k c) (entry j d)

-- how much is left to mark: a step that goes on marks a block
abbrev pub Goes : {C : Type 0} → Ways C → ℕ → ℕ → Type 0
Goes nowhere a b = a ≤ b
Goes (to k) a b = a < b
Goes (to_both k j) a b = a < b

-- what a state must be for the measure to fall, and that steps keep it
module _ (C S : Type 0) (skip : ℕ → S → Bool) (step : Entry C → S → Stepped C S) (left : S → ℕ) (Good : S → Type 0)
    (keeps : (e : Entry C) (s : S) → Good s → Good (step e s).state)
    (falls : (e : Entry C) (s : S) → Good s → skip e.block s ≡ false → Goes (step e s).ways (left (step e s).state) (left s)) where
  -- what a walk keeps, and that it marks only
  pub record Kept (s t : S) : Type 0 where
    pub good : Good t
    pub less : left t ≤ left s

  ways_kept : (g : Entry C → S → S) (s : S) → ((k : Entry C) (t : S) → Good t → Kept t (g k t)) → (w : Ways C) (t : S) → Good t → Goes w (left t) (left s) → Kept s (after g w t)
  ways_kept g s h nowhere t o l = record { good = o; less = l }
  ways_kept g s h (to k) t o l = let a = h k t o in record { good = a.good; less = omega arith }
  ways_kept g s h (to_both k j) t o l = let a = h k t o in let b = h j (g k t) a.good in record { good = b.good; less = omega arith }

  pub kept : (f : ℕ) (e : Entry C) (s : S) → Good s → Kept s (walk_a C S skip step f e s)
  unfolding walk_a
  kept zero e s o = record { good = o; less = omega arith }
  kept (suc f) e s o = by (λ k t p. kept f k t p) (skip e.block s) refl
    where
      by : ((k : Entry C) (t : S) → Good t → Kept t (walk_a C S skip step f k t)) → (b : Bool) → skip e.block s ≡ b
          → Kept s (cond b s (after (λ k u. walk_a C S skip step f k u) (step e s).ways (step e s).state))
      by h true z = record { good = o; less = omega arith }
      by h false z = ways_kept (λ k u. walk_a C S skip step f k u) s h (step e s).ways (step e s).state (keeps e s o) (falls e s o z)

  -- two walks agree where the marks are few
  ways_same : (g h : Entry C → S → S) (n : ℕ) → ((k : Entry C) (t : S) → Good t → Kept t (h k t)) → ((k : Entry C) (t : S) → Good t → left t < n → g k t ≡ h k t)
      → (w : Ways C) (t : S) → Good t → Goes w (left t) n → after g w t ≡ after h w t
  ways_same g h n l q nowhere t o m = refl
  ways_same g h n l q (to k) t o m = q k t o m
  ways_same g h n l q (to_both k j) t o m = let a = l k t o in ap (λ u. g j u) (q k t o m) ∙ q j (h k t) a.good (omega arith)

  -- a depth above what is left is enough
  pub enough : (f : ℕ) (e : Entry C) (s : S) → Good s → left s < f → walk_a C S skip step (suc f) e s ≡ walk_a C S skip step f e s
  unfolding walk_a
  enough zero e s o h = absurd (omega arith)
  enough (suc f) e s o h = by (λ k t p q. enough f k t p q) (skip e.block s) refl
    where
      by : ((k : Entry C) (t : S) → Good t → left t < f → walk_a C S skip step (suc f) k t ≡ walk_a C S skip step f k t) → (b : Bool) → skip e.block s ≡ b
          → cond b s (after (λ k u. walk_a C S skip step (suc f) k u) (step e s).ways (step e s).state) ≡ cond b s (after (λ k u. walk_a C S skip step f k u) (step e s).ways (step e s).state)
      by q true z = refl
      by q false z = ways_same (λ k u. walk_a C S skip step (suc f) k u) (λ k u. walk_a C S skip step f k u) (left s) (λ k t p. kept f k t p) (λ k t p r. q k t p (omega arith)) (step e s).ways (step e s).state (keeps e s o) (falls e s o z)

  -- any depth above what is left gives the same walk
  pub enough_more : (d f : ℕ) (e : Entry C) (s : S) → Good s → left s < f → walk_a C S skip step (d + f) e s ≡ walk_a C S skip step f e s
  enough_more zero f e s o h = ap (λ n. walk_a C S skip step n e s) (zero-add f)
  enough_more (suc d) f e s o h = ap (λ n. walk_a C S skip step n e s) (suc-add d f) ∙ enough (d + f) e s o (omega arith) ∙ enough_more d f e s o h

  -- an entry that is skipped
  pub walks_skip : (f : ℕ) (e : Entry C) (es : List (Entry C)) (s : S) → skip e.block s ≡ true → walks_a C S skip step (suc f) (e ∷ es) s ≡ walks_a C S skip step (suc f) es s
  unfolding walks_a walk_a
  walks_skip f e es s h = rw h

  -- an entry that is visited: its ways go on the stack
  pub walks_visit : (f : ℕ) (e : Entry C) (es : List (Entry C)) (s : S) → Good s → skip e.block s ≡ false → left s ≤ f
      → walks_a C S skip step (suc f) (e ∷ es) s ≡ walks_a C S skip step (suc f) (pushed (step e s).ways es) (step e s).state
  unfolding walks_a walk_a
  walks_visit f e es s o h l =
      rw h
      (ap (λ u. walks_a C S skip step (suc f) es u)
      (sym (ways_same (λ k u. walk_a C S skip step (suc f) k u) (λ k u. walk_a C S skip step f k u) (left s) (λ k t p. kept f k t p) (λ k t p r. enough f k t p (omega arith)) (step e s).ways (step e s).state (keeps e s o) (falls e s o h)))
      ∙ pushes (step e s).ways (step e s).state)
    where
      pushes : (w : Ways C) (t : S) → walks_a C S skip step (suc f) es (after (λ k u. walk_a C S skip step (suc f) k u) w t) ≡ walks_a C S skip step (suc f) (pushed w es) t
      pushes nowhere t = refl
      pushes (to k) t = refl
      pushes (to_both k j) t = refl

  -- where all is skipped, a stack does nothing
  pub walks_off : (f : ℕ) (es : List (Entry C)) (s : S) → ((b : ℕ) → skip b s ≡ true) → walks_a C S skip step (suc f) es s ≡ s
  unfolding walks_a walk_a
  walks_off f [] s h = refl
  walks_off f (e ∷ es) s h = rw (h e.block) (walks_off f es s h)
