-- The chain of a condition link by link, and that it stays where tables grow. Assumes nothing.
use Rattle.std.specs.Prelude.{◌≡◌, Bool}
use Rattle.std.proofs.Math.Path.{refl}
use Rattle.std.proofs.Common.{sym, ap, ◌∙◌}
use Rattle.std.proofs.Math.Bool.{true, false, cond}
use mathlib.Core.List.{List, [], ◌++◌, append_assoc, append-nil}
use Prim.Native.Nat.{ℕ, zero, suc, ◌+◌, ◌-◌, ◌≤◌, ◌<◌}
use native.Mathlib.Omega.{arith}
use Rattle.std.proofs.Math.Dec.{leb}
use borrow.Author.Tests.{leb-true, leb-false, le-leb, lt-leb, ne_eqb}
use Rattle.parse_filter.specs.Chains.{joined_to, part_of, entries_to, entries_above, entries_in, reached_to, reached, top_of, to_of, CellAt}

module _ (cs cells list : List ℕ) (b : ℕ) where
  -- the number is depth enough
  entries_enough : (d c : ℕ) → c ≤ d → entries_to cs cells list b (suc d) c ≡ entries_to cs cells list b d c
  unfolding entries_to
  entries_enough zero c l = rw (le-leb c b (omega arith))
  entries_enough (suc d) c l = by (leb c b) (leb c (joined_to cells c)) refl (λ k. entries_enough d (joined_to cells c) k)
    where
      by : (s t : Bool) → leb c (joined_to cells c) ≡ t → (joined_to cells c ≤ d → entries_to cs cells list b (suc d) (joined_to cells c) ≡ entries_to cs cells list b d (joined_to cells c))
          → cond s [] (cond t [] (entries_to cs cells list b (suc d) (joined_to cells c)) ++ part_of cs cells list c)
          ≡ cond s [] (cond t [] (entries_to cs cells list b d (joined_to cells c)) ++ part_of cs cells list c)
      by true t e ih = refl
      by false true e ih = refl
      by false false e ih = rw (ih (omega (arith, leb-false c (joined_to cells c) e)))

  entries_deep : (k c : ℕ) → entries_to cs cells list b (c + k) c ≡ entries_to cs cells list b c c
  entries_deep zero c = let z : c + 0 ≡ c = omega arith in rw z
  entries_deep (suc k) c = let z : c + suc k ≡ suc (c + k) = omega arith in rw (z, entries_enough (c + k) c (omega arith)) (entries_deep k c)

  reached_enough : (d c : ℕ) → c ≤ d → reached_to cells b (suc d) c ≡ reached_to cells b d c
  unfolding reached_to
  reached_enough zero c l = rw (le-leb c b (omega arith))
  reached_enough (suc d) c l = by (leb c b) (leb c (joined_to cells c)) refl (λ k. reached_enough d (joined_to cells c) k)
    where
      by : (s t : Bool) → leb c (joined_to cells c) ≡ t → (joined_to cells c ≤ d → reached_to cells b (suc d) (joined_to cells c) ≡ reached_to cells b d (joined_to cells c))
          → cond s c (cond t 0 (reached_to cells b (suc d) (joined_to cells c))) ≡ cond s c (cond t 0 (reached_to cells b d (joined_to cells c)))
      by true t e ih = refl
      by false true e ih = refl
      by false false e ih = rw (ih (omega (arith, leb-false c (joined_to cells c) e)))

  reached_deep : (k c : ℕ) → reached_to cells b (c + k) c ≡ reached_to cells b c c
  reached_deep zero c = let z : c + 0 ≡ c = omega arith in rw z
  reached_deep (suc k) c = let z : c + suc k ≡ suc (c + k) = omega arith in rw (z, reached_enough (c + k) c (omega arith)) (reached_deep k c)

  -- at b or below
  pub above_end : (c : ℕ) → c ≤ b → entries_above cs cells list b c ≡ []
  unfolding entries_above entries_to
  above_end zero l = refl
  above_end (suc c) l = rw (le-leb (suc c) b l)

  pub reached_end : (c : ℕ) → c ≤ b → reached cells b c ≡ c
  unfolding reached reached_to
  reached_end zero l = refl
  reached_end (suc c) l = rw (le-leb (suc c) b l)

  -- above b
  pub above_step : (c : ℕ) → b < c → joined_to cells c < c → entries_above cs cells list b c ≡ entries_above cs cells list b (joined_to cells c) ++ part_of cs cells list c
  unfolding entries_above entries_to
  above_step zero l h = absurd (omega arith)
  above_step (suc c) l h =
      let j : ℕ = joined_to cells (suc c) in
      let z : j + (c - j) ≡ c = omega arith in
      rw (lt-leb (suc c) b l, lt-leb (suc c) j h) (ap (λ t. t ++ part_of cs cells list (suc c)) (rw z at (entries_deep (c - j) j)))

  pub reached_step : (c : ℕ) → b < c → joined_to cells c < c → reached cells b c ≡ reached cells b (joined_to cells c)
  unfolding reached reached_to
  reached_step zero l h = absurd (omega arith)
  reached_step (suc c) l h =
      let j : ℕ = joined_to cells (suc c) in
      let z : j + (c - j) ≡ c = omega arith in
      rw (lt-leb (suc c) b l, lt-leb (suc c) j h) (rw z at (reached_deep (c - j) j))

-- the entries of a condition are those of the one that it was joined to and its own
pub entries_at : (cs cells list : List ℕ) (c : ℕ) → 0 < c → joined_to cells c < c → entries_in cs cells list c ≡ entries_in cs cells list (joined_to cells c) ++ part_of cs cells list c
entries_at cs cells list c l h = above_step cs cells list 0 c l h

pub entries_none : (cs cells list : List ℕ) → entries_in cs cells list 0 ≡ []
entries_none cs cells list = above_end cs cells list 0 0 (omega arith)

-- ---- down the chain to b

module _ (cells : List ℕ) (b top : ℕ) (lower : (c : ℕ) → 0 < c → c ≤ top → joined_to cells c < c) where
  pub down : {P : ℕ → Type 0} → ((c : ℕ) → c ≤ b → P c) → ((c : ℕ) → b < c → c ≤ top → P (joined_to cells c) → P c) → (c : ℕ) → c ≤ top → P c
  down {P} base step c l = go c c (omega arith) l
    where
      go : (d c : ℕ) → c ≤ d → c ≤ top → P c
      go zero c k l = base c (omega arith)
      go (suc d) c k l = by (leb c b) refl (λ u v. go d (joined_to cells c) u v)
        where
          by : (t : Bool) → leb c b ≡ t → (joined_to cells c ≤ d → joined_to cells c ≤ top → P (joined_to cells c)) → P c
          by true e ih = base c (leb-true c b e)
          by false e ih =
              let h = leb-false c b e in
              let j = lower c (omega arith) l in
              step c h l (ih (omega arith) (omega arith))

-- the entries above b come after those of the condition that is reached
module _ (cs cells list : List ℕ) (b top : ℕ) (lower : (c : ℕ) → 0 < c → c ≤ top → joined_to cells c < c) where
  pub entries_split : (c : ℕ) → c ≤ top → entries_in cs cells list c ≡ entries_in cs cells list (reached cells b c) ++ entries_above cs cells list b c
  entries_split = down cells b top lower
      {P = λ c. entries_in cs cells list c ≡ entries_in cs cells list (reached cells b c) ++ entries_above cs cells list b c}
      (λ c l. rw (reached_end cs cells list b c l, above_end cs cells list b c l, append-nil))
      (λ c l k ih.
      let j = lower c (omega arith) k in
      entries_at cs cells list c (omega arith) j
      ∙ ap (λ t. t ++ part_of cs cells list c) ih
      ∙ append_assoc (entries_in cs cells list (reached cells b (joined_to cells c))) (entries_above cs cells list b (joined_to cells c)) (part_of cs cells list c)
      ∙ rw (reached_step cs cells list b c l j, above_step cs cells list b c l j))

module _ (cells : List ℕ) (used b top : ℕ) (cell : (c : ℕ) → 0 < c → c ≤ top → CellAt cells used c) where
  pub top_to : (c : ℕ) → 0 < c → top_of cells c ≡ to_of cells c
  top_to c l = rw (ne_eqb c 0 (λ e. omega arith))

  -- the list of the condition that is reached ends before the chain's others begin
  pub reached_top : (c : ℕ) → c ≤ top → reached cells b c ≡ b → top_of cells b ≤ top_of cells c
  reached_top = down cells b top (λ c l k. (cell c l k).lower)
      {P = λ c. reached cells b c ≡ b → top_of cells b ≤ top_of cells c}
      (λ c l e. let z : c ≡ b = sym (reached_end [] cells [] b c l) ∙ e in rw z (omega arith))
      (λ c l k ih e.
      let x = cell c (omega arith) k in
      rw (top_to c (omega arith)) (omega (arith, ih (sym (reached_step [] cells [] b c l x.lower) ∙ e), x.after, x.low)))
