-- The loops down a chain: what is marked, or cleared, from here on completes what was from the start on. Assumes nothing.
use mathlib.Core.Path.{◌≡◌, refl, sym, ap, ◌∙◌}
use mathlib.Core.Bool.{Bool}
use mathlib.Core.List.{List}
use Prim.Native.Nat.{ℕ, ◌+◌, ◌-◌, ◌≤◌, ◌<◌}
use native.Mathlib.Omega.{arith}
use lib.ListN.{get_or, length}
use Rattle.parse_filter.specs.Chains.{joined_to, from_of, to_of, is_else, signed_part, entries_above, entries_in, reached, top_of, CellAt, Walkable}
use Rattle.parse_filter.proofs.ChainLaws.{above_end, above_step, reached_end, reached_step, entries_at, top_to, reached_top}
use Rattle.parse_filter.specs.Marks.{Part, Marks, Unmarks}
use Rattle.parse_filter.proofs.Marking.{part_length, marks_none, marks_before, unmarks_none, unmarks_before}

module _ (cs cells list : List ℕ) (size top : ℕ) (w : Walkable cs cells list size top) (c : ℕ) (o : 0 < c) (l : c ≤ top) where
  pub cell_at : CellAt cells w.used c
  cell_at = w.chains.cell c o l

  pub part_at : Part cs list size (from_of cells c) (to_of cells c)
  part_at =
      let x = cell_at in
      let ch = w.chains in
      record {
        low = x.low;
        high = omega (arith, x.high, ch.held);
        other = λ i a b. omega (arith, (ch.entry i (omega (arith, x.high))).high, ch.others);
        place = λ i a b. omega (arith, (ch.entry i (omega (arith, x.high))).high, ch.marks);
        companion = λ i a b. omega (arith, (ch.back (get_or list i 0) (ch.entry i (omega (arith, x.high)))).high, ch.marks);
      }

-- ---- marks taken away

-- what is cleared from c on clears the whole
pub record Clearing (cs cells list : List ℕ) (s₀ : List Bool) (first : ℕ) (s : List Bool) (c : ℕ) : Type 0 where
  pub low : c ≤ first
  pub size : length s ≡ length s₀
  pub rest : (u : List Bool) → Unmarks s (entries_in cs cells list c) u → Unmarks s₀ (entries_in cs cells list first) u

module _ (cs cells list : List ℕ) (s₀ : List Bool) (first : ℕ) (w : Walkable cs cells list (length s₀) first) where
  pub clearing_start : Clearing cs cells list s₀ first s₀ first
  clearing_start = record { low = omega arith; size = refl; rest = λ u x. x }

  pub clearing_end : (s : List Bool) (c : ℕ) → Clearing cs cells list s₀ first s c → c ≤ 0 → Unmarks s₀ (entries_in cs cells list first) s
  clearing_end s c g l = g.rest s (rw (above_end cs cells list 0 c l) (unmarks_none s))

  pub clearing_on : (s : List Bool) (c : ℕ) → Clearing cs cells list s₀ first s c → 0 < c → (f t p : ℕ) → f ≡ from_of cells c → t ≡ to_of cells c → p ≡ joined_to cells c
      → (u : List Bool) → length u ≡ length s → Unmarks s (signed_part cs list (is_else c) f t) u → Clearing cs cells list s₀ first u p
  clearing_on s c g o f t p a b d u k m =
      let x = cell_at cs cells list (length s₀) first w c o g.low in
      record {
        low = rw d (omega (arith, x.lower, g.low));
        size = k ∙ g.size;
        rest = λ v y.
            g.rest v
            (rw (entries_at cs cells list c o x.lower, ← a, ← b, ← d)
            (unmarks_before s u v (signed_part cs list (is_else c) f t) (entries_in cs cells list p) m y));
      }

-- ---- marks

-- what is marked from c on marks the whole, and there is room for it
pub record Walking (cs cells list : List ℕ) (s₀ : List Bool) (al₀ : List ℕ) (first below a₀ : ℕ) (s : List Bool) (al : List ℕ) (a c : ℕ) : Type 0 where
  pub low : c ≤ first
  pub stands : reached cells below c ≡ below
  pub room : a + top_of cells c ≤ top_of cells first + top_of cells below
  pub size : length s ≡ length s₀
  pub long : length al ≡ length al₀
  pub rest : (u : List Bool) (bl : List ℕ) (r : ℕ) → Marks s al a (entries_above cs cells list below c) u bl r → Marks s₀ al₀ a₀ (entries_above cs cells list below first) u bl r

module _ (cs cells list : List ℕ) (s₀ : List Bool) (al₀ : List ℕ) (first below a₀ : ℕ) (w : Walkable cs cells list (length s₀) first) where
  pub walking_start : reached cells below first ≡ below → a₀ ≤ top_of cells below → Walking cs cells list s₀ al₀ first below a₀ s₀ al₀ a₀ first
  walking_start e f = record { low = omega arith; stands = e; room = omega arith; size = refl; long = refl; rest = λ u bl r x. x }

  module _ (s : List Bool) (al : List ℕ) (a c : ℕ) (g : Walking cs cells list s₀ al₀ first below a₀ s al a c) where
    pub walking_end : c ≤ below → Marks s₀ al₀ a₀ (entries_above cs cells list below first) s al a × (a ≤ top_of cells first)
    walking_end l =
        let e : c ≡ below = sym (reached_end cs cells list below c l) ∙ g.stands in
        (g.rest s al a (rw (above_end cs cells list below c l) (marks_none s al a)), omega (arith, g.room, ap (top_of cells) e))

    module _ (o : below < c) where
      cell : CellAt cells w.used c
      cell = cell_at cs cells list (length s₀) first w c (omega arith) g.low

      on : reached cells below (joined_to cells c) ≡ below
      on = sym (reached_step cs cells list below c o cell.lower) ∙ g.stands

      under : top_of cells below ≤ top_of cells (joined_to cells c)
      under = reached_top cells w.used below first w.chains.cell (joined_to cells c) (omega (arith, cell.lower, g.low)) on

      own : top_of cells c ≡ to_of cells c
      own = top_to cells w.used below first w.chains.cell c (omega arith)

      pub walking_room : w.used ≤ length al₀ → a + (to_of cells c - from_of cells c) ≤ length al
      walking_room h =
          let z : top_of cells first ≤ w.used = rw (top_to cells w.used below first w.chains.cell first (omega (arith, g.low))) (cell_at cs cells list (length s₀) first w first (omega (arith, g.low)) (omega arith)).high in
          rw g.long (omega (arith, z, g.room, own, under, cell.after, cell.low))

      pub walking_on : (f t p : ℕ) → f ≡ from_of cells c → t ≡ to_of cells c → p ≡ joined_to cells c
          → (u : List Bool) (bl : List ℕ) (b : ℕ) → length u ≡ length s → length bl ≡ length al → Marks s al a (signed_part cs list (is_else c) f t) u bl b
          → Walking cs cells list s₀ al₀ first below a₀ u bl b p
      walking_on f t p i j d u bl b k q m =
          let n : length (signed_part cs list (is_else c) f t) ≡ to_of cells c - from_of cells c = rw (i, j) (part_length cs list (is_else c) (from_of cells c) (to_of cells c) (omega (arith, cell.high, w.chains.held))) in
          record {
            low = rw d (omega (arith, cell.lower, g.low));
            stands = rw d on;
            room = rw d (omega (arith, n, m.most, g.room, own, cell.after, cell.low));
            size = k ∙ g.size;
            long = q ∙ g.long;
            rest = λ v cl r y.
                g.rest v cl r
                (rw (above_step cs cells list below c o cell.lower, ← i, ← j, ← d)
                (marks_before s u v al bl cl a b r (signed_part cs list (is_else c) f t) (entries_above cs cells list below p) m y));
          }
