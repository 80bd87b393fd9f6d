-- The loop over Turning: where it ends, what a visit wants, and that a turn keeps it. Assumes nothing.
use mathlib.Core.Path.{◌≡◌, refl, ◌∙◌}
use mathlib.Core.Bool.{Bool, false}
use mathlib.Core.List.{List}
use Prim.Native.Nat.{ℕ, ◌+◌, ◌*◌, ◌-◌, ◌≤◌, ◌<◌}
use native.Mathlib.Omega.{arith}
use lib.ListN.{length, get_or, take}
use Rattle.model.specs.Refusal.{parse_not_code}
use Rattle.model.specs.Memory.{Memory}
use Rattle.shop.specs.declared.Shop.{Shop}
use Rattle.model.proofs.Laws.Marks.{unmarked}
use Rattle.reach.specs.Stacks.{top_of, ways, Pushed, is_code_at}
use Rattle.parse_keys.specs.Sheets.{known_sheet, knows}
use Rattle.parse_keys.specs.declared.Known.{Known}
use Rattle.parse_visit.specs.declared.Walk.{Walk}
use Rattle.parse_visit.specs.declared.Visited.{Visited}
use Rattle.parse_visit.specs.State.{no_room, answer_in, Stored, Held, Open, Entered, Roomy, nodes_at, Leaves}
use Rattle.parse_walk.specs.Walks.{Turning, Lengths, Large, Ends}
use Rattle.parse_walk.proofs.Turns.{few_blocks, Coded, came_end, came_stopped, came_refused, opens, weight_here, one_less, top_low, less, again, same}

-- large tables stay large
same_large : {m : Memory} {t t₀ : Stored} {stack stack₀ : List ℕ} → Lengths t stack t₀ stack₀ → Large m t₀ stack₀ → Large m t stack
same_large l g = record { rows = omega (arith, l.cells, g.rows); words = omega (arith, l.list, g.words); keys = omega (arith, l.list, l.keys, g.keys); tall = omega (arith, l.entries, g.tall) }

module _ {known : Known} {m : Memory} {b₀ : ℕ} {t : Stored} {marks : List Bool} {stack : List ℕ} {s : Shop} {w : Walk} {depth : ℕ}
    (q : Turning known m b₀ t marks stack s w depth) where
  pub held : Held known t w
  held = record { conditions = q.conditions; holding = q.holding }

  -- nothing is left to visit
  pub ends_none : {t₀ : Stored} {stack₀ : List ℕ} → top_of (take m.count marks) stack depth ≡ 0 → Ends known m b₀ t₀ stack₀ s 0
  ends_none e = record {
    walked = λ n h k. came_end q.ready h q.conditions _ (q.parses h k) e;
    room = λ l n. omega arith;
  }

  -- the first unmarked entry, block b under condition c
  module _ {top b c : ℕ} (at : top ≡ top_of (take m.count marks) stack depth) (some_left : top ≡ 0 → ⊥)
      (eb : b ≡ get_or stack (2 * (top - 1)) 0) (ec : c ≡ get_or stack (2 * (top - 1) + 1) 0) where
    pub ends_stopped : {t₀ : Stored} {stack₀ : List ℕ} {s' : Shop} → is_code_at m.words m.count b ≡ false → Ends known m b₀ t₀ stack₀ s' parse_not_code
    ends_stopped {s' = s'} e = record {
      walked = λ n h k. came_stopped q.ready at some_left eb ec h q.conditions _ s' (q.parses h k) e;
      room = λ l n. omega arith;
    }

    module _ {t₀ : Stored} {stack₀ : List ℕ} (k : Coded m b) (lengths : Lengths t stack t₀ stack₀) where
      -- no room on the stack for what the block may push
      pub ends_full : {s' : Shop} → length stack < 2 * (top - 1) + 4 → Ends known m b₀ t₀ stack₀ s' no_room
      ends_full {s'} e = record {
        walked = λ n. absurd (n refl);
        room = λ l n. omega (arith, (same_large lengths l).tall, top_low q.ready at some_left eb ec, q.ready.room, one_less q.ready at some_left eb ec k);
      }

      pub visit_open : Open m s w b c
      visit_open = opens q.ready at some_left eb ec k

      roomy : Large m t₀ stack₀ → Roomy t w (nodes_at m b)
      roomy l =
          let g = same_large lengths l in
          let f = few_blocks m q.ready.accepted in
          let o = visit_open.free in
          record {
            rows = omega (arith, g.rows);
            words = omega (arith, g.words, q.ready.spent, weight_here q.ready at some_left eb ec k);
            keys = g.keys;
          }

      module _ {t' : Stored} {marks' : List Bool} {s' : Shop} {v : Visited} (g : Leaves m known t marks s w b c q.conditions t' marks' s' v) where
        pub ends_refused : (answer_in v.walk.outcome ≡ 0 → ⊥) → Ends known m b₀ t₀ stack₀ s' (answer_in v.walk.outcome)
        ends_refused n = record {
          walked = λ d h i. came_refused q.ready at some_left eb ec k (g.entered d h i) _ (q.parses h i) n;
          room = λ l e. g.room (roomy l) e;
        }

        module _ (z : answer_in v.walk.outcome ≡ 0) where
          there : answer_in v.walk.outcome ≡ no_room → ⊥
          there e = omega arith

          abbrev left : Entered (known_sheet known) m marks q.conditions s w b c marks' g.conditions s' v
          left = g.entered there (known_sheet known) (knows known)

          pub falls : unmarked (take m.count marks') < unmarked (take m.count marks)
          falls = omega (arith, less q.ready at some_left eb ec k left z)

          pub turns : {stack' : List ℕ} {depth' : ℕ} → Pushed stack (top - 1) (ways v.next.0 v.then.0 v.other.0 v.otherwise.0) stack' depth' → 2 * (top - 1) + 4 ≤ length stack → length stack' ≡ length stack
              → Turning known m b₀ t' marks' stack' s' v.walk depth'
          turns p l e = record {
            conditions = g.conditions;
            holding = g.holding z;
            ready = again q.ready at some_left eb ec k left z p l e (g.spent z);
            parses = λ h i. same q.ready at some_left eb ec k (g.entered there h i) z p ∙ q.parses h i;
          }
