-- A turn of the parser's loop: the walk of what is on the stack stays the parse from the setup block. Assumes nothing.
use mathlib.Core.Path.{◌≡◌, refl, sym, ap, ap₂, subst, ◌∙◌}
use mathlib.Core.Bool.{Bool, true, false, cond, ◌||◌}
use mathlib.Core.Option.{Option, none, some}
use mathlib.Core.List.{List, [], ◌∷◌, map}
use Prim.Native.Nat.{ℕ, zero, suc, ◌+◌, ◌*◌, ◌-◌, ◌≤◌, ◌<◌}
use native.Mathlib.Nat.{add-zero}
use native.Mathlib.Omega.{arith}
use lib.Dec.{ltb, eqb}
use lib.ListN.{length, get_or, set, take, length-set, get_or-eq_default}
use borrow.Author.Tests.{eq-eqb, ltb-true, ltb-false, eqb-true, eqb-false}
use Rattle.model.specs.Limits.{block_limit}
use Rattle.model.specs.Refusal.{parse_not_code}
use Rattle.model.specs.Expr.{Expr}
use Rattle.model.specs.Sheet.{Sheet}
use Rattle.model.specs.Script.{placeholder, block_at, block_nodes}
use Rattle.model.specs.Memory.{Memory, block_word, link_in, block_by, block_in, script_of}
use Rattle.model.specs.Parse.{State, refuse, scanned, visited}
use Rattle.memory.specs.RecordLaws.{block_at_lem}
use Rattle.memory.specs.Transfer.{blocks_counted, judged_kept}
use Rattle.shop.specs.declared.Shop.{Shop}
use Rattle.reach.specs.Dfs.{Entry, entry, Ways, nowhere, to, to_both, ways_by, pushed, walks_a}
use Rattle.model.proofs.Laws.Marks.{unmarked, unmarked_set}
use Rattle.model.proofs.Laws.Bools.{or_left}
use Rattle.reach.specs.Weights.{weight_of, weight_set}
use Rattle.reach.specs.Stacks.{stack_of, top_of, ways, grows, Pushed, is_code_at, AllLow, top_most, top_free, low_top, low_pushed}
use Rattle.parse_visit.specs.declared.Walk.{Walk}
use Rattle.parse_visit.specs.declared.Visited.{Visited}
use Rattle.parse_visit.specs.State.{answer_in, Accepted, state_of, commands_of, state_after, scan_in, Open, Entered, nodes_at}
use Rattle.parse_walk.specs.Steps.{step_by, step, walks, stack_skip, stack_visit, stack_off}
use Rattle.parse_walk.specs.Walks.{under, walks_in, nodes_left, Ready, Came}

pub few_blocks : (m : Memory) → Accepted m → m.count ≤ block_limit
few_blocks m a = (judged_kept m a.blocks a.rest a.is).0

or_both : (a b : Bool) → a ≡ false → b ≡ false → a || b ≡ false
or_both a b p q = rw (p, q)

-- ---- a block by its words

pub record Coded (m : Memory) (b : ℕ) : Type 0 where
  pub inside : b < m.count
  pub word : block_word m b 0 ≡ 1

first_word : (m : Memory) (b : ℕ) → block_word m b 0 ≡ get_or m.words (5 * b) 0
first_word m b = ap (λ i. get_or m.words i 0) (add-zero (5 * b))

module _ (m : Memory) (b : ℕ) where
  pub is_code : is_code_at m.words m.count b ≡ true → Coded m b
  is_code e = by (ltb b m.count) refl e
    where
      by : (t : Bool) → ltb b m.count ≡ t → cond t (eqb (get_or m.words (5 * b) 0) 1) false ≡ true → Coded m b
      by true z q = record { inside = ltb-true b m.count z; word = first_word m b ∙ eqb-true (get_or m.words (5 * b) 0) 1 q }
      by false z q = let y : ◌≡◌ {A = ℕ} 0 1 = cc in absurd (omega arith)

  word_refused : (n : ℕ) → (n ≡ 1 → ⊥) → (h : Sheet) (c : Option Expr) (st : State) → step_by h b c st (block_by m b n) ≡ record { state = refuse parse_not_code st; ways = nowhere }
  unfolding step_by block_by
  word_refused zero n h c st = refl
  word_refused (suc zero) n h c st = absurd (n refl)
  word_refused (suc (suc k)) n h c st = refl

  pub step_stops : (h : Sheet) (c : Option Expr) (st : State) → is_code_at m.words m.count b ≡ false
      → step h (script_of m).blocks (entry b c) st ≡ record { state = refuse parse_not_code st; ways = nowhere }
  unfolding step step_by block_in
  step_stops h c st e = by (ltb b m.count) refl e
    where
      by : (t : Bool) → ltb b m.count ≡ t → cond t (eqb (get_or m.words (5 * b) 0) 1) false ≡ false → step_by h b c st (block_at (script_of m).blocks b) ≡ record { state = refuse parse_not_code st; ways = nowhere }
      by true z q =
          ap (step_by h b c st) (block_at_lem m b (ltb-true b m.count z))
          ∙ word_refused (block_word m b 0) (λ y. eqb-false (get_or m.words (5 * b) 0) 1 q (sym (first_word m b) ∙ y)) h c st
      by false z q =
          let l : length (script_of m).blocks ≤ b = omega (arith, blocks_counted m, ltb-false b m.count z) in
          ap (step_by h b c st) (get_or-eq_default (script_of m).blocks placeholder l)

  pub step_goes : (h : Sheet) (c : Option Expr) (st : State) → Coded m b
      → step h (script_of m).blocks (entry b c) st
      ≡ record { state = visited h b c (commands_of m b) st; ways = ways_by (link_in (block_word m b 3)) (link_in (block_word m b 4)) (scanned c (commands_of m b) st).on_next (scanned c (commands_of m b) st).on_else }
  unfolding step step_by block_in block_by
  step_goes h c st k = ap (step_by h b c st) (block_at_lem m b k.inside ∙ ap (block_by m b) k.word)

-- ---- the stack's walk

-- the marked entries at the top are left out
tops : (h : Sheet) (m : Memory) (f : ℕ → Option Expr) (w : List ℕ) (st : State) (d : ℕ)
    → walks h (script_of m).blocks (map (under f) (stack_of w d)) st ≡ walks h (script_of m).blocks (map (under f) (stack_of w (top_of st.marks w d))) st
unfolding stack_of top_of
tops h m f w st zero = refl
tops h m f w st (suc d) = by (get_or st.marks (get_or w (2 * d) 0) false) refl (tops h m f w st d)
  where
    by : (t : Bool) → get_or st.marks (get_or w (2 * d) 0) false ≡ t
        → walks h (script_of m).blocks (map (under f) (stack_of w d)) st ≡ walks h (script_of m).blocks (map (under f) (stack_of w (top_of st.marks w d))) st
        → walks h (script_of m).blocks (map (under f) (stack_of w (suc d))) st ≡ walks h (script_of m).blocks (map (under f) (stack_of w (cond t (top_of st.marks w d) (suc d)))) st
    by true z q = stack_skip h (script_of m).blocks (under f (entry (get_or w (2 * d) 0) (get_or w (2 * d + 1) 0))) (map (under f) (stack_of w d)) st (or_left _ _ z) ∙ q
    by false z q = refl

under_pushed : (f : ℕ → Option Expr) (nx el : Option ℕ) (t o : ℕ) (es : List (Entry ℕ)) → map (under f) (pushed (ways_by nx el t o) es) ≡ pushed (ways_by nx el (f t) (f o)) (map (under f) es)
under_pushed f none el t o es = refl
under_pushed f (some x) none t o es = refl
under_pushed f (some x) (some y) t o es = refl

-- the conditions of the cells that there were stay
under_same : (j : ℕ) (f g : ℕ → Option Expr) → ((k : ℕ) → k ≤ 2 * j → f k ≡ g k) → (es : List (Entry ℕ)) → AllLow j es → map (under f) es ≡ map (under g) es
under_same j f g s [] a = refl
under_same j f g s (e ∷ es) a = rw (s e.under a.0, under_same j f g s es a.1)

-- without a next the conditions do not matter
ways_same : (nx : ℕ) (el : Option ℕ) (c c' d d' : Option Expr) (es : List (Entry (Option Expr))) → ((nx ≡ 0 → ⊥) → c ≡ c') → ((nx ≡ 0 → ⊥) → d ≡ d')
    → pushed (ways_by (link_in nx) el c d) es ≡ pushed (ways_by (link_in nx) el c' d') es
ways_same zero el c c' d d' es p q = refl
ways_same (suc k) el c c' d d' es p q = rw (p (λ e. omega arith), q (λ e. omega arith))

came_as : {st st' : State} {end : Shop} {a : ℕ} → st ≡ st' → Came st end a → Came st' end a
came_as {end = end} {a = a} e c = subst (λ x. Came x end a) e c

module _ {m : Memory} {marks : List Bool} {stack : List ℕ} {s : Shop} {w : Walk} {depth : ℕ} (r : Ready m marks stack s w depth) where
  -- nothing is left to visit
  turn_none : (h : Sheet) (f : ℕ → Option Expr) → top_of (take m.count marks) stack depth ≡ 0 → walks_in h m marks f stack depth s w ≡ state_of m.count marks s w
  unfolding stack_of walks_a
  turn_none h f e =
      tops h m f stack (state_of m.count marks s w) depth
      ∙ ap (λ d. walks h (script_of m).blocks (map (under f) (stack_of stack d)) (state_of m.count marks s w)) e

  pub came_end : (h : Sheet) (f : ℕ → Option Expr) (st : State) → walks_in h m marks f stack depth s w ≡ st → top_of (take m.count marks) stack depth ≡ 0 → Came st s 0
  came_end h f st i e = came_as (sym (turn_none h f e) ∙ i) (record { answer = sym r.fine; slots = λ z. refl; good = λ z. r.good })

  pub top_fits : {top : ℕ} → top ≡ top_of (take m.count marks) stack depth → 2 * top ≤ length stack
  top_fits e = omega (arith, top_most (take m.count marks) stack depth, r.tall)

  pub top_few : {top : ℕ} → top ≡ top_of (take m.count marks) stack depth → top ≤ block_limit + 1
  top_few e = omega (arith, top_most (take m.count marks) stack depth, r.room, few_blocks m r.accepted)

  -- the first unmarked entry, block b under condition c
  module _ {top b c : ℕ} (at : top ≡ top_of (take m.count marks) stack depth) (some_left : top ≡ 0 → ⊥)
      (eb : b ≡ get_or stack (2 * (top - 1)) 0) (ec : c ≡ get_or stack (2 * (top - 1) + 1) 0) where
    at_top : top_of (take m.count marks) stack depth ≡ suc (top - 1)
    at_top = omega arith

    pub top_low : top ≤ depth
    top_low = omega (arith, top_most (take m.count marks) stack depth)

    free : get_or (take m.count marks) b false ≡ false
    free = rw eb (top_free (take m.count marks) stack depth (top - 1) at_top)

    entries : stack_of stack top ≡ entry b c ∷ stack_of stack (top - 1)
    unfolding stack_of
    entries = let e : top ≡ suc (top - 1) = omega arith in ap (stack_of stack) e ∙ rw (eb, ec)

    top_lows : (c ≤ 2 * w.cells) × AllLow w.cells (stack_of stack (top - 1))
    top_lows = subst (AllLow w.cells) (ap (stack_of stack) (sym at) ∙ entries) (low_top (take m.count marks) stack w.cells depth r.low)

    went : (h : Sheet) (f : ℕ → Option Expr) → walks_in h m marks f stack depth s w
        ≡ walks h (script_of m).blocks
        (pushed (step h (script_of m).blocks (under f (entry b c)) (state_of m.count marks s w)).ways (map (under f) (stack_of stack (top - 1))))
        (step h (script_of m).blocks (under f (entry b c)) (state_of m.count marks s w)).state
    went h f =
        tops h m f stack (state_of m.count marks s w) depth
        ∙ ap (λ es. walks h (script_of m).blocks (map (under f) es) (state_of m.count marks s w)) (ap (stack_of stack) (sym at) ∙ entries)
        ∙ stack_visit h (script_of m).blocks (under f (entry b c)) (map (under f) (stack_of stack (top - 1))) (state_of m.count marks s w)
        (r.long ∙ sym (blocks_counted m)) (or_both _ _ free (rw (eq-eqb (answer_in w.outcome) 0 r.fine)))

    -- a block not code
    turn_stops : (h : Sheet) (f : ℕ → Option Expr) → is_code_at m.words m.count b ≡ false → walks_in h m marks f stack depth s w ≡ refuse parse_not_code (state_of m.count marks s w)
    turn_stops h f e =
        went h f
        ∙ ap (λ p. walks h (script_of m).blocks (pushed p.ways (map (under f) (stack_of stack (top - 1)))) p.state) (step_stops m b h (f c) (state_of m.count marks s w) e)
        ∙ stack_off h (script_of m).blocks (map (under f) (stack_of stack (top - 1))) (refuse parse_not_code (state_of m.count marks s w)) (λ z. omega arith)

    pub came_stopped : (h : Sheet) (f : ℕ → Option Expr) (st : State) (end : Shop) → walks_in h m marks f stack depth s w ≡ st → is_code_at m.words m.count b ≡ false → Came st end parse_not_code
    came_stopped h f st end i e =
        came_as (sym (turn_stops h f e) ∙ i) (record { answer = refl; slots = λ z. absurd (omega arith); good = λ z. absurd (omega arith) })

    -- a code block
    module _ (k : Coded m b) where
      pub one_less : suc (unmarked (set (take m.count marks) b true)) ≡ unmarked (take m.count marks)
      one_less = unmarked_set (take m.count marks) b (omega (arith, r.long, k.inside)) free

      pub weight_here : weight_of block_nodes (set (take m.count marks) b true) (script_of m).blocks + nodes_at m b ≡ nodes_left m marks
      weight_here = weight_set block_nodes (take m.count marks) (script_of m).blocks placeholder b (omega (arith, r.long, k.inside)) (omega (arith, blocks_counted m, k.inside)) free

      pub opens : Open m s w b c
      opens = record {
        accepted = r.accepted;
        block = k.inside;
        code = k.word;
        fine = r.fine;
        free = omega (arith, r.free, one_less);
        low = top_lows.0;
        good = r.good;
      }

      module _ {h : Sheet} {f f' : ℕ → Option Expr} {marks' : List Bool} {s' : Shop} {v : Visited} (g : Entered h m marks f s w b c marks' f' s' v) where
        went_code : walks_in h m marks f stack depth s w
            ≡ walks h (script_of m).blocks
            (pushed (ways_by (link_in (block_word m b 3)) (link_in (block_word m b 4)) (scan_in m marks (f c) s w b).on_next (scan_in m marks (f c) s w b).on_else) (map (under f) (stack_of stack (top - 1))))
            (state_after h m marks (f c) s w b)
        went_code =
            went h f
            ∙ ap (λ p. walks h (script_of m).blocks (pushed p.ways (map (under f) (stack_of stack (top - 1)))) p.state) (step_goes m b h (f c) (state_of m.count marks s w) k)

        -- a refusal: the rest of the stack does nothing
        pub came_refused : (st : State) → walks_in h m marks f stack depth s w ≡ st → (answer_in v.walk.outcome ≡ 0 → ⊥) → Came st s' (answer_in v.walk.outcome)
        came_refused st i n = record {
          answer = g.answer ∙ ap (λ x. x.answer) (sym (went_code ∙ stack_off h (script_of m).blocks _ (state_after h m marks (f c) s w b) (λ z. n (g.answer ∙ z))) ∙ i);
          slots = λ z. absurd (n z);
          good = λ z. absurd (n z);
        }

        module _ (z : answer_in v.walk.outcome ≡ 0) where
          new_marks : take m.count marks' ≡ set (take m.count marks) b true
          unfolding visited
          new_marks = ap (λ x. x.marks) (g.state z)

          pub less : suc (unmarked (take m.count marks')) ≡ unmarked (take m.count marks)
          less = ap (λ l. suc (unmarked l)) new_marks ∙ one_less

          left_less : nodes_left m marks' + nodes_at m b ≡ nodes_left m marks
          left_less = ap (λ l. weight_of block_nodes l (script_of m).blocks + nodes_at m b) new_marks ∙ weight_here

          module _ {stack' : List ℕ} {depth' : ℕ} (p : Pushed stack (top - 1) (ways v.next.0 v.then.0 v.other.0 v.otherwise.0) stack' depth') where
            grows_two : (x : Ways ℕ) → grows x ≤ 2
            grows_two nowhere = omega arith
            grows_two (to x) = omega arith
            grows_two (to_both x y) = omega arith

            pub again : 2 * (top - 1) + 4 ≤ length stack → length stack' ≡ length stack → 3 * v.walk.used + w.cells ≤ 3 * w.used + nodes_at m b + v.walk.cells → Ready m marks' stack' s' v.walk depth'
            again t l u = record {
              accepted = r.accepted;
              long = ap length new_marks ∙ length-set (take m.count marks) b true ∙ r.long;
              tall = omega (arith, l, t, p.most, grows_two (ways v.next.0 v.then.0 v.other.0 v.otherwise.0));
              room = omega (arith, p.most, r.room, less, top_low, grows_two (ways v.next.0 v.then.0 v.other.0 v.otherwise.0));
              free = omega (arith, g.most, r.free, less);
              spent = omega (arith, r.spent, left_less, u);
              fine = z;
              good = g.good z;
              low = subst (AllLow v.walk.cells) (sym p.is) (low_pushed w.cells v.walk.cells (link_in v.next.0) (link_in v.other.0) v.then.0 v.otherwise.0 (stack_of stack (top - 1)) g.more g.low_next g.low_else top_lows.1);
            }

            pub same : walks_in h m marks' f' stack' depth' s' v.walk ≡ walks_in h m marks f stack depth s w
            same =
                ap (λ es. walks h (script_of m).blocks (map (under f') es) (state_of m.count marks' s' v.walk)) p.is
                ∙ ap₂ (walks h (script_of m).blocks) (under_pushed f' (link_in v.next.0) (link_in v.other.0) v.then.0 v.otherwise.0 (stack_of stack (top - 1)) ∙ as_read) (g.state z)
                ∙ sym went_code
              where
                as_read : pushed (ways_by (link_in v.next.0) (link_in v.other.0) (f' v.then.0) (f' v.otherwise.0)) (map (under f') (stack_of stack (top - 1)))
                    ≡ pushed (ways_by (link_in (block_word m b 3)) (link_in (block_word m b 4)) (scan_in m marks (f c) s w b).on_next (scan_in m marks (f c) s w b).on_else) (map (under f) (stack_of stack (top - 1)))
                as_read =
                    ways_same v.next.0 (link_in v.other.0) (f' v.then.0) (scan_in m marks (f c) s w b).on_next (f' v.otherwise.0) (scan_in m marks (f c) s w b).on_else (map (under f') (stack_of stack (top - 1))) (g.on_next z) (g.on_else z)
                    ∙ rw (g.next, g.other, under_same w.cells f' f g.same (stack_of stack (top - 1)) top_lows.1)
