-- A visit put together: the scan of the block's commands, the slots that they change, the conditions after it. Assumes nothing.
use Rattle.std.specs.Prelude.{◌≡◌, refl, Bool, ℕ, ◌≤◌, ◌<◌, ℤ, length, set}
use Rattle.std.proofs.Math.Path.{sym, ap}
use Rattle.std.proofs.Common.{◌∙◌, arith}
use Rattle.std.proofs.Math.Bool.{true, cond}
use Rattle.std.proofs.Math.Option.{Option}
use mathlib.Core.List.{List}
use Rattle.std.proofs.Math.Seq.{take-set-lt}
use Rattle.model.specs.Limits.{block_limit, node_limit}
use Rattle.model.specs.Expr.{Expr}
use Rattle.model.specs.Sheet.{Sheet, all}
use Rattle.model.specs.Memory.{Memory, block_word}
use Rattle.model.specs.Refusals.{refusal_in}
use Rattle.model.specs.Parse.{State, Scan, parse_requirements, update_slots, few_entries, visited}
use Rattle.model.specs.Shop as Model
use Rattle.model.specs.Refusal.{parse_too_many}
use Rattle.memory.specs.Transfer.{judged_kept}
use Rattle.expr.specs.Requirement.{Has}
use Rattle.shop.specs.Shapes.{slots_of}
use Rattle.shop.specs.declared.Shop.{Shop}
use Rattle.parse_keys.specs.declared.Known.{Known}
use Rattle.parse_scan.specs.Ready.{Ready}
use Rattle.parse_scan.specs.Accepted.{commands_ready}
use Rattle.parse_scan.specs.Table.{table_of}
use Rattle.parse_scan.specs.Block.{scan_of, on_next_of, on_else_of, BlockScanned}
use Rattle.parse_scan.specs.LastIf.{last_if}
use Rattle.parse_scan.specs.AllSlots.{slots_then}
use Rattle.parse_scan.specs.declared.Scanned.{Scanned}
use Rattle.parse_visit.specs.State.{no_room, answer_in, stopped_by, stopped_as, scanned_walk, Stored, stored_in, Holding, state_of, scan_in, state_after, Open, Entered, nodes_at, Leaves}
use Rattle.parse_visit.specs.LastIf.{last_low, block_rooted, last_nodes}
use Rattle.parse_visit.specs.Slots.{Moved, Slots, means, marks_hold}
use Rattle.parse_visit.specs.Ways.{IfFits, Left, GoesOn}
use Rattle.parse_visit.specs.declared.Walk.{Walk}
use Rattle.parse_visit.specs.declared.Visited.{Visited}
use Rattle.parse_visit.specs.declared.Slotted.{Slotted}

made : {xs ys : List Model.Slot} {ms ns : List Bool} {x y : ℤ} {p q : ℕ} → xs ≡ ys → ms ≡ ns → x ≡ y → p ≡ q
    → ◌≡◌ {A = State} (record { slots = xs; marks = ms; current = x; answer = p }) (record { slots = ys; marks = ns; current = y; answer = q })
made e f g i = rw (e, f, g, i)

module _ {m : Memory} {x : Shop} {w : Walk} {b c : ℕ} (o : Open m x w b c) where
  -- ---- what the calls of a visit want

  pub open_block : b < block_limit
  open_block = let a = o.accepted in let k = (judged_kept m a.blocks a.rest a.is).0 in omega (arith, o.block)

  pub open_cells : w.cells < block_limit
  open_cells = let a = o.accepted in let k = (judged_kept m a.blocks a.rest a.is).0 in omega (arith, o.free)

  pub open_nodes : m.coded.nodes.count ≤ node_limit
  open_nodes = let a = o.accepted in (judged_kept m a.blocks a.rest a.is).2

  pub open_ready : (n f : ℕ) → n ≡ block_word m b 2 → f ≡ block_word m b 1 → Ready m.coded.nodes.words m.coded.nodes.values m.coded.words n f
  open_ready n f e d = let a = o.accepted in rw (e, d) (commands_ready m a.blocks a.rest a.is b o.block o.code)

  -- the last If is one of the block's
  if_fits : (last : ℕ) → last ≡ last_if m.coded.words (block_word m b 2) (block_word m b 1) → IfFits m.coded.nodes last (nodes_at m b)
  if_fits last e i q =
      let a = o.accepted in
      (last_low m.coded.nodes.count m.coded.words (block_word m b 2) (block_word m b 1) (block_rooted m a.blocks a.rest a.is b o.block o.code) i (sym e ∙ q), last_nodes m b i o.block o.code (sym e ∙ q))

  module _ (known : Known) (t : Stored) (marks : List Bool) (f : ℕ → Option Expr) (hold : Holding known t w f)
      (held first : ℕ) (many : held ≡ block_word m b 2) (from : first ≡ block_word m b 1) (l : ℤ) (lim : l ≡ w.limit)
      (s : Scanned) (ids counts : List ℤ) (sc : BlockScanned m.coded.nodes.words m.coded.nodes.values m.coded.words first held l s ids counts)
      (seen' : List Bool) (alive' : List ℕ) (x' : Shop) (a : Slotted)
      (sl : Slots t.keys t.companions t.cells t.list c known.items w.marked.first (table_of s.item_mask ids) (table_of s.count_mask counts) x seen' alive' x' a)
      (ls : length seen' ≡ length t.seen) (la : length alive' ≡ length t.alive) where
    abbrev w1 : Walk
    w1 = scanned_walk w s a

    abbrev t1 : Stored
    t1 = stored_in t.keys t.kids t.companions t.list seen' alive' t.cells

    hold1 : Holding known t1 w1 f
    hold1 = marks_hold known t w f hold c o.low s.limit (stopped_by a.outcome) a seen' alive' sl.marked sl.most ls la

    scan_is : scan_of m.coded.nodes (f c) s ids counts ≡ scan_in m marks (f c) x w b
    scan_is = rw (many, from, lim) at (sc.is m.coded.nodes.count m.coded.count (f c))

    fits : IfFits m.coded.nodes s.last_if (nodes_at m b)
    fits = if_fits s.last_if (rw (many, from) at sc.last)

    module _ (h : Sheet) (k : Has h known.items known.atcs) where
      moved : Moved (slots_then h (parse_requirements h (f c)) (table_of s.item_mask ids) (table_of s.count_mask counts) x) x' (refusal_in a.outcome)
      moved = sl.moved h (parse_requirements h (f c)) k.items (means known t w f hold c o.low h k)

      slots_then_lem : slots_then h (parse_requirements h (f c)) (table_of s.item_mask ids) (table_of s.count_mask counts) x ≡ (state_after h m marks (f c) x w b).slots
      unfolding visited scan_of
      slots_then_lem = ap (λ (k : Scan). update_slots h (parse_requirements h (f c)) k.items k.counts (slots_of x)) scan_is

      limit_then_lem : s.limit ≡ (scan_in m marks (f c) x w b).limit
      unfolding scan_of
      limit_then_lem = ap (λ (k : Scan). k.limit) scan_is

      answer_then : refusal_in a.outcome ≡ (state_after h m marks (f c) x w b).answer
      unfolding visited
      answer_then = moved.answer ∙ ap (λ (xs : List Model.Slot). cond (all few_entries xs) 0 parse_too_many) slots_then_lem

      next_is : on_next_of m.coded.nodes (f c) s.last_if ≡ (scan_in m marks (f c) x w b).on_next
      unfolding scan_of
      next_is = ap (λ (k : Scan). k.on_next) scan_is

      else_is : on_else_of m.coded.nodes (f c) s.last_if ≡ (scan_in m marks (f c) x w b).on_else
      unfolding scan_of
      else_is = ap (λ (k : Scan). k.on_else) scan_is

      module _ (t' : Stored) (v : Visited) (g : Left m.coded.nodes known t1 w1 c s.last_if f t' v) (there : answer_in v.walk.outcome ≡ no_room → ⊥) where
        state_then : answer_in v.walk.outcome ≡ 0 → state_of m.count (set marks b true) x' v.walk ≡ state_after h m marks (f c) x w b
        unfolding visited
        state_then z =
            let y : refusal_in a.outcome ≡ 0 = sym (g.answer there ∙ stopped_as a.outcome) ∙ z in
            made (moved.slots y ∙ slots_then_lem) (take-set-lt m.count marks b true o.block) (g.limit ∙ limit_then_lem) (g.answer there ∙ stopped_as a.outcome ∙ answer_then)

        entered : (nx : v.next.0 ≡ block_word m b 3) → (el : v.other.0 ≡ block_word m b 4) → Entered h m marks f x w b c (set marks b true) g.conditions x' v
        entered nx el = record {
          answer = g.answer there ∙ stopped_as a.outcome ∙ answer_then;
          state = state_then;
          good = λ z. moved.good (sym (g.answer there ∙ stopped_as a.outcome) ∙ z);
          on_next = λ z d. g.on_next (nodes_at m b) fits z d ∙ next_is;
          on_else = λ z d. g.on_else (nodes_at m b) fits z d ∙ else_is;
          next = nx;
          other = el;
          marked = refl;
          same = g.same;
          more = g.more there;
          most = g.most there;
          low_next = g.low_next there;
          low_else = g.low_else there;
        }

    pub visits : (ks' kd' cs' ls' cells' : List ℕ) (v : Visited)
        → GoesOn m.coded.nodes.words m.coded.nodes.values m.coded.nodes.count known t.keys t.kids t.companions t.list t.cells w1 c s.last_if ks' kd' cs' ls' cells' v
        → v.next.0 ≡ block_word m b 3 → v.other.0 ≡ block_word m b 4
        → Leaves m known t marks x w b c f (stored_in ks' kd' cs' ls' seen' alive' cells') (set marks b true) x' v
    visits ks' kd' cs' ls' cells' v g nx el =
        let r : Left m.coded.nodes known t1 w1 c s.last_if f (stored_in ks' kd' cs' ls' seen' alive' cells') v = g seen' alive' f hold1 o.low in
        record {
          conditions = r.conditions;
          holding = r.holding;
          spent = r.spent (nodes_at m b) fits;
          entered = λ d h k. entered h k (stored_in ks' kd' cs' ls' seen' alive' cells') v r d nx el;
          room = λ y. r.room (nodes_at m b) fits (record { rows = y.rows; words = y.words; keys = y.keys });
        }
