-- The blocks of the slots one after the other, the highest-numbered first, and the room for them. Assumes nothing.
use Rattle.std.specs.Prelude.{◌≡◌, ℕ, zero, suc, ◌+◌, ◌-◌, ◌≤◌, ◌<◌, drop, get_or}
use Rattle.std.proofs.Math.Path.{refl}
use Rattle.std.proofs.Common.{ap, sym, ◌∙◌, arith, length-append, drop-cons}
use mathlib.Core.List.{List, [], ◌∷◌, ◌++◌, map}
use Rattle.std.proofs.Math.ListN.{length, length-drop, length-map}
use Rattle.model.specs.Script.{Block, block_commands, block_nodes, sum_of}
use Rattle.model.specs.Memory.{Memory, put_block, put_blocks}
use Rattle.model.specs.Sheet as Model
use Rattle.model.specs.Shop.{Slot, empty_slot}
use Rattle.model.proofs.Laws.Sound.{sum_append}
use Rattle.model.specs.Compile.{slot_blocks, slots_blocks}
use Rattle.model.proofs.Laws.Compiled.{last_of_is}
use Rattle.shop.specs.declared.Slot as Given
use Rattle.shop.specs.Shapes.{slot_of, slots_of, no_slot}
use Rattle.shop_arrays.specs.Arrays as Arrays
use Rattle.shop_arrays.specs.Arrays.{shop_from}
use Rattle.shop_arrays.specs.Slots.{slots_long, slot_in_lem}
use Rattle.memory.specs.Sound.{Room}
use Rattle.compile_emit.specs.Put.{PutBlocks}

-- ---- blocks after blocks

put_append : (s : Memory) (xs ys : List Block) → put_blocks s (xs ++ ys) ≡ put_blocks (put_blocks s xs) ys
unfolding put_blocks
put_append s [] ys = refl
put_append s (x ∷ xs) ys = put_append (put_block s x) xs ys

pub append_put : {s t u : Memory} {xs ys : List Block} → PutBlocks s xs t → PutBlocks t ys u → PutBlocks s (xs ++ ys) u
append_put {s} {t} {u} {xs} {ys} p q = record {
  is = q.is ∙ ap (λ (m : Memory). put_blocks m ys) p.is ∙ sym (put_append s xs ys);
  counted = omega (arith, p.counted, q.counted, length-append xs ys);
  commands_counted = omega (arith, p.commands_counted, q.commands_counted, sum_append block_commands xs ys);
  nodes_counted = omega (arith, p.nodes_counted, q.nodes_counted, sum_append block_nodes xs ys);
}

pub nothing_put : {s : Memory} → PutBlocks s [] s
unfolding put_blocks
nothing_put = record { is = refl; counted = omega arith; commands_counted = omega arith; nodes_counted = omega arith }

-- ---- slot i after the slots above it

module _ (h : Model.Sheet) (e : ℕ) (ys : List Slot) where
  abbrev pub from : ℕ → List Block
  from i = slots_blocks h e i (drop i ys)

  abbrev pub slot_at : ℕ → List Block
  slot_at i = slot_blocks h i (e + length (from (suc i))) (get_or ys i empty_slot)

  pub from_step : (i : ℕ) → i < length ys → from i ≡ from (suc i) ++ slot_at i
  unfolding slots_blocks
  from_step i l = rw (drop-cons ys i empty_slot l, last_of_is e (from (suc i)))

  pub from_end : (i : ℕ) → length ys ≤ i → from i ≡ []
  unfolding slots_blocks
  from_end i l = by (drop i ys) (omega (arith, length-drop i ys))
    where
      by : (zs : List Slot) → length zs ≡ 0 → slots_blocks h e i zs ≡ []
      by [] q = refl
      by (z ∷ zs) q = absurd (omega arith)

  -- what some of the slots take is no more than what all take
  fewer : (f : Block → ℕ) (i : ℕ) → i ≤ length ys → sum_of f (from i) ≤ sum_of f (from 0)
  fewer f zero l = omega arith
  fewer f (suc i) l = omega (arith, fewer f i (omega arith), ap (sum_of f) (from_step i (omega arith)), sum_append f (from (suc i)) (slot_at i))

  fewer_blocks : (i : ℕ) → i ≤ length ys → length (from i) ≤ length (from 0)
  fewer_blocks zero l = omega arith
  fewer_blocks (suc i) l = omega (arith, fewer_blocks i (omega arith), ap length (from_step i (omega arith)), length-append (from (suc i)) (slot_at i))

  -- room for all is room for the next
  pub slot_room : (s t : Memory) (i : ℕ) → i < length ys → Room s (from 0) → PutBlocks s (from (suc i)) t → Room t (slot_at i)
  slot_room s t i l r p = record {
    blocks = omega (arith, r.blocks, p.counted, fewer_blocks i (omega arith), ap length (from_step i l), length-append (from (suc i)) (slot_at i));
    commands = omega (arith, r.commands, p.commands_counted, fewer block_commands i (omega arith), ap (sum_of block_commands) (from_step i l), sum_append block_commands (from (suc i)) (slot_at i));
    nodes = omega (arith, r.nodes, p.nodes_counted, fewer block_nodes i (omega arith), ap (sum_of block_nodes) (from_step i l), sum_append block_nodes (from (suc i)) (slot_at i));
  }

  pub slot_put : (s t u : Memory) (i : ℕ) → i < length ys → PutBlocks s (from (suc i)) t → PutBlocks t (slot_at i) u → PutBlocks s (from i) u
  slot_put s t u i l p q = rw (from_step i l) (append_put p q)

-- ---- the loop's step, from i down to i - 1

mapped : (l : List Given.Slot) (i : ℕ) (d : Given.Slot) → i < length l → get_or (map slot_of l) i empty_slot ≡ slot_of (get_or l i d)
mapped [] i d h = absurd (omega arith)
mapped (x ∷ l) zero d h = refl
mapped (x ∷ l) (suc i) d h = mapped l i d (omega arith)

module _ (h : Model.Sheet) (s t : Memory) (a : Arrays.Arrays) (i : ℕ) (low : 0 < i) (high : i ≤ 20) (some : 0 < s.count)
    (p : PutBlocks s (from h (s.count - 1) (slots_of (shop_from a)) i) t) where
  all_slots : length (slots_of (shop_from a)) ≡ 20
  unfolding slots_of
  all_slots = length-map (shop_from a).slots slot_of ∙ slots_long a

  before : suc (i - 1) ≡ i
  before = omega arith

  q : PutBlocks s (from h (s.count - 1) (slots_of (shop_from a)) (suc (i - 1))) t
  q = rw before p

  abbrev pub next_blocks : List Block
  next_blocks = slot_blocks h (i - 1) (t.count - 1) (slot_of (Arrays.slot_at a (i - 1)))

  next_same : slot_at h (s.count - 1) (slots_of (shop_from a)) (i - 1) ≡ next_blocks
  unfolding slots_of
  next_same =
      let e : s.count - 1 + length (from h (s.count - 1) (slots_of (shop_from a)) (suc (i - 1))) ≡ t.count - 1 = omega (arith, q.counted) in
      rw (e, mapped (shop_from a).slots (i - 1) no_slot (omega (arith, slots_long a)), slot_in_lem a (i - 1) no_slot (omega arith))

  pub next_room : Room s (from h (s.count - 1) (slots_of (shop_from a)) 0) → Room t next_blocks
  next_room r = rw next_same at (slot_room h (s.count - 1) (slots_of (shop_from a)) s t (i - 1) (omega (arith, all_slots)) r q)

  pub next_put : (u : Memory) → PutBlocks t next_blocks u → PutBlocks s (from h (s.count - 1) (slots_of (shop_from a)) (i - 1)) u
  next_put u r = slot_put h (s.count - 1) (slots_of (shop_from a)) s t u (i - 1) (omega (arith, all_slots)) q (rw next_same r)

pub none_yet_lem : (h : Model.Sheet) (s : Memory) (a : Arrays.Arrays) → PutBlocks s (from h (s.count - 1) (slots_of (shop_from a)) 20) s
unfolding slots_of
none_yet_lem h s a = rw (from_end h (s.count - 1) (map slot_of (shop_from a).slots) 20 (omega (arith, slots_long a, length-map (shop_from a).slots slot_of))) nothing_put
