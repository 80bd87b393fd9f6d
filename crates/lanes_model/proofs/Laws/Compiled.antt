-- From a setup block compiled at, links lead only to the blocks that were appended, and fall; at most seven were appended for a slot. Assumes nothing.
use Rattle.std.specs.Prelude.{◌≡◌, Bool, true, false, cond, ◌⊎◌, ℕ, suc, ◌*◌, ◌<◌, ◌≤◌, leb, length, ℤ}
use Rattle.std.proofs.Math.Option.{Option, none, some}
use Rattle.std.proofs.Common.{inl, inr, length-append}
use mathlib.Core.List.Memᴰ
use mathlib.Core.List.{List, [], ◌∷◌, Memᴰ}
use native.Mathlib.Omega.{arith}
use Rattle.std.proofs.Math.Decide.{dec_le}
use Rattle.model.specs.Limits.{slot_count}
use Rattle.model.specs.Expr.{Expr, two, negate}
use Rattle.model.specs.declared.Op2.TheVariants.{BitAnd}
use Rattle.model.specs.Sheet.{Sheet, all}
use Rattle.model.specs.Requirement.{Requirement, sorted}
use Rattle.model.specs.Shop.{Slot, Timer, plain, five, ten, fifteen, timer_of, limit_of, slot_ok}
use Rattle.model.specs.Script.{Block, block_at}
use Rattle.model.specs.Compile.{acquired_expr, blocks_for, enable_blocks, join_tests, last_of, limit_blocks, redirect, root_of, slot_blocks, slots_blocks, test, unique_blocks}
use Rattle.model.proofs.Laws.Compiled.{Linked, last_of_is}
use Rattle.model.proofs.Laws.FitBlocks.{from_slots}
use Rattle.model.proofs.Laws.Checked.{SheetLow}
use Rattle.reclaim_model.specs.Rename.{links_of, targets, Every}
use Rattle.reclaim_model.proofs.Laws.Lower.{above_slots, after_links}
use Rattle.reclaim_model.proofs.Laws.Reached.{root, onward, every_at}
use Rattle.lanes_model.specs.Falls.{Link, LedTo, Falls}

-- ---- where the links lead

module _ (h : Sheet) (n : ℕ) (bs : List Block) (b : ℕ) (xs : List Slot) (k : Linked h n bs b xs) (f : SheetLow h) (ok : all (slot_ok h) xs ≡ true) (twenty : length xs ≡ slot_count) where
  -- between the Return block and the root of the shop
  pub record Lies (c : ℕ) : Type 0 where
    pub low : k.home ≤ c
    pub high : c ≤ root_of h k.home 0 xs

  links_low : (c : ℕ) → Lies c → Every (λ j. (k.home ≤ j) × (j < c)) (links_of (block_at bs c))
  unfolding links_of targets
  links_low c r = by (dec_le c k.home)
    where
      by : Dec (c ≤ k.home) → Every (λ j. (k.home ≤ j) × (j < c)) (links_of (block_at bs c))
      by (yes q) =
          let e : c ≡ k.home = omega (arith, r.low) in
          rw (e, k.returns.eq) tt
      by (no q) = after_links bs k.home k.home (slots_blocks h k.home 0 xs) k.rest (from_slots h f k.home 0 xs (omega arith) ok) (above_slots h k.home 0 xs) c (omega arith) r.high

  link_low : (c j : ℕ) → Lies c → Link bs c j → (k.home ≤ j) × (j < c)
  link_low c j r l = every_at (λ j. (k.home ≤ j) × (j < c)) (links_of (block_at bs c)) j (links_low c r) l

  setup_link : (c : ℕ) → Link bs b c → c ≡ root_of h k.home 0 xs
  unfolding links_of targets redirect
  setup_link c l = by (Memᴰ.cases_cons (rw k.link.eq at l))
    where
      by : (c ≡ root_of h k.home 0 xs) ⊎ Memᴰ c [] → c ≡ root_of h k.home 0 xs
      by (inl e) = e
      by (inr m) = absurd (Memᴰ.not-nil m)

  pub led_home : (c : ℕ) → LedTo bs b c → Lies c
  led_home c (root m) = let e = setup_link c m in record { low = omega (arith, last_of_is k.home (slots_blocks h k.home 0 xs)); high = omega arith }
  led_home c (onward {b = d} p m) =
      let r = led_home d p in
      let q = link_low d c r m in
      record { low = q.0; high = let u = q.1 in omega (arith, r.high) }

  pub linked_falls : Falls bs b
  linked_falls = record { lower = λ {c} {k} p m. (link_low c k (led_home c p) m).1 }

-- ---- how many blocks a slot has

module _ (h : Sheet) (i e : ℕ) where
  enable_few : (w : ℕ) (t : Timer) (c : Expr) (k n : ℕ) → length (enable_blocks h i e w t c k n) ≤ 3
  enable_few w plain c k n = omega arith
  enable_few w ten c k n = omega arith
  enable_few w fifteen c k n = omega arith
  enable_few w five c k n = omega arith

  unique_few : (w : ℕ) (rs : List Requirement) → length (unique_blocks h i e w rs) ≤ 7
  unfolding unique_blocks
  unique_few w [] = omega (arith, enable_few w (timer_of h w) (negate (acquired_expr h w)) (suc e) (suc (suc e)))
  unique_few w (r ∷ rs) = omega (arith, enable_few w (timer_of h w) (two BitAnd (negate (acquired_expr h w)) (join_tests (test r) rs)) (suc (suc (suc e))) (suc (suc (suc (suc e)))))

  limit_few : (w m : ℕ) (rs : List Requirement) → length (limit_blocks i e w m rs) ≤ 7
  unfolding limit_blocks
  limit_few w m [] = omega arith
  limit_few w m (r ∷ rs) = omega arith

  for_few : (o : Option ℕ) (z : ℤ) (rs : List Requirement) → length (blocks_for h i e o z rs) ≤ 7
  for_few none z rs = omega arith
  for_few (some w) z rs = by (leb (limit_of h w z) 1)
    where
      by : (b : Bool) → length (cond b (unique_blocks h i e w rs) (limit_blocks i e w (limit_of h w z) rs)) ≤ 7
      by true = unique_few w rs
      by false = limit_few w (limit_of h w z) rs

  slot_few : (x : Slot) → length (slot_blocks h i e x) ≤ 7
  unfolding slot_blocks
  slot_few x = for_few x.item x.limit (sorted x.requirements)

pub slots_few : (h : Sheet) (e i : ℕ) (xs : List Slot) → length (slots_blocks h e i xs) ≤ 7 * length xs
unfolding slots_blocks
slots_few h e i [] = omega arith
slots_few h e i (x ∷ xs) =
    let rest = slots_blocks h e (suc i) xs in
    omega (arith, length-append rest (slot_blocks h i (last_of e rest) x), slots_few h e (suc i) xs, slot_few h i (last_of e rest) x)
