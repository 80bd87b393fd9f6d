-- Compiled blocks link to no block below the first of their compile. Assumes nothing.
use Rattle.std.specs.Prelude.{◌≡◌, Bool, true, false, cond, ℕ, suc, ◌≤◌, ◌<◌, leb, ℤ}
use Rattle.std.proofs.Math.Option.{Option, none, some}
use mathlib.Core.List.{List, [], ◌∷◌, ◌++◌}
use native.Mathlib.Omega.{arith}
use Rattle.std.proofs.Math.Decide.{dec_le}
use Rattle.model.specs.Expr.{Expr}
use Rattle.model.specs.Sheet.{Sheet}
use Rattle.model.specs.Requirement.{Requirement, sorted}
use Rattle.model.specs.Shop.{Slot, Timer, plain, five, ten, fifteen, timer_of, limit_of}
use Rattle.model.specs.Script.{Block, block_at}
use Rattle.model.specs.Compile.{enable_blocks, unique_blocks, limit_blocks, blocks_for, slot_blocks, last_of, slots_blocks}
use Rattle.model.proofs.Laws.Compiled.{last_of_is}
use Rattle.model.proofs.Laws.SlotRuns.{After}
use Rattle.model.proofs.Laws.FitBlocks.{SoundFrom}
use Rattle.reclaim_model.specs.Rename.{targets, links_of, Every}
use Rattle.reclaim_model.proofs.Laws.Reclaimed.{every_both, links_below}

-- every link of the blocks is to lo or above
abbrev pub Above : ℕ → List Block → Type 0
Above lo [] = Unit {0}
Above lo (x ∷ xs) = Every (λ k. lo ≤ k) (links_of x) × Above lo xs

above_append : (lo : ℕ) (xs ys : List Block) → Above lo xs → Above lo ys → Above lo (xs ++ ys)
above_append lo [] ys a b = b
above_append lo (x ∷ xs) ys a b = (a.0, above_append lo xs ys a.1 b)

above_lower : (lo hi : ℕ) → lo ≤ hi → (xs : List Block) → Above hi xs → Above lo xs
above_lower lo hi l [] a = tt
above_lower lo hi l (x ∷ xs) a = (every_both (λ k. hi ≤ k) (λ k. hi ≤ k) (λ k. lo ≤ k) (λ k p q. omega arith) (links_of x) a.0 a.0, above_lower lo hi l xs a.1)

module _ (h : Sheet) (i e : ℕ) where
  above_enable : (w : ℕ) (t : Timer) (v : Expr) (k n : ℕ) → e ≤ k → e ≤ n → Above e (enable_blocks h i e w t v k n)
  unfolding links_of targets
  above_enable w plain v k n p q = omega arith
  above_enable w ten v k n p q = omega arith
  above_enable w fifteen v k n p q = omega arith
  above_enable w five v k n p q = omega arith

  above_unique : (w : ℕ) (rs : List Requirement) → Above e (unique_blocks h i e w rs)
  unfolding links_of targets unique_blocks
  above_unique w [] = (omega arith, (omega arith, above_enable w (timer_of h w) _ (suc e) (suc (suc e)) (omega arith) (omega arith)))
  above_unique w (r ∷ rs) = (omega arith, (omega arith, (omega arith, (omega arith, above_enable w (timer_of h w) _ (suc (suc (suc e))) (suc (suc (suc (suc e)))) (omega arith) (omega arith)))))

  above_limit : (w l : ℕ) (rs : List Requirement) → Above e (limit_blocks i e w l rs)
  unfolding links_of targets limit_blocks
  above_limit w l [] = omega arith
  above_limit w l (r ∷ rs) = omega arith

  above_filled : (b : Bool) (w l : ℕ) (rs : List Requirement) → Above e (cond b (unique_blocks h i e w rs) (limit_blocks i e w l rs))
  above_filled true w l rs = above_unique w rs
  above_filled false w l rs = above_limit w l rs

  above_for : (o : Option ℕ) (z : ℤ) (rs : List Requirement) → Above e (blocks_for h i e o z rs)
  unfolding links_of targets
  above_for none z rs = omega arith
  above_for (some w) z rs = above_filled (leb (limit_of h w z) 1) w (limit_of h w z) rs

  above_slot : (x : Slot) → Above e (slot_blocks h i e x)
  unfolding slot_blocks
  above_slot x = above_for x.item x.limit (sorted x.requirements)

pub above_slots : (h : Sheet) (e i : ℕ) (xs : List Slot) → Above e (slots_blocks h e i xs)
unfolding slots_blocks
above_slots h e i [] = tt
above_slots h e i (x ∷ xs) =
    let ys = slots_blocks h e (suc i) xs in
    above_append e ys (slot_blocks h i (last_of e ys) x) (above_slots h e (suc i) xs)
    (above_lower e (last_of e ys) (omega (arith, last_of_is e ys)) (slot_blocks h i (last_of e ys) x) (above_slot h i (last_of e ys) x))

-- of the blocks that stand after number e: each links between lo and its own number
pub after_links : (bs : List Block) (lo e : ℕ) (xs : List Block) → After bs e xs → SoundFrom e xs → Above lo xs → (k : ℕ) → e < k → k ≤ last_of e xs
    → Every (λ j. (lo ≤ j) × (j < k)) (links_of (block_at bs k))
unfolding SoundFrom
after_links bs lo e [] a s b k p q = absurd (omega arith)
after_links bs lo e (x ∷ xs) a s b k p q = by (dec_le k (suc e)) (after_links bs lo (suc e) xs a.1 s.1 b.1 k)
  where
    by : Dec (k ≤ suc e) → (suc e < k → k ≤ last_of (suc e) xs → Every (λ j. (lo ≤ j) × (j < k)) (links_of (block_at bs k))) → Every (λ j. (lo ≤ j) × (j < k)) (links_of (block_at bs k))
    by (yes d) ih =
        let w : k ≡ suc e = omega arith in
        rw (w, a.0.eq) (every_both (λ j. lo ≤ j) (λ j. j < suc e) (λ j. (lo ≤ j) × (j < suc e)) (λ j l u. (l, u)) (links_of x) b.0 (links_below (suc e) x s.0))
    by (no d) ih = ih (omega arith) q
