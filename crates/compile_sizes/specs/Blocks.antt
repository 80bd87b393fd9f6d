-- The blocks of a slot and of a shop take what was worked out, whatever their numbers are. Assumes nothing.
use Rattle.std.specs.Prelude.{◌≡◌, refl, Bool, true, false, cond, List, [], ◌∷◌, ℕ, suc, ◌+◌, leb, ℤ, pos, length}
use Rattle.std.proofs.Math.Option.{Option, none, some}
use Rattle.std.proofs.Common.{arith, length-append}
use Rattle.model.specs.Expr.{Expr, two, negate, size}
use Rattle.model.specs.declared.Op2.TheVariants.{BitAnd}
use Rattle.model.specs.Script.{Block, block_commands, block_nodes, commands_nodes, command_nodes}
use Rattle.model.specs.Requirement.{Requirement, missingItem, sorted}
use Rattle.model.specs.Sheet.{Sheet}
use Rattle.model.specs.Shop.{Slot, Timer, plain, five, ten, fifteen, timer_of, limit_of}
use Rattle.model.specs.Compile.{test, join_tests, acquired_expr, enable_blocks, unique_blocks, limit_blocks, filled_blocks, blocks_for, slot_blocks, slots_blocks, shop_blocks, root_of, return_block}
use Rattle.model.proofs.Laws.Sound.{sum_append}
use Rattle.expr_build.specs.Laws.{size_imm}
use Rattle.compile_sizes.specs.Sizes.{SizeOf, tests_nodes, acquired_nodes, enable_size, unique_size, limit_size, filled_size, size_for, slot_size, shop_size}
use Rattle.compile_sizes.specs.Tests.{test_size, joined_size, acquired_size, missing_size}

-- ---- limit 1

enable_sized : (h : Sheet) (i e w : ℕ) (t : Timer) (v : Expr) (k n m : ℕ) → size v ≡ m → SizeOf (enable_size t m) (enable_blocks h i e w t v k n)
unfolding size block_commands block_nodes commands_nodes command_nodes tests_nodes
enable_sized h i e w plain v k n m q = record { blocks = refl; commands = refl; nodes = omega (arith, q) }
enable_sized h i e w ten v k n m q = record { blocks = refl; commands = refl; nodes = omega (arith, q) }
enable_sized h i e w fifteen v k n m q = record { blocks = refl; commands = refl; nodes = omega (arith, q) }
enable_sized h i e w five v k n m q = record {
  blocks = refl;
  commands = refl;
  nodes = omega (arith, q, size_imm (pos w), joined_size (test (missingItem h.timer10)) (missingItem h.timer15 ∷ []), test_size (missingItem h.timer10), test_size (missingItem h.timer15));
}

unique_sized : (h : Sheet) (i e w : ℕ) (rs : List Requirement) → SizeOf (unique_size (timer_of h w) (length rs) (tests_nodes rs)) (unique_blocks h i e w rs)
unfolding unique_blocks size block_commands block_nodes commands_nodes command_nodes tests_nodes
unique_sized h i e w [] =
    let v : Expr = negate (acquired_expr h w) in
    let q = enable_sized h i e w (timer_of h w) v (suc e) (suc (suc e)) (acquired_nodes (timer_of h w) + 0) (omega (arith, missing_size h w)) in
    record { blocks = omega (arith, q.blocks); commands = omega (arith, q.commands); nodes = omega (arith, q.nodes, size_imm (pos w)) }
unique_sized h i e w (r ∷ rs) =
    let v : Expr = two BitAnd (negate (acquired_expr h w)) (join_tests (test r) rs) in
    let s : size v ≡ acquired_nodes (timer_of h w) + tests_nodes (r ∷ rs) = omega (arith, missing_size h w, joined_size (test r) rs, test_size r) in
    let q = enable_sized h i e w (timer_of h w) v (suc (suc (suc e))) (suc (suc (suc (suc e)))) (acquired_nodes (timer_of h w) + tests_nodes (r ∷ rs)) s in
    record { blocks = omega (arith, q.blocks); commands = omega (arith, q.commands); nodes = omega (arith, q.nodes, size_imm (pos w), acquired_size h w) }

-- ---- limit above 1

limit_sized : (i e w l : ℕ) (rs : List Requirement) → SizeOf (limit_size (length rs) (tests_nodes rs)) (limit_blocks i e w l rs)
unfolding limit_blocks size block_commands block_nodes commands_nodes command_nodes tests_nodes
limit_sized i e w l [] = record { blocks = refl; commands = refl; nodes = omega (arith, size_imm (pos w)) }
limit_sized i e w l (r ∷ rs) = record { blocks = refl; commands = refl; nodes = omega (arith, size_imm (pos w), joined_size (test r) rs, test_size r) }

-- ---- the slot, the shop

filled_sized : (h : Sheet) (i e w l : ℕ) (rs : List Requirement) → SizeOf (filled_size (timer_of h w) l (length rs) (tests_nodes rs)) (filled_blocks h i e w l rs)
filled_sized h i e w l rs = by (leb l 1)
  where
    by : (b : Bool) → SizeOf (cond b (unique_size (timer_of h w) (length rs) (tests_nodes rs)) (limit_size (length rs) (tests_nodes rs)))
        (cond b (unique_blocks h i e w rs) (limit_blocks i e w l rs))
    by true = unique_sized h i e w rs
    by false = limit_sized i e w l rs

for_sized : (h : Sheet) (i e : ℕ) (o : Option ℕ) (z : ℤ) (rs : List Requirement) → SizeOf (size_for h o z rs) (blocks_for h i e o z rs)
unfolding size block_commands block_nodes commands_nodes command_nodes
for_sized h i e none z rs = record { blocks = refl; commands = refl; nodes = refl }
for_sized h i e (some w) z rs = filled_sized h i e w (limit_of h w z) rs

slot_sized : (h : Sheet) (i e : ℕ) (x : Slot) → SizeOf (slot_size h x) (slot_blocks h i e x)
unfolding slot_size slot_blocks
slot_sized h i e x = for_sized h i e x.item x.limit (sorted x.requirements)

slots_sized : (h : Sheet) (n i : ℕ) (xs : List Slot) → SizeOf (shop_size h xs) (return_block ∷ slots_blocks h n i xs)
unfolding shop_size slots_blocks block_commands block_nodes commands_nodes command_nodes
slots_sized h n i [] = record { blocks = refl; commands = refl; nodes = refl }
slots_sized h n i (x ∷ xs) =
    let ys : List Block = slots_blocks h n (suc i) xs in
    let zs : List Block = slot_blocks h i (root_of h n (suc i) xs) x in
    let p = slots_sized h n (suc i) xs in
    let q = slot_sized h i (root_of h n (suc i) xs) x in
    record {
      blocks = omega (arith, p.blocks, q.blocks, length-append ys zs);
      commands = omega (arith, p.commands, q.commands, sum_append block_commands ys zs);
      nodes = omega (arith, p.nodes, q.nodes, sum_append block_nodes ys zs);
    }

pub shop_sized : (h : Sheet) (n : ℕ) (xs : List Slot) → SizeOf (shop_size h xs) (shop_blocks h n xs)
unfolding shop_blocks
shop_sized h n xs = slots_sized h n 0 xs
