-- What a compile appends depends on the first free number by its links only. Assumes nothing.
use Rattle.std.specs.Prelude.{◌≡◌, Bool, ℕ, zero, suc, ◌+◌, leb, ℤ}
use Rattle.std.proofs.Math.Path.{refl, fun_ext}
use Rattle.std.proofs.Common.{sym, ap, ◌∙◌, add-zero, add-suc}
use Rattle.std.proofs.Math.Bool.{true, false, cond}
use Rattle.std.proofs.Math.Option.{Option, none, some}
use mathlib.Core.List.{List, [], ◌∷◌, map, map-append}
use Rattle.model.specs.Expr.{Expr, two, negate}
use Rattle.model.specs.declared.Op2.TheVariants.{BitAnd}
use Rattle.model.specs.Sheet.{Sheet}
use Rattle.model.specs.Requirement.{Requirement, sorted}
use Rattle.model.specs.Shop.{Slot, Timer, plain, five, ten, fifteen, timer_of, limit_of}
use Rattle.model.specs.Script.{Block}
use Rattle.model.specs.Compile.{acquired_expr, blocks_for, enable_blocks, join_tests, last_of, limit_blocks, shop_blocks, slot_blocks, slots_blocks, test, unique_blocks}
use Rattle.reclaim_model.specs.Rename.{rename_block}
use Rattle.reclaim_model.proofs.Laws.Renames.{rename_same, rename_twice}
use Rattle.moves_model.specs.Again.{shifted}

-- ---- by one, which computes: every number of the compiler is so many above End

abbrev up : List Block → List Block
up bs = map (rename_block suc) bs

last_of_up : (e : ℕ) (xs : List Block) → last_of (suc e) (up xs) ≡ suc (last_of e xs)
last_of_up e [] = refl
last_of_up e (x ∷ xs) = last_of_up (suc e) xs

module _ (h : Sheet) where
  module _ (i e : ℕ) where
    enable_up : (w : ℕ) (t : Timer) (c : Expr) (k n : ℕ) → enable_blocks h i (suc e) w t c (suc k) (suc n) ≡ up (enable_blocks h i e w t c k n)
    unfolding rename_block
    enable_up w plain c k n = refl
    enable_up w ten c k n = refl
    enable_up w fifteen c k n = refl
    enable_up w five c k n = refl

    unique_up : (w : ℕ) (rs : List Requirement) → unique_blocks h i (suc e) w rs ≡ up (unique_blocks h i e w rs)
    unfolding unique_blocks rename_block
    unique_up w [] = rw (enable_up w (timer_of h w) (negate (acquired_expr h w)) (suc e) (suc (suc e)))
    unique_up w (r ∷ rs) = rw (enable_up w (timer_of h w) (two BitAnd (negate (acquired_expr h w)) (join_tests (test r) rs)) (suc (suc (suc e))) (suc (suc (suc (suc e)))))

    limit_up : (w l : ℕ) (rs : List Requirement) → limit_blocks i (suc e) w l rs ≡ up (limit_blocks i e w l rs)
    unfolding limit_blocks rename_block
    limit_up w l [] = refl
    limit_up w l (r ∷ rs) = refl

    for_up : (o : Option ℕ) (z : ℤ) (rs : List Requirement) → blocks_for h i (suc e) o z rs ≡ up (blocks_for h i e o z rs)
    unfolding rename_block
    for_up none z rs = refl
    for_up (some w) z rs = by (leb (limit_of h w z) 1)
      where
        by : (b : Bool) → cond b (unique_blocks h i (suc e) w rs) (limit_blocks i (suc e) w (limit_of h w z) rs) ≡ up (cond b (unique_blocks h i e w rs) (limit_blocks i e w (limit_of h w z) rs))
        by true = unique_up w rs
        by false = limit_up w (limit_of h w z) rs

    slot_up : (x : Slot) → slot_blocks h i (suc e) x ≡ up (slot_blocks h i e x)
    unfolding slot_blocks
    slot_up x = for_up x.item x.limit (sorted x.requirements)

  slots_up : (e i : ℕ) (xs : List Slot) → slots_blocks h (suc e) i xs ≡ up (slots_blocks h e i xs)
  unfolding slots_blocks
  slots_up e i [] = refl
  slots_up e i (x ∷ xs) =
      rw (slots_up e (suc i) xs, last_of_up e (slots_blocks h e (suc i) xs), slot_up i (last_of e (slots_blocks h e (suc i) xs)) x)
      (sym (map-append (rename_block suc) (slots_blocks h e (suc i) xs) _))

  shop_up : (n : ℕ) (xs : List Slot) → shop_blocks h (suc n) xs ≡ up (shop_blocks h n xs)
  unfolding shop_blocks rename_block
  shop_up n xs = rw (slots_up n 0 xs)

-- ---- by any number

shifted_none : (bs : List Block) → shifted 0 bs ≡ bs
unfolding shifted
shifted_none bs = ap (λ f. map (rename_block f) bs) (fun_ext add-zero) ∙ by bs
  where
    by : (bs : List Block) → map (rename_block (λ k. k)) bs ≡ bs
    by [] = refl
    by (b ∷ bs) = rw (rename_same b, by bs)

shifted_up : (d : ℕ) (bs : List Block) → up (shifted d bs) ≡ shifted (suc d) bs
unfolding shifted
shifted_up d bs = by bs ∙ ap (λ f. map (rename_block f) bs) (fun_ext (λ k. sym (add-suc k d)))
  where
    by : (bs : List Block) → up (map (rename_block (λ k. k + d)) bs) ≡ map (rename_block (λ k. suc (k + d))) bs
    by [] = refl
    by (b ∷ bs) = rw (rename_twice suc (λ k. k + d) b, by bs)

-- the blocks of a shop, d numbers higher
pub shop_shifted : (h : Sheet) (n d : ℕ) (xs : List Slot) → shop_blocks h (n + d) xs ≡ shifted d (shop_blocks h n xs)
shop_shifted h n zero xs = rw (add-zero n) (sym (shifted_none (shop_blocks h n xs)))
shop_shifted h n (suc d) xs = rw (add-suc n d) (shop_up h (n + d) xs ∙ ap up (shop_shifted h n d xs) ∙ shifted_up d (shop_blocks h n xs))
