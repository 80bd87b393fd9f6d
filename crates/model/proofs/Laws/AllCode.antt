-- Blocks that are code: every one that a compile appends is, and one that is stands in the script. Assumes nothing.
use Rattle.std.specs.Prelude.{◌≡◌, Bool, true, false, cond, ℕ, zero, suc, ◌<◌, ◌≤◌, leb, ℤ, get_or, length}
use Rattle.std.proofs.Math.Path.{refl}
use Rattle.std.proofs.Math.Option.{Option, none, some}
use mathlib.Core.List.{List, [], ◌∷◌, ◌++◌}
use Rattle.std.proofs.Common.{arith}
use Rattle.std.proofs.Math.ListN.{get_or-eq_default}
use Rattle.model.specs.Expr.{Expr}
use Rattle.model.specs.Requirement.{Requirement, sorted}
use Rattle.model.specs.Sheet.{Sheet, all}
use Rattle.model.specs.Shop.{Slot, Timer, plain, five, ten, fifteen, limit_of, timer_of}
use Rattle.model.specs.Script.{Block, is_code, placeholder, Command, block_at, code}
use Rattle.model.specs.Compile.{blocks_for, enable_blocks, limit_blocks, shop_blocks, slot_blocks, slots_blocks, unique_blocks}
use Rattle.model.proofs.Laws.Checks.{and_left, and_right}
use Rattle.std.proofs.Math.Decide.{dec_le}

abbrev AllCode : List Block → Type 0
AllCode xs = all is_code xs ≡ true

code_append : (xs ys : List Block) → AllCode xs → AllCode ys → AllCode (xs ++ ys)
code_append [] ys p q = q
code_append (x ∷ xs) ys p q = rw (and_left (is_code x) (all is_code xs) p) (code_append xs ys (and_right (is_code x) (all is_code xs) p) q)

code_at : (xs : List Block) (j : ℕ) → AllCode xs → j < length xs → is_code (get_or xs j placeholder) ≡ true
code_at [] j p l = absurd (omega arith)
code_at (x ∷ xs) zero p l = and_left (is_code x) (all is_code xs) p
code_at (x ∷ xs) (suc j) p l = code_at xs j (and_right (is_code x) (all is_code xs) p) (omega arith)

module _ (h : Sheet) where
  enable_code : (i e w : ℕ) (t : Timer) (v : Expr) (k n : ℕ) → AllCode (enable_blocks h i e w t v k n)
  enable_code i e w plain v k n = refl
  enable_code i e w five v k n = refl
  enable_code i e w ten v k n = refl
  enable_code i e w fifteen v k n = refl

  unique_code : (i e w : ℕ) (rs : List Requirement) → AllCode (unique_blocks h i e w rs)
  unfolding unique_blocks
  unique_code i e w [] = enable_code i e w (timer_of h w) _ _ _
  unique_code i e w (r ∷ rs) = enable_code i e w (timer_of h w) _ _ _

  limit_code : (i e w l : ℕ) (rs : List Requirement) → AllCode (limit_blocks i e w l rs)
  unfolding limit_blocks
  limit_code i e w l [] = refl
  limit_code i e w l (r ∷ rs) = refl

  for_code : (i e : ℕ) (o : Option ℕ) (z : ℤ) (rs : List Requirement) → AllCode (blocks_for h i e o z rs)
  for_code i e none z rs = refl
  for_code i e (some w) z rs = by (leb (limit_of h w z) 1)
    where
      by : (b : Bool) → AllCode (cond b (unique_blocks h i e w rs) (limit_blocks i e w (limit_of h w z) rs))
      by true = unique_code i e w rs
      by false = limit_code i e w (limit_of h w z) rs

  slots_code : (e i : ℕ) (xs : List Slot) → AllCode (slots_blocks h e i xs)
  unfolding slots_blocks slot_blocks
  slots_code e i [] = refl
  slots_code e i (x ∷ xs) = code_append (slots_blocks h e (suc i) xs) _ (slots_code e (suc i) xs) (for_code i _ x.item x.limit (sorted x.requirements))

  pub shop_code : (n : ℕ) (xs : List Slot) (j : ℕ) → j < length (shop_blocks h n xs) → is_code (get_or (shop_blocks h n xs) j placeholder) ≡ true
  unfolding shop_blocks
  shop_code n xs j l = code_at (shop_blocks h n xs) j (slots_code n 0 xs) l

-- a block that is code is there
pub code_there : (bs : List Block) (b : ℕ) (cs : List Command) (nx el : Option ℕ) → block_at bs b ≡ code cs nx el → b < length bs
code_there bs b cs nx el e = by (dec_le (length bs) b)
  where
    by : Dec (length bs ≤ b) → b < length bs
    by (yes l) = let d : block_at bs b ≡ placeholder = get_or-eq_default bs placeholder l in let z : ◌≡◌ {A = ℕ} 0 1 = cc in absurd (omega arith)
    by (no n) = omega arith
