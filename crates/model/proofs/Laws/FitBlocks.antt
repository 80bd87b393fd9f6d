-- Compiled blocks are sound: each links to lower numbers only, and its expressions fit. Assumes nothing.
use Rattle.std.specs.Prelude.{◌≡◌, refl, Bool, false, cond, ◌&&◌, ℕ, zero, suc, ◌+◌, ◌*◌, ◌≤◌, ◌<◌, ltb, length, ℤ, pos, negsuc}
use Rattle.std.proofs.Common.{ap, ltb-false, leb-true}
use Rattle.std.proofs.Math.Bool.{true}
use Rattle.std.proofs.Math.Option.{Option, none, some}
use mathlib.Core.List.{List, [], ◌∷◌, ◌++◌}
use native.Mathlib.Omega.{arith}
use Rattle.std.proofs.Math.Dec.{leb}
use Rattle.model.specs.Limits.{depth_limit, slot_count, entry_limit, most_stock, item_first, count_first, wide16}
use Rattle.model.specs.Expr.{Expr, two, imm16, negate}
use Rattle.model.specs.declared.Op2.TheVariants.{BitAnd, Less}
use Rattle.model.specs.Sheet.{Sheet, item_count, atc_for, all}
use Rattle.model.specs.Requirement.{Requirement, sorted}
use Rattle.model.specs.Shop.{Slot, padded, Timer, plain, five, ten, fifteen, timer_of, atc_limit, limit_of, req_known, item_known, slot_ok}
use Rattle.model.specs.Script.{Block}
use Rattle.model.specs.Compile.{test, join_tests, acquired_expr, set_slot, set_slot_end, if_block, item_expr, hide_block, no_timer_expr, enable_blocks, unique_blocks, temp_var, reset_block, remaining_expr, remaining_block, limit_blocks, blocks_for, slot_blocks, last_of, slots_blocks, return_block, shop_blocks}
use Rattle.model.proofs.Laws.Checks.{and_left, and_right}
use Rattle.model.proofs.Laws.Normal.{all_sorted, sorted_length}
use Rattle.model.proofs.Laws.ImageExpr.{FitsExpr}
use Rattle.model.proofs.Laws.Image.{FitsLink}
use Rattle.model.proofs.Laws.Sound.{SoundCommand, SoundCommands, SoundBlock, SoundBlocks, more_block}
use Rattle.model.proofs.Laws.FitTests.{deep_enough, fits_deeper, fits_two, fits_small, fits_hidden, fits_item, fits_entries, fits_acquired, fits_missing, fits_no_timer, fits_remaining, fits_temp}
use Rattle.model.proofs.Laws.Checked.{SheetLow}

-- of the blocks right after number e: each links to lower numbers
unfoldable pub SoundFrom : ℕ → List Block → Type 0
SoundFrom e [] = Unit
SoundFrom e (x ∷ xs) = SoundBlock (suc e) x × SoundFrom (suc e) xs

pub from_append : (e : ℕ) (xs ys : List Block) → SoundFrom e xs → SoundFrom (last_of e xs) ys → SoundFrom e (xs ++ ys)
unfolding SoundFrom
from_append e [] ys a b = b
from_append e (x ∷ xs) ys a b = (a.0, from_append (suc e) xs ys a.1 b)

pub from_sound : (e k : ℕ) (xs : List Block) → e + length xs ≤ k → SoundFrom e xs → SoundBlocks k xs
unfolding SoundFrom SoundBlocks
from_sound e k [] h f = tt
from_sound e k (x ∷ xs) h f = (more_block (suc e) k (omega arith) x f.0, from_sound (suc e) k xs (omega arith) f.1)

-- ---- the blocks by their shape

-- what a command may hold
abbrev pub Allowed : Expr → Type 0
Allowed e = FitsExpr depth_limit e

shallow : (d : ℕ) (e : Expr) → d ≤ 5 → FitsExpr d e → Allowed e
shallow d e h f = fits_deeper d depth_limit e (omega (arith, deep_enough)) f

number_fits_lem : (n : ℕ) → 2 * n < wide16 → Allowed (imm16 (pos n))
number_fits_lem n h = shallow 1 (imm16 (pos n)) (omega arith) (fits_small 0 n h)

hidden_fits : Allowed (imm16 (negsuc 0))
hidden_fits = shallow 1 (imm16 (negsuc 0)) (omega arith) (fits_hidden 0)

module _ (k : ℕ) where
  sound_slot : (last i : ℕ) (a b : Expr) → last < k → i < slot_count → Allowed a → Allowed b → SoundBlock k (set_slot last i a b)
  unfolding SoundBlock SoundCommands SoundCommand FitsLink
  sound_slot last i a b l m fa fb = (((number_fits_lem (item_first + i) (omega arith), fa), ((number_fits_lem (count_first + i) (omega arith), fb), tt)), l, tt)

  sound_slot_end : (end i : ℕ) (a b : Expr) → end < k → i < slot_count → Allowed a → Allowed b → SoundBlock k (set_slot_end end i a b)
  unfolding SoundBlock SoundCommands SoundCommand FitsLink
  sound_slot_end end i a b l m fa fb = (((number_fits_lem (item_first + i) (omega arith), fa), ((number_fits_lem (count_first + i) (omega arith), fb), (l, tt))), l, tt)

  sound_if : (last : ℕ) (c : Expr) (j : ℕ) → last < k → j < k → Allowed c → SoundBlock k (if_block last c j)
  unfolding SoundBlock SoundCommands SoundCommand FitsLink
  sound_if last c j l m fc = (((fc, m), tt), l, m)

  sound_hide : (end i : ℕ) → end < k → i < slot_count → SoundBlock k (hide_block end i)
  sound_hide end i l m = sound_slot end i (imm16 (negsuc 0)) (imm16 (pos 0)) l m hidden_fits (number_fits_lem 0 (omega arith))

  sound_reset : (j : ℕ) → j < k → SoundBlock k (reset_block j)
  unfolding SoundBlock SoundCommands SoundCommand FitsLink
  sound_reset j l = (((number_fits_lem 0 (omega arith), number_fits_lem 0 (omega arith)), tt), l, tt)

  sound_remaining : (n w j : ℕ) → suc j < k → Allowed (remaining_expr n w) → SoundBlock k (remaining_block n w j)
  unfolding SoundBlock SoundCommands SoundCommand FitsLink
  sound_remaining n w j l f =
      let less = fits_two 2 Less temp_var (imm16 (pos 0)) fits_temp (fits_small 1 0 (omega arith)) in
      let m : j < k = omega arith in
      (((number_fits_lem 0 (omega arith), f), ((shallow 3 (two Less temp_var (imm16 (pos 0))) (omega arith) less, m), tt)), l, m)

  sound_return : SoundBlock k return_block
  unfolding SoundBlock SoundCommands SoundCommand FitsLink
  sound_return = ((tt, tt), tt, tt)

-- ---- a slot

pub limit_low : (h : Sheet) (w : ℕ) (z : ℤ) → limit_of h w z ≤ most_stock
unfolding limit_of
limit_low h w z = by (atc_for h w) (timer_of h w) z
  where
    pick : (a b : Bool) (n : ℕ) → ltb most_stock n ≡ b → cond a 1 (cond b most_stock n) ≤ most_stock
    pick true b n e = omega arith
    pick false true n e = omega arith
    pick false false n e = ltb-false most_stock n e

    by : (o : Option ℕ) (t : Timer) (z : ℤ) → atc_limit o t z ≤ most_stock
    by (some a) t z = omega arith
    by none plain (pos n) = pick (ltb n 1) (ltb most_stock n) n refl
    by none plain (negsuc n) = omega arith
    by none five z = omega arith
    by none ten z = omega arith
    by none fifteen z = omega arith

module _ (h : Sheet) (f : SheetLow h) (i : ℕ) (m : i < slot_count) where
  module _ (e w : ℕ) (p : ltb w (item_count h) ≡ true) where
    item_fits : Allowed (item_expr w)
    item_fits = shallow 1 (item_expr w) (omega arith) (fits_item h f 0 w p)

    from_enable : (t : Timer) (c : Expr) (k n : ℕ) → e ≤ n → k ≤ n → Allowed c → SoundFrom n (enable_blocks h i e w t c k n)
    unfolding SoundFrom
    from_enable plain c k n a b g = (sound_if (suc n) n c k (omega arith) (omega arith) g, tt)
    from_enable ten c k n a b g = (sound_if (suc n) n c k (omega arith) (omega arith) g, tt)
    from_enable fifteen c k n a b g = (sound_if (suc n) n c k (omega arith) (omega arith) g, tt)
    from_enable five c k n a b g = (
      sound_slot_end (suc n) e i (item_expr w) (imm16 (pos 0)) (omega arith) m item_fits (number_fits_lem 0 (omega arith)),
      (
        sound_if (suc (suc n)) (suc n) (no_timer_expr h) n (omega arith) (omega arith) (shallow 4 (no_timer_expr h) (omega arith) (fits_no_timer h f)),
        (sound_if (suc (suc (suc n))) (suc (suc n)) c k (omega arith) (omega arith) g, tt),
      ),
    )

    -- R, and what V tests
    entries_fit : (r : Requirement) (rs : List Requirement) → length (r ∷ rs) ≤ entry_limit → all (req_known h) (r ∷ rs) ≡ true → FitsExpr (entry_limit + 4) (join_tests (test r) rs)
    entries_fit r rs l q = fits_deeper (length (r ∷ rs) + 2) (entry_limit + 4) (join_tests (test r) rs) (omega arith) (fits_entries h f r rs q)

    shown_fits : (r : Requirement) (rs : List Requirement) → length (r ∷ rs) ≤ entry_limit → all (req_known h) (r ∷ rs) ≡ true
        → FitsExpr (suc (entry_limit + 4)) (two BitAnd (negate (acquired_expr h w)) (join_tests (test r) rs))
    shown_fits r rs l q =
        fits_two (entry_limit + 4) BitAnd (negate (acquired_expr h w)) (join_tests (test r) rs)
        (fits_deeper 4 (entry_limit + 4) (negate (acquired_expr h w)) (omega arith) (fits_missing h f w p)) (entries_fit r rs l q)

    from_unique : (rs : List Requirement) → length rs ≤ entry_limit → all (req_known h) rs ≡ true → SoundFrom e (unique_blocks h i e w rs)
    unfolding SoundFrom unique_blocks
    from_unique [] l q = (
      sound_slot (suc e) e i (item_expr w) (imm16 (pos 0)) (omega arith) m item_fits (number_fits_lem 0 (omega arith)),
      (
        sound_slot_end (suc (suc e)) e i (item_expr w) (imm16 (pos 1)) (omega arith) m item_fits (number_fits_lem 1 (omega arith)),
        from_enable (timer_of h w) (negate (acquired_expr h w)) (suc e) (suc (suc e)) (omega arith) (omega arith)
            (shallow 4 (negate (acquired_expr h w)) (omega arith) (fits_missing h f w p)),
      ),
    )
    from_unique (r ∷ rs) l q = (
      sound_hide (suc e) e i (omega arith) m,
      (
        sound_slot_end (suc (suc e)) e i (item_expr w) (imm16 (pos 0)) (omega arith) m item_fits (number_fits_lem 0 (omega arith)),
        (
          sound_if (suc (suc (suc e))) (suc (suc e)) (acquired_expr h w) (suc e) (omega arith) (omega arith) (shallow 4 (acquired_expr h w) (omega arith) (fits_acquired h f w p)),
          (
            sound_slot_end (suc (suc (suc (suc e)))) e i (item_expr w) (imm16 (pos 1)) (omega arith) m item_fits (number_fits_lem 1 (omega arith)),
            from_enable (timer_of h w) (two BitAnd (negate (acquired_expr h w)) (join_tests (test r) rs)) (suc (suc (suc e))) (suc (suc (suc (suc e)))) (omega arith) (omega arith)
                (fits_deeper (suc (entry_limit + 4)) depth_limit (two BitAnd (negate (acquired_expr h w)) (join_tests (test r) rs)) (omega (arith, deep_enough)) (shown_fits r rs l q)),
          ),
        ),
      ),
    )

    from_limit : (n : ℕ) (rs : List Requirement) → n ≤ most_stock → length rs ≤ entry_limit → all (req_known h) rs ≡ true → SoundFrom e (limit_blocks i e w n rs)
    unfolding SoundFrom limit_blocks
    from_limit n [] z l q = (
      sound_slot (suc e) e i (item_expr w) temp_var (omega arith) m item_fits (shallow 2 temp_var (omega arith) fits_temp),
      (
        sound_reset (suc (suc e)) (suc e) (omega arith),
        (sound_remaining (suc (suc (suc e))) n w (suc e) (omega arith) (shallow 3 (remaining_expr n w) (omega arith) (fits_remaining h f n w (omega arith) p)), tt),
      ),
    )
    from_limit n (r ∷ rs) z l q = (
      sound_hide (suc e) e i (omega arith) m,
      (
        sound_slot_end (suc (suc e)) e i (item_expr w) temp_var (omega arith) m item_fits (shallow 2 temp_var (omega arith) fits_temp),
        (
          sound_reset (suc (suc (suc e))) (suc (suc e)) (omega arith),
          (
            sound_remaining (suc (suc (suc (suc e)))) n w (suc (suc e)) (omega arith) (shallow 3 (remaining_expr n w) (omega arith) (fits_remaining h f n w (omega arith) p)),
            (
              sound_if (suc (suc (suc (suc (suc e))))) (suc (suc (suc (suc e)))) (join_tests (test r) rs) (suc e) (omega arith) (omega arith)
                  (fits_deeper (entry_limit + 4) depth_limit (join_tests (test r) rs) (omega (arith, deep_enough)) (entries_fit r rs l q)),
              tt,
            ),
          ),
        ),
      ),
    )

    from_filled : (b : Bool) (n : ℕ) (rs : List Requirement) → n ≤ most_stock → length rs ≤ entry_limit → all (req_known h) rs ≡ true
        → SoundFrom e (cond b (unique_blocks h i e w rs) (limit_blocks i e w n rs))
    from_filled true n rs z l q = from_unique rs l q
    from_filled false n rs z l q = from_limit n rs z l q

  pub from_slot : (e : ℕ) (x : Slot) → slot_ok h x ≡ true → SoundFrom e (slot_blocks h i e x)
  unfolding slot_blocks SoundFrom
  from_slot e x p = by x.item (and_left (item_known h x.item) _ p)
    where
      rest : leb (length x.requirements) entry_limit && all (req_known h) x.requirements ≡ true
      rest = and_right (item_known h x.item) _ p

      few : length (sorted x.requirements) ≤ entry_limit
      few = omega (arith, sorted_length x.requirements, leb-true (length x.requirements) entry_limit (and_left (leb (length x.requirements) entry_limit) _ rest))

      known : all (req_known h) (sorted x.requirements) ≡ true
      known = all_sorted (req_known h) x.requirements (and_right (leb (length x.requirements) entry_limit) _ rest)

      by : (o : Option ℕ) → item_known h o ≡ true → SoundFrom e (blocks_for h i e o x.limit (sorted x.requirements))
      by none q = (sound_hide (suc e) e i (omega arith) m, tt)
      by (some w) q = from_filled e w q (leb (limit_of h w x.limit) 1) (limit_of h w x.limit) (sorted x.requirements) (limit_low h w x.limit) few known

-- ---- the slots, the shop

pub length_padded : (n : ℕ) (xs : List Slot) → length (padded n xs) ≡ n
unfolding padded
length_padded zero xs = refl
length_padded (suc n) [] = ap suc (length_padded n [])
length_padded (suc n) (x ∷ xs) = ap suc (length_padded n xs)

module _ (h : Sheet) (f : SheetLow h) where
  pub from_slots : (e i : ℕ) (xs : List Slot) → i + length xs ≤ slot_count → all (slot_ok h) xs ≡ true → SoundFrom e (slots_blocks h e i xs)
  unfolding slots_blocks SoundFrom
  from_slots e i [] l p = tt
  from_slots e i (x ∷ xs) l p =
      from_append e (slots_blocks h e (suc i) xs) (slot_blocks h i (last_of e (slots_blocks h e (suc i) xs)) x)
      (from_slots e (suc i) xs (omega arith) (and_right (slot_ok h x) _ p))
      (from_slot h f i (omega arith) (last_of e (slots_blocks h e (suc i) xs)) x (and_left (slot_ok h x) _ p))

  -- the blocks of a shop, from number n on, among k blocks
  pub shop_sound : (n k : ℕ) (xs : List Slot) → length xs ≤ slot_count → all (slot_ok h) xs ≡ true → n + length (shop_blocks h n xs) ≤ k → SoundBlocks k (shop_blocks h n xs)
  unfolding shop_blocks SoundBlocks
  shop_sound n k xs l p d = (sound_return k, from_sound n k (slots_blocks h n 0 xs) (omega arith) (from_slots n 0 xs (omega arith) p))
