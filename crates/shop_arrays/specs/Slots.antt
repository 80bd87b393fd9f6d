-- The slots of the shop that arrays stand for, one by one. Assumes nothing.
use Rattle.std.specs.Prelude.{◌≡◌, refl, List, ℕ, zero, suc, ◌+◌, ◌*◌, ◌<◌, pos, negsuc, length, drop, get_or, set, replicate}
use Rattle.std.proofs.Common.{sym, ap, ◌∙◌, zero-add, add-zero, arith, length-drop, length-set, length-take-le, get_or-take, get_or-drop, get_or-set_same, get_or-set_other, ext_get_or}
use Rattle.std.proofs.Math.Decide.{ℕ_discrete}
use Rattle.model.specs.Limits.{slot_count, entry_limit}
use Rattle.shop.specs.Shapes.{no_slot, no_shop, placed}
use Rattle.shop.specs.Sets.{Exact, AllExact}
use Rattle.shop.specs.declared.Slot.{Slot}
use Rattle.shop_arrays.specs.Arrays.{Arrays, arrays_in, item_from, row_at, slot_at, slots_from, shop_from}

from_long : (a : Arrays) (i n : ℕ) → length (slots_from a i n) ≡ n
unfolding slots_from
from_long a i zero = refl
from_long a i (suc n) = ap suc (from_long a (suc i) n)

from_at : (a : Arrays) (i n j : ℕ) (d : Slot) → j < n → get_or (slots_from a i n) j d ≡ slot_at a (i + j)
unfolding slots_from
from_at a i zero j d h = absurd (omega arith)
from_at a i (suc n) zero d h = ap (slot_at a) (sym (add-zero i))
from_at a i (suc n) (suc j) d h = let e : suc i + j ≡ i + suc j = omega arith in from_at a (suc i) n j d (omega arith) ∙ ap (slot_at a) e

pub slots_long : (a : Arrays) → length (shop_from a).slots ≡ slot_count
unfolding shop_from
slots_long a = from_long a 0 slot_count

pub slot_in_lem : (a : Arrays) (j : ℕ) (d : Slot) → j < slot_count → get_or (shop_from a).slots j d ≡ slot_at a j
unfolding shop_from
slot_in_lem a j d h = from_at a 0 slot_count j d h ∙ ap (slot_at a) (zero-add j)

pub exact_at : (a : Arrays) (i : ℕ) → AllExact (shop_from a) → i < slot_count → Exact (slot_at a i)
exact_at a i e h = rw (slot_in_lem a i no_slot h) at (e.slot i no_slot (omega (arith, slots_long a)))

-- ---- the codes of a slot

pub row_long : (codes : List ℕ) (i : ℕ) → length codes ≡ entry_limit * slot_count → i < slot_count → length (row_at codes i) ≡ entry_limit
row_long codes i e h = length-take-le entry_limit (drop (entry_limit * i) codes) (omega (arith, length-drop (entry_limit * i) codes))

pub row_at_lem : (codes : List ℕ) (i j : ℕ) → j < entry_limit → get_or (row_at codes i) j 0 ≡ get_or codes (entry_limit * i + j) 0
row_at_lem codes i j h = get_or-take entry_limit (drop (entry_limit * i) codes) j 0 h ∙ get_or-drop (entry_limit * i) codes j 0

-- ---- arrays that differ in slot i only

pub slot_put : (a b : Arrays) (i : ℕ) (x : Slot) → i < slot_count → slot_at b i ≡ x → ((j : ℕ) → j < slot_count → (j ≡ i → ⊥) → slot_at b j ≡ slot_at a j) → shop_from b ≡ placed (shop_from a) i x
slot_put a b i x low same others =
    ap (λ xs. record { slots = xs })
    (ext_get_or no_slot (shop_from b).slots (set (shop_from a).slots i x) (slots_long b ∙ sym (length-set (shop_from a).slots i x ∙ slots_long a))
    (λ j l. by j (omega (arith, slots_long b)) (ℕ_discrete j i)))
  where
    by : (j : ℕ) → j < slot_count → Dec (j ≡ i) → get_or (shop_from b).slots j no_slot ≡ get_or (set (shop_from a).slots i x) j no_slot
    by j l (yes e) = rw e (slot_in_lem b i no_slot low ∙ same ∙ sym (get_or-set_same (shop_from a).slots i x no_slot (omega (arith, slots_long a))))
    by j l (no d) = slot_in_lem b j no_slot l ∙ others j l d ∙ sym (slot_in_lem a j no_slot l) ∙ sym (get_or-set_other (shop_from a).slots i j x no_slot d)

-- the arrays before any slot was put
abbrev pub no_arrays : Arrays
no_arrays = arrays_in (replicate slot_count (negsuc 0)) (replicate slot_count (pos 0)) (replicate (entry_limit * slot_count) 0) (replicate slot_count 0)

pub shop_none : shop_from no_arrays ≡ no_shop
unfolding shop_from slots_from slot_at item_from
shop_none = refl
