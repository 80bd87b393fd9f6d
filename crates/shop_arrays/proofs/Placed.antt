-- A shop from its slots, put into the empty shop or into another one after the other. Assumes nothing.
use mathlib.Core.Path.{◌≡◌, refl, sym, ap, ◌∙◌}
use Prim.Native.Nat.{ℕ, zero, suc, ◌+◌, ◌≤◌, ◌<◌}
use native.Mathlib.Numerals.{add-one}
use lib.ListN.{length, take, get_or}
use lib.Seq.{take_all, take-suc, take-suc-set}
use mathlib.Core.Bool.{Bool, ◌&&◌}
use Rattle.std.specs.List.{list_all, range_with_len}
use mathlib.Core.Path.{subst}
use mathlib.Core.List.{List}
use native.Mathlib.Decide.{dec_le}
use native.Mathlib.Omega.{arith}
use Rattle.std.specs.Array.{IsFromFnResultFrom}
use Rattle.std.specs.Fn.{Called}
use denote.Param.Members.{Mut}
use Rattle.model.specs.Limits.{slot_count}
use Rattle.model.specs.Sheet.{all}
use Rattle.shop.specs.Shapes.{placed}
use Rattle.shop.specs.declared.Slot.{Slot}
use Rattle.shop.specs.declared.Shop.{Shop}
use Rattle.shop_arrays.specs.Arrays.{Arrays, slot_at, slots_from, shop_from}

-- an array whose elements a closure made, that stays as it is and makes h of a number
module _ {F B : Type 0} (g : Mut F (ℕ × Unit {0}) B) (f : F) (h : ℕ → B) (ys : List B) (makes : (i : ℕ) (y : B) (q : F) → Called g f (i, tt) y q → (q ≡ f) × (y ≡ h i)) where
  pub made_at : (n i : ℕ) → IsFromFnResultFrom g f ys i n → (j : ℕ) (d : B) → i ≤ j → j < i + n → get_or ys j d ≡ h j
  made_at zero i r j d l m = absurd (omega arith)
  made_at (suc n) i (q, y, e, c, r) j d l m = by (dec_le j i) (made_at n (i + 1) (subst (λ p. IsFromFnResultFrom g p ys (i + 1) n) (makes i y q c).0 r) j d)
    where
      by : Dec (j ≤ i) → (i + 1 ≤ j → j < i + 1 + n → get_or ys j d ≡ h j) → get_or ys j d ≡ h j
      by (yes k) rest = let z : i ≡ j = omega arith in ap (λ p. get_or ys p d) (sym z) ∙ e.1 d ∙ (makes i y q c).1 ∙ ap h z
      by (no k) rest = rest (omega arith) (omega arith)

-- s agrees with t in the first i slots, and takes over the next
pub placed_agree : (s t : Shop) (i : ℕ) (d : Slot) → i < length s.slots → i < length t.slots → take i s.slots ≡ take i t.slots
    → take (i + 1) (placed s i (get_or t.slots i d)).slots ≡ take (i + 1) t.slots
placed_agree s t i d l m e = rw (add-one i, take-suc-set s.slots i (get_or t.slots i d) l, take-suc t.slots i d m, e)

-- .. and in all of them
pub agree_all : (s t : Shop) (i : ℕ) → length s.slots ≤ i → length t.slots ≤ i → take i s.slots ≡ take i t.slots → s ≡ t
agree_all s t i l m e = ap (λ xs. record { slots = xs }) (sym (take_all i s.slots l) ∙ e ∙ take_all i t.slots m)

-- a test of every slot, by its number
pub all_from : (p : Slot → Bool) (a : Arrays) (i n : ℕ) → list_all (λ j. p (slot_at a j)) (range_with_len i n) ≡ all p (slots_from a i n)
unfolding slots_from
all_from p a i zero = refl
all_from p a i (suc n) = rw (add-one i) (ap (λ b. p (slot_at a i) && b) (all_from p a (suc i) n))

pub all_slots : (p : Slot → Bool) (a : Arrays) → list_all (λ j. p (slot_at a j)) (range_with_len 0 slot_count) ≡ all p (shop_from a).slots
unfolding shop_from
all_slots p a = all_from p a 0 slot_count
