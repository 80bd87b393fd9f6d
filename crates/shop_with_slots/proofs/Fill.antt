-- Arrays that hold the first elements of slices, and the four of a shop. Assumes nothing.
use mathlib.Core.Path.{◌≡◌, refl, sym, ap, ◌∙◌}
use mathlib.Core.List.{List, [], ◌∷◌}
use Rattle.std.proofs.Common.{ext_get_or, get_or-take}
use Prim.Native.Nat.{ℕ, zero, suc, ◌+◌, ◌*◌, ◌≤◌, ◌<◌, min}
use native.Mathlib.Decide.{dec_le}
use native.Mathlib.Omega.{arith}
use lib.ListN.{length, get_or, set, take, length-take, get_or-eq_default}
use Rattle.std.proofs.lemmas.List.{length-set, get_or-set_same, get_or-set_other}
use Rattle.std.proofs.Math.Decide.{ℕ_discrete}
use Rattle.model.proofs.Laws.Places.{any_default}
use lib.IntN.{ℤ, pos, negsuc}
use lib.Seq.{take_all}
use Rattle.model.specs.Limits.{entry_limit, slot_count}
use Rattle.shop_arrays.specs.Arrays.{arrays_in}
use Rattle.shop_with_slots.specs.Twenty.{filled, twenty}
use Rattle.shop_with_slots.specs.Slots.{filled_take, get_d_filled}

pub filled_long : {A : Type 0} (z : A) (n : ℕ) (xs : List A) → length (filled z n xs) ≡ n
unfolding filled
filled_long z zero xs = refl
filled_long z (suc n) [] = ap suc (filled_long z n [])
filled_long z (suc n) (x ∷ xs) = ap suc (filled_long z n xs)

-- an array that holds at each place what is given for it, or z
pub all_put : {A : Type 0} (z : A) (xs ys : List A) → ((k : ℕ) → k < length ys → get_or ys k z ≡ get_or xs k z) → ys ≡ filled z (length ys) xs
all_put z xs ys h = ext_get_or z ys (filled z (length ys) xs) (sym (filled_long z (length ys) xs)) (λ k l. h k l ∙ sym (get_d_filled z (length ys) k xs z l))

-- the first i of xs lie over an array that was z at each place
module _ {A : Type 0} (z : A) (xs : List A) where
  abbrev pub Laid : ℕ → List A → Type 0
  Laid i ys = (k : ℕ) → k < length ys → get_or ys k z ≡ get_or (take i xs) k z

  pub laid_one : (i : ℕ) (ys : List A) (y d : A) → y ≡ get_or xs i d → i < length xs → i < length ys → Laid i ys → Laid (i + 1) (set ys i y)
  laid_one i ys y d e l m h k n = by (ℕ_discrete k i)
    where
      w : k < length ys
      w = omega (arith, length-set ys i y)

      by : Dec (k ≡ i) → get_or (set ys i y) k z ≡ get_or (take (i + 1) xs) k z
      by (yes q) = rw q (get_or-set_same ys i y z m ∙ e ∙ any_default xs i d z l ∙ sym (get_or-take (i + 1) xs i z (omega arith)))
      by (no q) = get_or-set_other ys i k y z q ∙ h k w ∙ cut (dec_le i k)
        where
          cut : Dec (i ≤ k) → get_or (take i xs) k z ≡ get_or (take (i + 1) xs) k z
          cut (yes g) = get_or-eq_default (take i xs) z {n = k} (omega (arith, length-take i xs)) ∙ sym (get_or-eq_default (take (i + 1) xs) z {n = k} (omega (arith, length-take (i + 1) xs, q)))
          cut (no g) = get_or-take i xs k z (omega arith) ∙ sym (get_or-take (i + 1) xs k z (omega arith))

  pub laid_all : (n m : ℕ) (ys : List A) → m ≡ min (min n (length xs)) (length ys) → Laid m ys → ys ≡ filled z (length ys) (take n xs)
  laid_all n m ys e h = all_put z (take n xs) ys each
    where
      each : (k : ℕ) → k < length ys → get_or ys k z ≡ get_or (take n xs) k z
      each k l = h k l ∙ by (dec_le m k)
        where
          by : Dec (m ≤ k) → get_or (take m xs) k z ≡ get_or (take n xs) k z
          by (yes g) = get_or-eq_default (take m xs) z {n = k} (omega (arith, length-take m xs)) ∙ sym (get_or-eq_default (take n xs) z {n = k} (omega (arith, length-take n xs)))
          by (no g) = get_or-take m xs k z (omega arith) ∙ sym (get_or-take n xs k z (omega arith))

-- ---- the four arrays

module _ {A : Type 0} (z : A) (c k n : ℕ) (xs : List A) (e : n ≡ min k c) where
  -- no more than there is room for
  pub cut_is : filled z c (take n xs) ≡ filled z c (take k xs)
  cut_is = by (dec_le k c)
    where
      by : Dec (k ≤ c) → filled z c (take n xs) ≡ filled z c (take k xs)
      by (yes h) = let q : n ≡ k = omega arith in ap (λ j. filled z c (take j xs)) q
      by (no h) = filled_take z c n xs (omega arith) ∙ sym (filled_take z c k xs (omega arith))

pub twenty_is : (is js ls ms : List ℤ) (cs ds ns ps : List ℕ) (n : ℕ) → n ≡ min (length is) slot_count
    → js ≡ filled (negsuc 0) slot_count (take n is) → ms ≡ filled (pos 0) slot_count (take n ls)
    → ds ≡ filled 0 (entry_limit * slot_count) (take (entry_limit * n) cs) → ps ≡ filled 0 slot_count (take n ns)
    → arrays_in js ms ds ps ≡ twenty (arrays_in is ls cs ns)
unfolding twenty
twenty_is is js ls ms cs ds ns ps n e a b d f =
    let k = length is in
    let i : js ≡ filled (negsuc 0) slot_count is = a ∙ cut_is (negsuc 0) slot_count k n is e ∙ ap (filled (negsuc 0) slot_count) (take_all k is (omega arith)) in
    let l : ms ≡ filled (pos 0) slot_count (take k ls) = b ∙ cut_is (pos 0) slot_count k n ls e in
    let c : ds ≡ filled 0 (entry_limit * slot_count) (take (entry_limit * k) cs) = d ∙ cut_is 0 (entry_limit * slot_count) (entry_limit * k) (entry_limit * n) cs (omega arith) in
    let p : ps ≡ filled 0 slot_count (take k ns) = f ∙ cut_is 0 slot_count k n ns e in
    rw (i, l, c, p)
