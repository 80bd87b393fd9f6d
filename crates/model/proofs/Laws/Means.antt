-- What the variables hold after the writes of a shop, variable by variable. Assumes nothing.
use Rattle.std.specs.Prelude.{◌≡◌, ◌≢◌, set, length, ℤ, pos}
use Rattle.std.proofs.Math.Path.{refl, ap}
use Rattle.std.proofs.Common.{◌∙◌, add-zero}
use Rattle.std.proofs.Math.Option.{Option, none, some}
use mathlib.Core.List.{List, [], ◌∷◌}
use Prim.Native.Nat.{ℕ, zero, suc, ◌+◌, ◌<◌, ◌≤◌}
use native.Mathlib.Omega.{arith}
use Rattle.std.proofs.Math.ListN.{get_or, length-set}
use Rattle.std.proofs.Math.Seq.{get_or-set_same, get_or-set_other}
use Rattle.model.specs.Limits.{count_first, item_first, variable_count}
use Rattle.model.specs.Save.{Save}
use Rattle.model.specs.Sheet.{Sheet}
use Rattle.model.specs.Shop.{Slot, empty_slot}
use Rattle.model.specs.Meaning.{Meaning, Means, meaning_of, or_old, temp_after}
use Rattle.model.specs.Parse.{temp}
use Rattle.model.proofs.Laws.Runs.{length_write}
use Rattle.model.proofs.Laws.SlotRuns.{here}
use Rattle.model.proofs.Laws.Writes.{set_temp, write, writes, length_temp}

module _ (i : ℕ) (f : Meaning) (v : List ℤ) where
  write_other : (j : ℕ) → j ≢ 0 → j ≢ item_first + i → j ≢ count_first + i → get_or (write i f v) j (pos 0) ≡ get_or v j (pos 0)
  unfolding write
  write_other j a b c = get_or-set_other (set (set_temp f.temp v) (item_first + i) f.item) (count_first + i) j f.count (pos 0) c ∙ get_or-set_other (set_temp f.temp v) (item_first + i) j f.item (pos 0) b ∙ by f.temp
    where
      by : (o : Option ℤ) → get_or (set_temp o v) j (pos 0) ≡ get_or v j (pos 0)
      by none = refl
      by (some z) = get_or-set_other v 0 j z (pos 0) a

  write_first : 0 < length v → get_or (write i f v) 0 (pos 0) ≡ or_old f.temp (get_or v 0 (pos 0))
  unfolding write
  write_first l = get_or-set_other (set (set_temp f.temp v) (item_first + i) f.item) (count_first + i) 0 f.count (pos 0) (omega arith) ∙ get_or-set_other (set_temp f.temp v) (item_first + i) 0 f.item (pos 0) (omega arith) ∙ by f.temp
    where
      by : (o : Option ℤ) → get_or (set_temp o v) 0 (pos 0) ≡ or_old o (get_or v 0 (pos 0))
      by none = refl
      by (some z) = get_or-set_same v 0 z (pos 0) l

  write_item : i < 20 → length v ≡ variable_count → get_or (write i f v) (item_first + i) (pos 0) ≡ f.item
  unfolding write
  write_item p q = get_or-set_other (set (set_temp f.temp v) (item_first + i) f.item) (count_first + i) (item_first + i) f.count (pos 0) (omega arith) ∙ get_or-set_same (set_temp f.temp v) (item_first + i) f.item (pos 0) (omega (arith, length_temp f.temp v))

  write_count : i < 20 → length v ≡ variable_count → get_or (write i f v) (count_first + i) (pos 0) ≡ f.count
  unfolding write
  write_count p q = get_or-set_same (set (set_temp f.temp v) (item_first + i) f.item) (count_first + i) f.count (pos 0) (omega (arith, length_temp f.temp v, length-set (set_temp f.temp v) (item_first + i) f.item))

module _ (h : Sheet) (s : Save) where
  length_writes : (i : ℕ) (xs : List Slot) (v : List ℤ) → length (writes h s i xs v) ≡ length v
  unfolding writes
  length_writes i [] v = refl
  length_writes i (x ∷ xs) v = length_writes (suc i) xs (write i (meaning_of h s x) v) ∙ length_write i (meaning_of h s x) v

  -- j is below both ranges, or between them, or above: no slot from i on writes it
  writes_other : (i : ℕ) (xs : List Slot) (v : List ℤ) (j : ℕ) → j ≢ 0 → ((k : ℕ) → k < length xs → (j ≢ item_first + (i + k)) × (j ≢ count_first + (i + k))) → get_or (writes h s i xs v) j (pos 0) ≡ get_or v j (pos 0)
  unfolding writes
  writes_other i [] v j a out = refl
  writes_other i (x ∷ xs) v j a out =
      let here = out 0 (omega arith) in
      writes_other (suc i) xs (write i (meaning_of h s x) v) j a (λ k p. let o = out (suc k) (omega arith) in ((λ q. o.0 (omega arith)), (λ q. o.1 (omega arith))))
      ∙ write_other i (meaning_of h s x) v j a (λ q. here.0 (omega arith)) (λ q. here.1 (omega arith))

  writes_first : (i : ℕ) (xs : List Slot) (v : List ℤ) → 0 < length v → get_or (writes h s i xs v) 0 (pos 0) ≡ temp_after h s xs (get_or v 0 (pos 0))
  unfolding writes temp_after
  writes_first i [] v l = refl
  writes_first i (x ∷ xs) v l = writes_first (suc i) xs (write i (meaning_of h s x) v) (omega (arith, length_write i (meaning_of h s x) v)) ∙ ap (temp_after h s xs) (write_first i (meaning_of h s x) v l)

  writes_item : (i : ℕ) (xs : List Slot) (v : List ℤ) (k : ℕ) → k < length xs → i + length xs ≤ 20 → length v ≡ variable_count → get_or (writes h s i xs v) (item_first + (i + k)) (pos 0) ≡ (meaning_of h s (get_or xs k empty_slot)).item
  unfolding writes
  writes_item i [] v k p q l = absurd (omega arith)
  writes_item i (x ∷ xs) v zero p q l =
      rw (add-zero i) (writes_other (suc i) xs (write i (meaning_of h s x) v) (item_first + i) (omega arith) (λ k r. (omega arith, omega arith)) ∙ write_item i (meaning_of h s x) v (omega arith) l)
  writes_item i (x ∷ xs) v (suc k) p q l =
      let z : item_first + (i + suc k) ≡ item_first + (suc i + k) = omega arith in rw z (writes_item (suc i) xs (write i (meaning_of h s x) v) k (omega arith) (omega arith) (length_write i (meaning_of h s x) v ∙ l))

  writes_count : (i : ℕ) (xs : List Slot) (v : List ℤ) (k : ℕ) → k < length xs → i + length xs ≤ 20 → length v ≡ variable_count → get_or (writes h s i xs v) (count_first + (i + k)) (pos 0) ≡ (meaning_of h s (get_or xs k empty_slot)).count
  unfolding writes
  writes_count i [] v k p q l = absurd (omega arith)
  writes_count i (x ∷ xs) v zero p q l =
      rw (add-zero i) (writes_other (suc i) xs (write i (meaning_of h s x) v) (count_first + i) (omega arith) (λ k r. (omega arith, omega arith)) ∙ write_count i (meaning_of h s x) v (omega arith) l)
  writes_count i (x ∷ xs) v (suc k) p q l =
      let z : count_first + (i + suc k) ≡ count_first + (suc i + k) = omega arith in rw z (writes_count (suc i) xs (write i (meaning_of h s x) v) k (omega arith) (omega arith) (length_write i (meaning_of h s x) v ∙ l))

  pub writes_means : (xs : List Slot) (v : List ℤ) → length xs ≤ 20 → length v ≡ variable_count → Means h s xs v (writes h s 0 xs v)
  writes_means xs v p l = record {
    items = λ i q. let z : item_first + i ≡ item_first + (0 + i) = omega arith in rw z (writes_item 0 xs v i q (omega arith) l);
    counts = λ i q. let z : count_first + i ≡ count_first + (0 + i) = omega arith in rw z (writes_count 0 xs v i q (omega arith) l);
    first = writes_first 0 xs v (omega arith);
    others = λ j a out. writes_other 0 xs v j a (λ k q. let o = out k q in ((λ r. o.0 (omega arith)), (λ r. o.1 (omega arith))));
    long = length_writes 0 xs v;
  }
