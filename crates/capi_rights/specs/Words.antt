-- The words of each slot after an edit and after a show. Assumes nothing.
use Rattle.std.specs.Prelude.{◌≡◌, Bool, cond, pos, negsuc, get_or, length, replicate}
use Rattle.std.proofs.Math.Path.{refl}
use Rattle.std.proofs.Common.{ap, ◌∙◌, length-set, get_or-set_same, get_or-set_other}
use Rattle.std.proofs.Math.Bool.{true, false}
use Prim.Native.Nat.{ℕ, zero, suc, ◌*◌, ◌≤◌, ◌<◌}
use native.Mathlib.Omega.{arith}
use Rattle.std.proofs.Math.Decide.{dec_le}
use Rattle.std.proofs.lemmas.List.Edits.{length-paste}
use Rattle.model.specs.Limits.{entry_limit, slot_count}
use Rattle.rights_model.specs.Rights.{Table}
use Rattle.shop_arrays.specs.Arrays.{Arrays, row_at}
use Rattle.shop_arrays.specs.Back.{Full}
use Rattle.shop_arrays.specs.Rows.{row_other, row_own}
use Rattle.rights.specs.InArrays.{Contents, arrays_with, contents, emptied, first_shown}
use Rattle.rights.specs.declared.Field.{Field}
use Rattle.rights.specs.declared.Field.TheVariants.{Item, Limit, Requirements}

-- the words of slot i
abbrev pub words_at : Arrays → ℕ → Contents
words_at a i = contents (get_or a.items i (pos 0)) (get_or a.limits i (pos 0)) (row_at a.codes i) (get_or a.lens i 0)

-- those of an empty slot
abbrev pub no_words : Contents
no_words = contents (negsuc 0) (pos 0) (replicate entry_limit 0) 0

-- the content in its field, the other words as they were
abbrev pub changed_words : Field → Contents → Contents → Contents
changed_words Item x old = contents x.item old.limit old.codes old.len
changed_words Limit x old = contents old.item x.limit old.codes old.len
changed_words Requirements x old = contents old.item old.limit x.codes x.len

-- ---- after an edit

module _ (x : Contents) (long : length x.codes ≡ entry_limit) (a : Arrays) (full : Full a) (i : ℕ) (low : i < slot_count) where
  pub with_own : (f : Field) → words_at (arrays_with f x i a) i ≡ changed_words f x (words_at a i)
  with_own Item = rw (get_or-set_same a.items i x.item (pos 0) (omega (arith, full.items)))
  with_own Limit = rw (get_or-set_same a.limits i x.limit (pos 0) (omega (arith, full.limits)))
  with_own Requirements = rw (row_own a.codes x.codes i low full.codes long, get_or-set_same a.lens i x.len 0 (omega (arith, full.lens)))

  pub with_other : (f : Field) (j : ℕ) → j < slot_count → (j ≡ i → ⊥) → words_at (arrays_with f x i a) j ≡ words_at a j
  with_other Item j l n = rw (get_or-set_other a.items i j x.item (pos 0) n)
  with_other Limit j l n = rw (get_or-set_other a.limits i j x.limit (pos 0) n)
  with_other Requirements j l n = rw (row_other a.codes x.codes i low full.codes long j l n, get_or-set_other a.lens i j x.len 0 n)

  pub with_full : (f : Field) → Full (arrays_with f x i a)
  with_full Item = record { items = length-set a.items i x.item ∙ full.items; limits = full.limits; codes = full.codes; lens = full.lens }
  with_full Limit = record { items = full.items; limits = length-set a.limits i x.limit ∙ full.limits; codes = full.codes; lens = full.lens }
  with_full Requirements = record {
    items = full.items;
    limits = full.limits;
    codes = length-paste a.codes (entry_limit * i) x.codes entry_limit (omega (arith, full.codes)) (omega (arith, long)) ∙ full.codes;
    lens = length-set a.lens i x.len ∙ full.lens;
  }

-- ---- after a slot is made empty: its requirements, then its limit, then its item

module _ (a : Arrays) (full : Full a) (i : ℕ) (low : i < slot_count) where
  abbrev first : Arrays
  first = arrays_with Requirements no_words i a

  abbrev second : Arrays
  second = arrays_with Limit no_words i first

  full_1 : Full first
  full_1 = with_full no_words refl a full i low Requirements

  full_2 : Full second
  full_2 = with_full no_words refl first full_1 i low Limit

  pub emptied_own : words_at (emptied i a) i ≡ no_words
  emptied_own =
      with_own no_words refl second full_2 i low Item
      ∙ ap (changed_words Item no_words) (with_own no_words refl first full_1 i low Limit ∙ ap (changed_words Limit no_words) (with_own no_words refl a full i low Requirements))

  pub emptied_other : (j : ℕ) → j < slot_count → (j ≡ i → ⊥) → words_at (emptied i a) j ≡ words_at a j
  emptied_other j l n = with_other no_words refl second full_2 i low Item j l n ∙ with_other no_words refl first full_1 i low Limit j l n ∙ with_other no_words refl a full i low Requirements j l n

  pub emptied_full : Full (emptied i a)
  emptied_full = with_full no_words refl second full_2 i low Item

-- ---- after a show

module _ (t : Table) (u : ℕ) (a : Arrays) (full : Full a) where
  pub shown_full : (n : ℕ) → n ≤ slot_count → Full (first_shown t u n a)
  unfolding first_shown
  shown_full zero m = full
  shown_full (suc n) m = by (t u n).see (shown_full n (omega arith))
    where
      by : (b : Bool) → Full (first_shown t u n a) → Full (cond b (first_shown t u n a) (emptied n (first_shown t u n a)))
      by true k = k
      by false k = emptied_full (first_shown t u n a) k n m

  -- from the n-th on they stand as they are
  shown_rest : (n i : ℕ) → n ≤ i → i < slot_count → words_at (first_shown t u n a) i ≡ words_at a i
  unfolding first_shown
  shown_rest zero i l m = refl
  shown_rest (suc n) i l m = by (t u n).see (shown_rest n i (omega arith) m)
    where
      by : (b : Bool) → words_at (first_shown t u n a) i ≡ words_at a i → words_at (cond b (first_shown t u n a) (emptied n (first_shown t u n a))) i ≡ words_at a i
      by true e = e
      by false e = emptied_other (first_shown t u n a) (shown_full n (omega arith)) n (omega arith) i m (λ q. omega arith) ∙ e

  pub shown_first : (n i : ℕ) → i < n → n ≤ slot_count → words_at (first_shown t u n a) i ≡ cond (t u i).see (words_at a i) no_words
  unfolding first_shown
  shown_first zero i l m = absurd (omega arith)
  shown_first (suc n) i l m = by (dec_le (suc i) n) (t u n).see refl (λ k. shown_first n i k (omega arith))
    where
      eq : (i < n → ⊥) → i ≡ n
      eq k = omega arith

      by : Dec (i < n) → (b : Bool) → (t u n).see ≡ b → (i < n → words_at (first_shown t u n a) i ≡ cond (t u i).see (words_at a i) no_words)
          → words_at (cond b (first_shown t u n a) (emptied n (first_shown t u n a))) i ≡ cond (t u i).see (words_at a i) no_words
      by (yes k) true s ih = ih k
      by (yes k) false s ih = emptied_other (first_shown t u n a) (shown_full n (omega arith)) n (omega arith) i (omega arith) (λ q. omega arith) ∙ ih k
      by (no k) true s ih = let z : i ≡ n = eq k in rw (z, s) (shown_rest n n (omega arith) (omega arith))
      by (no k) false s ih = let z : i ≡ n = eq k in rw (z, s) (emptied_own (first_shown t u n a) (shown_full n (omega arith)) n (omega arith))
