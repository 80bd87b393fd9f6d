-- How many groups of seven bits a number takes, and that one at or past a limit is refused. Assumes nothing.
use Rattle.std.specs.Prelude.{◌≡◌, refl, Bool, true, false, cond, List, [], ◌∷◌, ◌++◌, ℕ, zero, suc, ◌+◌, ◌/◌, ◌%◌, ◌≤◌, ◌<◌, ltb, length}
use Rattle.std.proofs.Common.{sym, ◌∙◌, arith, ltb-true, ltb-false, lt-ltb, le-ltb}
use Rattle.model.specs.Limits.{wide16}
use Rattle.model.specs.Refusal.{bad_image}
use Rattle.model.specs.Reading.{Answer, got, refused, groups, under, number, word_to, word}
use Rattle.model.proofs.Laws.Reading.{same_groups}
use Rattle.image_numbers.specs.Told.{ShortWord}

-- a number that is not below the limit is refused, however large
pub read_over : (l n : ℕ) (s : List ℕ) → l ≤ n → number l (word n ++ s) ≡ refused bad_image
unfolding number word under
read_over l n s h = go (groups 5 (word_to 5 n ++ s)) refl
  where
    go : (a : Answer ℕ) → groups 5 (word_to 5 n ++ s) ≡ a → under l a ≡ refused bad_image
    go (got v r) e = rw (le-ltb v l (omega (arith, (same_groups 5 n s v r e).0)))
    go (refused k) e = refl

-- ---- lengths

word_len : (f n : ℕ) → length (word_to (suc f) n) ≡ cond (ltb n 128) 1 (suc (length (word_to f (n / 128))))
unfolding word_to
word_len f n = go (ltb n 128)
  where
    go : (t : Bool) → length (cond t (n ∷ []) ((n % 128 + 128) ∷ word_to f (n / 128))) ≡ cond t 1 (suc (length (word_to f (n / 128))))
    go true = refl
    go false = refl

-- one group more
longer : (f n k : ℕ) → 128 ≤ n → k ≡ length (word_to f (n / 128)) → suc k ≡ length (word_to (suc f) n)
longer f n k h e = sym (word_len f n ∙ rw (le-ltb n 128 h, ← e))

last : (f n : ℕ) → n < 128 → 1 ≡ length (word_to (suc f) n)
last f n h = sym (word_len f n ∙ rw (lt-ltb n 128 h))

pub word_1 : (n : ℕ) → n < 128 → 1 ≡ length (word n)
unfolding word
word_1 n h = last 4 n h

pub word_2 : (n : ℕ) → 128 ≤ n → n < 16384 → 2 ≡ length (word n)
unfolding word
word_2 n g h = longer 4 n 1 g (last 3 (n / 128) (omega arith))

pub word_3 : (n : ℕ) → 16384 ≤ n → n < 2097152 → 3 ≡ length (word n)
unfolding word
word_3 n g h = longer 4 n 2 (omega arith) (longer 3 (n / 128) 1 (omega arith) (last 2 (n / 128 / 128) (omega arith)))

pub word_4 : (n : ℕ) → 2097152 ≤ n → n < 268435456 → 4 ≡ length (word n)
unfolding word
word_4 n g h = longer 4 n 3 (omega arith) (longer 3 (n / 128) 2 (omega arith) (longer 2 (n / 128 / 128) 1 (omega arith) (last 1 (n / 128 / 128 / 128) (omega arith))))

pub word_5 : (n : ℕ) → 268435456 ≤ n → n < 34359738368 → 5 ≡ length (word n)
unfolding word
word_5 n g h =
    longer 4 n 4 (omega arith) (longer 3 (n / 128) 3 (omega arith) (longer 2 (n / 128 / 128) 2 (omega arith) (longer 1 (n / 128 / 128 / 128) 1 (omega arith) (last 0 (n / 128 / 128 / 128 / 128) (omega arith)))))

pub word_short : (n : ℕ) → length (word n) ≤ 5
unfolding word word_to
word_short n = go 5 n
  where
    go : (f n : ℕ) → length (word_to f n) ≤ f
    go zero n = omega arith
    go (suc f) n = by (ltb n 128) (go f (n / 128))
      where
        by : (t : Bool) → length (word_to f (n / 128)) ≤ f → length (cond t (n ∷ []) ((n % 128 + 128) ∷ word_to f (n / 128))) ≤ suc f
        by true h = omega arith
        by false h = omega arith

-- an element of an array takes three groups at most
pub short_word : (x r : ℕ) → x < wide16 → r ≡ length (word x) → ShortWord x r
short_word x r h e = record { is = e; short = go (ltb x 128) (ltb x 16384) refl refl; low = h }
  where
    go : (t u : Bool) → ltb x 128 ≡ t → ltb x 16384 ≡ u → r ≤ 3
    go true u p q = omega (arith, word_1 x (ltb-true x 128 p))
    go false true p q = omega (arith, word_2 x (ltb-false x 128 p) (ltb-true x 16384 q))
    go false false p q = omega (arith, word_3 x (ltb-false x 16384 q) (omega arith))
