-- What was read first, and numbers: reader and writer undo one another. Assumes nothing.
use Rattle.std.specs.Prelude.{◌≡◌, refl, Bool, true, false, cond, List, [], ◌∷◌, ◌++◌, ℕ, zero, suc, ◌+◌, ◌-◌, ◌*◌, ◌/◌, ◌%◌, ◌≤◌, ◌<◌, ltb, eqb, ℤ, pos, negsuc}
use Rattle.std.proofs.Common.{ap, sym, ◌∙◌, subst, arith, ltb-true, ltb-false, lt-ltb, le-ltb, eqb-true}
use Rattle.std.proofs.lemmas.Bool.{eqb-false}
use Rattle.model.specs.Limits.{wide}
use Rattle.model.specs.Refusal.{bad_image}
use Rattle.model.specs.Reading.{Answer, got, refused, onward, more, groups, under, number, word_to, word, zig, zag, room}

-- ---- answers

-- what was read first, where the whole was accepted
pub record Split {A B : Type 0} (a : Answer A) (k : A → List ℕ → Answer B) (y : B) (r : List ℕ) : Type 0 where
  pub value : A
  pub rest : List ℕ
  pub first : a ≡ got value rest
  pub then : k value rest ≡ got y r

pub refused≢got : {A : Type 0} {e : ℕ} {x : A} {r : List ℕ} → ◌≡◌ {A = Answer A} (refused e) (got x r) → ⊥
refused≢got p = let z : ◌≡◌ {A = ℕ} 0 1 = cc in omega arith

pub split : {A B : Type 0} (a : Answer A) (k : A → List ℕ → Answer B) {y : B} {r : List ℕ} → onward a k ≡ got y r → Split a k y r
split (got x s) k p = record { value = x; rest = s; first = refl; then = p }
split (refused e) k p = absurd (refused≢got p)

pub got_value : {A : Type 0} {x y : A} {r s : List ℕ} → ◌≡◌ {A = Answer A} (got x r) (got y s) → x ≡ y
got_value p = cc

pub got_rest : {A : Type 0} {x y : A} {r s : List ℕ} → ◌≡◌ {A = Answer A} (got x r) (got y s) → r ≡ s
got_rest p = cc

-- what holds of an answer holds of its other name
pub along : {A : Type 0} (P : A → List ℕ → Type 0) {x y : A} {r s : List ℕ} → ◌≡◌ {A = Answer A} (got x r) (got y s) → P x r → P y s
along P {x} {y} {r} {s} p h =
    let a : x ≡ y = got_value p in
    let b : r ≡ s = got_rest p in
    subst (P y) b (subst (λ (z : _). P z r) a h)

-- a test on the way to an acceptance held
pub passed : {A : Type 0} (b : Bool) (a : Answer A) (e : ℕ) (x : A) (r : List ℕ) → cond b a (refused e) ≡ got x r → (b ≡ true) × (a ≡ got x r)
passed true a e x r p = (refl, p)
passed false a e x r p = absurd (refused≢got p)

-- a reader that can only give x before s is followed by what comes after x and s
pub onto : {A B : Type 0} (a : Answer A) (k : A → List ℕ → Answer B) {x : A} {s : List ℕ} {y : B} {r : List ℕ}
    → ((v : A) (t : List ℕ) → a ≡ got v t → (v ≡ x) × (t ≡ s)) → onward a k ≡ got y r → k x s ≡ got y r
onto (got v t) k {x} {s} {y} {r} f p =
    let e = f v t refl in
    subst (λ (u : List ℕ). k x u ≡ got y r) e.1 (subst (λ (u : _). k u t ≡ got y r) e.0 p)
onto (refused e) k f p = absurd (refused≢got p)

-- so an answer is x before s, where it is made of these
pub only : {A : Type 0} {x y : A} {s r : List ℕ} → ◌≡◌ {A = Answer A} (got x s) (got y r) → (y ≡ x) × (r ≡ s)
only p = (sym (got_value p), sym (got_rest p))

-- ---- a number that was written reads back

pub more_of : (b v : ℕ) (r : List ℕ) → 0 < v → more b (got v r) ≡ got (b + 128 * v) r
unfolding more
more_of b zero r h = absurd (omega arith)
more_of b (suc v) r h = refl

-- one group more
pub read_more : (f n : ℕ) (s : List ℕ) → n < 128 * room f → (128 ≤ n → groups f (word_to f (n / 128) ++ s) ≡ got (n / 128) s) → groups (suc f) (word_to (suc f) n ++ s) ≡ got n s
unfolding groups word_to
read_more f n s h ih = go (ltb n 128) refl
  where
    go : (t : Bool) → ltb n 128 ≡ t → groups (suc f) (cond t (n ∷ []) ((n % 128 + 128) ∷ word_to f (n / 128)) ++ s) ≡ got n s
    go true e = rw e
    go false e =
        let l = ltb-false n 128 e in
        rw (le-ltb (n % 128 + 128) 128 (omega arith), lt-ltb (n % 128 + 128) 256 (omega arith))
        (ap (more (n % 128 + 128 - 128)) (ih l)
        ∙ more_of (n % 128 + 128 - 128) (n / 128) s (omega arith)
        ∙ ap (λ (x : ℕ). got x s) (omega arith))

pub read_groups : (f n : ℕ) (s : List ℕ) → n < room (suc f) → groups (suc f) (word_to (suc f) n ++ s) ≡ got n s
read_groups zero n s h = read_more zero n s h (λ l. absurd (omega arith))
read_groups (suc f) n s h = read_more (suc f) n s h (λ l. read_groups f (n / 128) s (omega arith))

pub read_word : (l n : ℕ) (s : List ℕ) → n < l → n < wide → number l (word n ++ s) ≡ got n s
unfolding number word under
read_word l n s h k = ap (under l) (read_groups 4 n s (omega arith)) ∙ rw (lt-ltb n l h)

-- ---- a number that was read is written as it was

pub record More (b : ℕ) (a : Answer ℕ) (n : ℕ) (r : List ℕ) : Type 0 where
  pub high : ℕ
  pub some : 0 < high
  pub was : a ≡ got high r
  pub is : n ≡ b + 128 * high

pub more_split : (b : ℕ) (a : Answer ℕ) (n : ℕ) (r : List ℕ) → more b a ≡ got n r → More b a n r
unfolding more
more_split b (got zero s) n r p = absurd (refused≢got p)
more_split b (got (suc v) s) n r p = record { high = suc v; some = omega arith; was = ap (got (suc v)) (got_rest p); is = sym (got_value p) }
more_split b (refused e) n r p = absurd (refused≢got p)

pub write_groups : (f : ℕ) (s : List ℕ) (n : ℕ) (r : List ℕ) → groups f s ≡ got n r → s ≡ word_to f n ++ r
unfolding groups word_to
write_groups zero s n r p = absurd (refused≢got p)
write_groups (suc f) [] n r p = absurd (refused≢got p)
write_groups (suc f) (b ∷ s) n r p = go (ltb b 128) (ltb b 256) refl refl (λ v. write_groups f s v r) p
  where
    go : (t u : Bool) → ltb b 128 ≡ t → ltb b 256 ≡ u → ((v : ℕ) → groups f s ≡ got v r → s ≡ word_to f v ++ r) → cond t (got b s) (cond u (more (b - 128) (groups f s)) (refused bad_image)) ≡ got n r → b ∷ s ≡ word_to (suc f) n ++ r
    go true u e d ih q = rw (← got_value q, ← got_rest q, e)
    go false false e d ih q = absurd (refused≢got q)
    go false true e d ih q =
        let m = more_split (b - 128) (groups f s) n r q in
        let i = m.is in
        let h = m.some in
        let lo = ltb-false b 128 e in
        let hi = ltb-true b 256 d in
        let x : n / 128 ≡ m.high = omega arith in
        let y : n % 128 + 128 ≡ b = omega arith in
        rw (le-ltb n 128 (omega arith), x, y) (ap (λ (l : List ℕ). b ∷ l) (ih m.high m.was))

pub under_split : (l : ℕ) (a : Answer ℕ) (n : ℕ) (r : List ℕ) → under l a ≡ got n r → (a ≡ got n r) × (n < l)
unfolding under
under_split l (got v s) n r p = go (ltb v l) refl p
  where
    go : (t : Bool) → ltb v l ≡ t → cond t (got v s) (refused bad_image) ≡ got n r → (got v s ≡ got n r) × (n < l)
    go true e q = (q, rw (← got_value q) (ltb-true v l e))
    go false e q = absurd (refused≢got q)
under_split l (refused e) n r p = absurd (refused≢got p)

-- bytes that read as n are the writing of n: there is no other form of it
pub write_number : (l : ℕ) (s : List ℕ) (n : ℕ) (r : List ℕ) → number l s ≡ got n r → s ≡ word n ++ r
unfolding number word
write_number l s n r p = write_groups 5 s n r (under_split l (groups 5 s) n r p).0

pub number_low : (l : ℕ) (s : List ℕ) (n : ℕ) (r : List ℕ) → number l s ≡ got n r → n < l
unfolding number
number_low l s n r p = (under_split l (groups 5 s) n r p).1

-- ---- the writing of any number, however large, reads as that number if it reads at all

pub same_groups : (f n : ℕ) (s : List ℕ) (v : ℕ) (r : List ℕ) → groups f (word_to f n ++ s) ≡ got v r → (v ≡ n) × (r ≡ s)
unfolding groups word_to
same_groups zero n s v r p = absurd (refused≢got p)
same_groups (suc f) n s v r p = go (ltb n 128) refl (λ x. same_groups f (n / 128) s x r) p
  where
    go : (t : Bool) → ltb n 128 ≡ t → ((x : ℕ) → groups f (word_to f (n / 128) ++ s) ≡ got x r → (x ≡ n / 128) × (r ≡ s)) → groups (suc f) (cond t (n ∷ []) ((n % 128 + 128) ∷ word_to f (n / 128)) ++ s) ≡ got v r → (v ≡ n) × (r ≡ s)
    go true e ih q =
        let d : got n s ≡ got v r = rw e at q in
        (sym (got_value d), sym (got_rest d))
    go false e ih q =
        let l = ltb-false n 128 e in
        let d : more (n % 128 + 128 - 128) (groups f (word_to f (n / 128) ++ s)) ≡ got v r
        = rw (le-ltb (n % 128 + 128) 128 (omega arith), lt-ltb (n % 128 + 128) 256 (omega arith)) at q in
        let m = more_split (n % 128 + 128 - 128) (groups f (word_to f (n / 128) ++ s)) v r d in
        let h = ih m.high m.was in
        let h₀ = h.0 in
        let i = m.is in
        (omega arith, h.1)

pub same_number : (l n : ℕ) (s : List ℕ) (v : ℕ) (r : List ℕ) → number l (word n ++ s) ≡ got v r → (v ≡ n) × (r ≡ s)
unfolding number word
same_number l n s v r p = same_groups 5 n s v r (under_split l (groups 5 (word_to 5 n ++ s)) v r p).0

-- ---- signed numbers

pub zag_zig : (z : ℤ) → zag (zig z) ≡ z
unfolding zag zig
zag_zig (pos n) = let a : 2 * n % 2 ≡ 0 = omega arith in let b : 2 * n / 2 ≡ n = omega arith in rw (a, b)
zag_zig (negsuc n) = let a : (2 * n + 1) % 2 ≡ 1 = omega arith in let b : (2 * n + 1) / 2 ≡ n = omega arith in rw (a, b)

pub zig_zag : (n : ℕ) → zig (zag n) ≡ n
unfolding zag zig
zig_zag n = go (eqb (n % 2) 0) refl
  where
    go : (t : Bool) → eqb (n % 2) 0 ≡ t → zig (cond t (pos (n / 2)) (negsuc (n / 2))) ≡ n
    go true e = let h = eqb-true (n % 2) 0 e in omega arith
    go false e = let h = eqb-false (n % 2) 0 e in omega arith
