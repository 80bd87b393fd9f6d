-- Pieces of an image that are judged one after the other are judged together. Assumes nothing.
use Rattle.std.specs.Prelude.{◌≡◌, refl, List, ◌++◌, ℕ, ◌+◌, ◌*◌, ◌≤◌, ◌<◌, length, Ok, Err}
use Rattle.std.proofs.Common.{◌∙◌, append_assoc}
use native.Mathlib.Omega.{arith}
use Rattle.std.proofs.Math.ListN.{length-append}
use Rattle.model.specs.Limits.{wide}
use Rattle.model.specs.Reading.{Answer, got, refused, onward, number, word}
use Rattle.model.proofs.Laws.Reading.{read_word}
use Rattle.model.specs.Refusals.{refusal_number}
use Rattle.model.specs.declared.Refusal.{Refusal}
use Rattle.judge_terms.specs.Told.{Step, Good, Says, Told}

-- what a step says, by its case
pub fine : {A : Type 0} {f : List ℕ → Answer A} {size : A → ℕ} {w : List ℕ} {l x n at m to : ℕ} → Good f size w l x n at m to → Told f size w l x n at (Ok (m, to))
unfolding Says
fine p = record { says = p }

pub none : {A : Type 0} {f : List ℕ → Answer A} {size : A → ℕ} {w : List ℕ} {l x n at : ℕ} {e : Refusal} → ((t : List ℕ) → f (w ++ t) ≡ refused (refusal_number e)) → Told f size w l x n at (Err e)
unfolding Says
none p = record { says = p }

pub good_of : {A : Type 0} {f : List ℕ → Answer A} {size : A → ℕ} {w : List ℕ} {l x n at m to : ℕ} {r : Step} → Told f size w l x n at r → r ≡ Ok (m, to) → Good f size w l x n at m to
unfolding Says
good_of p e = rw e at p.says

pub no_of : {A : Type 0} {f : List ℕ → Answer A} {size : A → ℕ} {w : List ℕ} {l x n at : ℕ} {e : Refusal} {r : Step} → Told f size w l x n at r → r ≡ Err e → (t : List ℕ) → f (w ++ t) ≡ refused (refusal_number e)
unfolding Says
no_of p e = rw e at p.says

module _ {A : Type 0} where
  -- the same answers, counted from elsewhere
  pub moved : {f : List ℕ → Answer A} {size : A → ℕ} {w : List ℕ} {l x n at : ℕ} {r : Step} (g : List ℕ → Answer A) (size' : A → ℕ) (w' : List ℕ) (l' x' n' at' : ℕ)
      → ((t : List ℕ) → g (w' ++ t) ≡ f (w ++ t)) → ((a : A) → n' + size' a ≡ n + size a) → l ≤ l' → at' + length w' ≡ at + length w → at + x + 6 * n' ≤ at' + x' + 6 * n
      → Told f size w l x n at r → Told g size' w' l' x' n' at' r
  unfolding Says
  moved {f} {size} {w} {l} {x} {n} {at} {r} g size' w' l' x' n' at' same en el eb es p = record { says = go r p.says }
    where
      go : (r : Step) → Says f size w l x n at r → Says g size' w' l' x' n' at' r
      go (Ok (m, to)) q =
          let c = q.counted in
          let o = q.low in
          let y = q.bytes in
          let s = q.short in
          let z = en q.value in
          record { value = q.value; reads = λ t. same t ∙ q.reads t; counted = omega arith; low = omega arith; bytes = omega arith; short = omega arith }
      go (Err k) q = λ t. same t ∙ q t

  -- a code before what follows it
  pub headed : (h : ℕ → List ℕ → Answer A) {size : A → ℕ} {w : List ℕ} {l x n : ℕ} {r : Step} (at lim c y : ℕ) → c < lim → c < wide → y ≡ length (word c)
      → Told (h c) size w l x n (at + y) r → Told (λ s. onward (number lim s) h) size (word c ++ w) l (x + y) n at r
  headed h {size} {w} {l} {x} {n} at lim c y lt wd ey p =
      moved (λ s. onward (number lim s) h) size (word c ++ w) l (x + y) n at
      (λ t. rw (append_assoc, read_word lim c (w ++ t) lt wd)) (λ a. refl) (omega arith) (omega (arith, length-append (word c) w)) (omega arith) p

  -- bounds need not be the least
  pub looser : {f : List ℕ → Answer A} {size : A → ℕ} {w : List ℕ} {l x n at : ℕ} {r : Step} (l' x' : ℕ) → l ≤ l' → x ≤ x' → Told f size w l x n at r → Told f size w l' x' n at r
  looser {f} {size} {w} {l} {x} {n} {at} l' x' el ex p = moved f size w l' x' n at (λ t. refl) (λ a. refl) el refl (omega arith) p

module _ {A B : Type 0} where
  -- what was read, wrapped
  pub wrapped : {f : List ℕ → Answer A} {size : A → ℕ} {w : List ℕ} {l x n at : ℕ} {r : Step} (size' : B → ℕ) (mk : A → B) → ((a : A) → size' (mk a) ≡ size a)
      → Told f size w l x n at r → Told (λ s. onward (f s) (λ a u. got (mk a) u)) size' w l x n at r
  unfolding Says
  wrapped {f} {size} {w} {l} {x} {n} {at} {r} size' mk e p = record { says = go r p.says }
    where
      go : (r : Step) → Says f size w l x n at r → Says (λ s. onward (f s) (λ a u. got (mk a) u)) size' w l x n at r
      go (Ok (m, to)) q =
          let c = q.counted in
          let z = e q.value in
          record { value = mk q.value; reads = λ t. rw (q.reads t); counted = omega arith; low = q.low; bytes = q.bytes; short = q.short }
      go (Err k) q = λ t. rw (q t)

  -- where the first of two is refused
  pub first_no : (f : List ℕ → Answer A) (w : List ℕ) {k : ℕ} (g : A → List ℕ → Answer B) (v : List ℕ) → ((t : List ℕ) → f (w ++ t) ≡ refused k)
      → (t : List ℕ) → onward (f ((w ++ v) ++ t)) g ≡ refused k
  first_no f w g v q t = rw (append_assoc, q (v ++ t))

module _ {A B C : Type 0} where
  -- one after the other
  pub paired : {f : List ℕ → Answer A} {size : A → ℕ} {w : List ℕ} {l x n at m p : ℕ} (P : Good f size w l x n at m p)
      (g : A → List ℕ → Answer B) {size₂ : B → ℕ} {w₂ : List ℕ} {x₂ : ℕ} {r : Step} (size₃ : C → ℕ) (mk : A → B → C)
      → ((b : B) → size₃ (mk P.value b) ≡ size P.value + size₂ b)
      → Told (g P.value) size₂ w₂ l x₂ m p r
      → Told (λ s. onward (f s) (λ a u. onward (g a u) (λ b v. got (mk a b) v))) size₃ (w ++ w₂) l (x + x₂) n at r
  unfolding Says
  paired {f} {size} {w} {l} {x} {n} {at} {m} {p} P g {size₂} {w₂} {x₂} {r} size₃ mk e Q = record { says = go r Q.says }
    where
      go : (r : Step) → Says (g P.value) size₂ w₂ l x₂ m p r → Says (λ s. onward (f s) (λ a u. onward (g a u) (λ b v. got (mk a b) v))) size₃ (w ++ w₂) l (x + x₂) n at r
      go (Ok (o, to)) q =
          let a₁ = P.counted in
          let b₁ = P.bytes in
          let s₁ = P.short in
          let a₂ = q.counted in
          let b₂ = q.bytes in
          let s₂ = q.short in
          let z = e q.value in
          record {
            value = mk P.value q.value;
            reads = λ t. rw (append_assoc, P.reads (w₂ ++ t), q.reads t);
            counted = omega arith;
            low = q.low;
            bytes = omega (arith, length-append w w₂);
            short = omega arith;
          }
      go (Err k) q = λ t. rw (append_assoc, P.reads (w₂ ++ t), q t)
