-- A list that is read piece by piece: what was seen, and what is left. Assumes nothing.
use Rattle.std.specs.Prelude.{◌≡◌, List, [], ◌∷◌, ◌++◌, ℕ, suc, ◌+◌, ◌-◌, ◌≤◌, ◌<◌, length}
use Rattle.std.proofs.Common.{ap, ◌∙◌, append-nil, arith}
use Rattle.model.specs.Reading.{Answer, got, refused, onward}
use Rattle.image_numbers.specs.Answers.{seen_more, seen_none}

-- of h pieces from the first on i were read, and led from state s to state u and from byte at to byte p
pub record Part {A S : Type 0} (many : ℕ → S → List ℕ → Answer (List A)) (pieces : ℕ → ℕ → List ℕ) (h first : ℕ) (s : S) (at i : ℕ) (u : S) (p : ℕ) : Type 0 where
  pub seen : List A
  pub reads : (t : List ℕ) → many h s (pieces h first ++ t) ≡ onward (many (h - i) u (pieces (h - i) (first + i) ++ t)) (λ ys r. got (seen ++ ys) r)
  pub bytes : p + length (pieces (h - i) (first + i)) ≡ at + length (pieces h first)

-- what the next piece leads to
pub record Next {A S : Type 0} (many : ℕ → S → List ℕ → Answer (List A)) (pieces : ℕ → ℕ → List ℕ) (c f : ℕ) (x : A) (s : S) (at : ℕ) (u : S) (p : ℕ) : Type 0 where
  pub reads : (t : List ℕ) → many (suc c) s (pieces (suc c) f ++ t) ≡ onward (many c u (pieces c (suc f) ++ t)) (λ xs r. got (x ∷ xs) r)
  pub bytes : p + length (pieces c (suc f)) ≡ at + length (pieces (suc c) f)

module _ {A S : Type 0} (many : ℕ → S → List ℕ → Answer (List A)) (pieces : ℕ → ℕ → List ℕ) (h first : ℕ) (s : S) (at : ℕ) where
  abbrev pub part_start : Part many pieces h first s at 0 s at
  part_start =
      let e : h - 0 ≡ h = omega arith in
      let f : first + 0 ≡ first = omega arith in
      record {
        seen = [];
        reads = λ t. rw (e, f) (seen_none (many h s (pieces h first ++ t)));
        bytes = rw (e, f);
      }

  module _ {i : ℕ} {u : S} {p : ℕ} (P : Part many pieces h first s at i u p) (lt : i < h) where
    abbrev pub part_next : {v : S} {q : ℕ} (x : A) → Next many pieces (h - (i + 1)) (first + i) x u p v q → Part many pieces h first s at (i + 1) v q
    part_next {v} {q} x N =
        let e : h - i ≡ suc (h - (i + 1)) = omega arith in
        let f : first + (i + 1) ≡ suc (first + i) = omega arith in
        let b : p + length (pieces (suc (h - (i + 1))) (first + i)) ≡ at + length (pieces h first) = rw e at P.bytes in
        record {
          seen = P.seen ++ x ∷ [];
          reads = λ t. P.reads t ∙ rw (e, f) (ap (λ (a : Answer (List A)). onward a (λ ys r. got (P.seen ++ ys) r)) (N.reads t) ∙ seen_more (many (h - (i + 1)) v (pieces (h - (i + 1)) (suc (first + i)) ++ t)) P.seen x);
          bytes = rw f (omega (arith, N.bytes, b));
        }

    pub part_no : {e : ℕ} → ((t : List ℕ) → many (suc (h - (i + 1))) u (pieces (suc (h - (i + 1))) (first + i) ++ t) ≡ refused e) → (t : List ℕ) → many h s (pieces h first ++ t) ≡ refused e
    part_no N t =
        let e : h - i ≡ suc (h - (i + 1)) = omega arith in
        P.reads t ∙ rw e (ap (λ (a : Answer (List A)). onward a (λ ys r. got (P.seen ++ ys) r)) (N t))

  module _ {i : ℕ} {u : S} {p : ℕ} (P : Part many pieces h first s at i u p) (ge : h ≤ i) (none : (t : List ℕ) → many 0 u (pieces 0 (first + i) ++ t) ≡ got [] t) where
    pub part_done : (t : List ℕ) → many h s (pieces h first ++ t) ≡ got P.seen t
    part_done t =
        let e : h - i ≡ 0 = omega arith in
        P.reads t ∙ rw e (ap (λ (a : Answer (List A)). onward a (λ ys r. got (P.seen ++ ys) r)) (none t) ∙ ap (λ (l : List A). got l t) (append-nil P.seen))

    pub part_bytes : length (pieces 0 (first + i)) ≡ 0 → p ≡ at + length (pieces h first)
    part_bytes z =
        let e : h - i ≡ 0 = omega arith in
        let b : p + length (pieces 0 (first + i)) ≡ at + length (pieces h first) = rw e at P.bytes in
        omega arith
