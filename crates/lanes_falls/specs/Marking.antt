-- Links marked one after the other as long as they are below a number, and what the loops keep. Assumes nothing.
use Rattle.std.specs.Prelude.{◌≡◌, refl, Bool, true, false, ◌&&◌, List, [], ◌∷◌, ℕ, zero, suc, ◌+◌, ◌-◌, ◌*◌, ◌≤◌, ◌<◌, ltb, get_or, set}
use Rattle.std.proofs.Common.{sym, ap, ◌∙◌, true≢false, arith, ne_eqb}
use Rattle.std.proofs.Math.Option.{Option, none, some}
use Rattle.model.specs.Limits.{command_limit}
use Rattle.model.specs.Memory.{link_in}
use Rattle.model.specs.Sheet.{all}
use Rattle.reclaim_model.specs.Rename.{with_link}
use Rattle.reclaim_model.specs.Reclaim.{mark_roots}
use Rattle.reclaim_reach.specs.Words.{names_block, target_by, target_at, targets_at, links_by, links_at}

-- r says whether all of ks are below n; where they are, they are marked
pub record Marking (n : ℕ) (ks : List ℕ) (ms : List Bool) (r : Bool) (ms' : List Bool) : Type 0 where
  pub is : r ≡ all (λ k. ltb k n) ks
  pub marks : r ≡ true → ms' ≡ mark_roots ks ms

-- the commands of block b lie in their array, as those of a judged record do
abbrev pub Fits : List ℕ → ℕ → Type 0
Fits bw b = get_or bw (5 * b) 0 ≡ 1 → (j : ℕ) → j < get_or bw (5 * b + 2) 0 → get_or bw (5 * b + 1) 0 + j < command_limit

-- ---- one link

pub marking_none : (n : ℕ) (ms : List Bool) → Marking n [] ms true ms
marking_none n ms = record { is = refl; marks = λ e. refl }

module _ (cw : List ℕ) (i n : ℕ) {ms ms' : List Bool} {r : Bool} where
  -- Goto, If and EndIf
  pub target_some : (k : ℕ) → get_or cw (4 * i) 0 ≡ k → names_block k ≡ true → Marking n (get_or cw (4 * i + 3) 0 ∷ []) ms r ms' → Marking n (with_link (target_at cw i) []) ms r ms'
  unfolding target_by
  target_some k e t g = rw (e, t) g

pub target_none : (cw : List ℕ) (i n : ℕ) (ms : List Bool) → (get_or cw (4 * i) 0 ≡ 1 → ⊥) → (get_or cw (4 * i) 0 ≡ 3 → ⊥) → (get_or cw (4 * i) 0 ≡ 4 → ⊥) → Marking n (with_link (target_at cw i) []) ms true ms
unfolding target_by names_block
target_none cw i n ms p q s = rw (ne_eqb _ 1 p, ne_eqb _ 3 q, ne_eqb _ 4 s) (marking_none n ms)

-- of a kind that is one of them
pub names_it : (k : ℕ) → ((k ≡ 1 → ⊥) → (k ≡ 3 → ⊥) → (k ≡ 4 → ⊥) → ⊥) → names_block k ≡ true
unfolding names_block
names_it zero f = absurd (f (λ e. omega arith) (λ e. omega arith) (λ e. omega arith))
names_it (suc zero) f = refl
names_it (suc (suc zero)) f = absurd (f (λ e. omega arith) (λ e. omega arith) (λ e. omega arith))
names_it (suc (suc (suc zero))) f = refl
names_it (suc (suc (suc (suc zero)))) f = refl
names_it (suc (suc (suc (suc (suc k))))) f = absurd (f (λ e. omega arith) (λ e. omega arith) (λ e. omega arith))

-- ---- a link and those after it

set_twice : (ms : List Bool) (j k : ℕ) → set (set ms j true) k true ≡ set (set ms k true) j true
set_twice [] j k = refl
set_twice (m ∷ ms) zero zero = refl
set_twice (m ∷ ms) zero (suc k) = refl
set_twice (m ∷ ms) (suc j) zero = refl
set_twice (m ∷ ms) (suc j) (suc k) = ap (λ r. m ∷ r) (set_twice ms j k)

-- marks may be set in any order
mark_first : (ks : List ℕ) (ms : List Bool) (k : ℕ) → mark_roots ks (set ms k true) ≡ set (mark_roots ks ms) k true
mark_first [] ms k = refl
mark_first (j ∷ ks) ms k = ap (λ xs. set xs j true) (mark_first ks ms k) ∙ set_twice (mark_roots ks ms) k j

module _ (n : ℕ) (ks : List ℕ) {ms ms₁ : List Bool} where
  pub marking_then : {ms₂ : List Bool} {r : Bool} (o : Option ℕ) (t : Bool) → t ≡ true → Marking n (with_link o []) ms t ms₁ → Marking n ks ms₁ r ms₂ → Marking n (with_link o ks) ms r ms₂
  marking_then {ms₂} {r} none t e f g = record { is = g.is; marks = λ u. g.marks u ∙ ap (mark_roots ks) (f.marks e) }
  marking_then {ms₂} {r} (some k) t e f g = record {
    is = g.is ∙ rw (low k (sym e ∙ f.is));
    marks = λ u. g.marks u ∙ ap (mark_roots ks) (f.marks e) ∙ mark_first ks ms k;
  }
    where
      low : (k : ℕ) → true ≡ ltb k n && true → ltb k n ≡ true
      low k q = by (ltb k n) q
        where
          by : (x : Bool) → true ≡ x && true → x ≡ true
          by true q = refl
          by false q = sym q

  pub marking_stop : (o : Option ℕ) (t : Bool) → t ≡ false → Marking n (with_link o []) ms t ms₁ → Marking n (with_link o ks) ms false ms₁
  marking_stop none t e f = absurd (true≢false (sym f.is ∙ e))
  marking_stop (some k) t e f = record { is = rw (high k (sym e ∙ f.is)); marks = λ u. absurd (true≢false (sym u)) }
    where
      high : (k : ℕ) → false ≡ ltb k n && true → ltb k n ≡ false
      high k q = by (ltb k n) q
        where
          by : (x : Bool) → false ≡ x && true → x ≡ false
          by true q = sym q
          by false q = refl

-- ---- the targets of a block, after i of its commands

pub record TargetsLeft (cw : List ℕ) (n first held f count i : ℕ) (ms₀ ms : List Bool) : Type 0 where
  pub from : f ≡ first
  pub many : count ≡ held
  -- what is left decides, and marks the rest
  pub rest : (r : Bool) (ms' : List Bool) → Marking n (targets_at cw (count - i) (f + i)) ms r ms' → Marking n (targets_at cw held first) ms₀ r ms'

module _ (cw : List ℕ) (n first held f count : ℕ) (ms₀ : List Bool) where
  module _ (i : ℕ) {ms : List Bool} (s : TargetsLeft cw n first held f count i ms₀ ms) where
    targets_next : i < count → (r : Bool) (ms' : List Bool) → Marking n (with_link (target_at cw (f + i)) (targets_at cw (count - (i + 1)) (f + (i + 1)))) ms r ms' → Marking n (targets_at cw held first) ms₀ r ms'
    targets_next l r ms' g = s.rest r ms' (by (count - i) (omega arith) (f + (i + 1)) (omega arith) g)
      where
        by : (h : ℕ) → h ≡ suc (count - (i + 1)) → (c : ℕ) → c ≡ suc (f + i) → Marking n (with_link (target_at cw (f + i)) (targets_at cw (count - (i + 1)) c)) ms r ms' → Marking n (targets_at cw h (f + i)) ms r ms'
        by h e c d g = unfold targets_at in rw (e, targets_at) (rw d at g)

    pub targets_step : (t : Bool) {ms₁ : List Bool} → i < count → t ≡ true → Marking n (with_link (target_at cw (f + i)) []) ms t ms₁ → TargetsLeft cw n first held f count (i + 1) ms₀ ms₁
    targets_step t l e g = record {
      from = s.from;
      many = s.many;
      rest = λ r ms' w. targets_next l r ms' (marking_then n (targets_at cw (count - (i + 1)) (f + (i + 1))) (target_at cw (f + i)) t e g w);
    }

    pub targets_stop : (t : Bool) {ms₁ : List Bool} → i < count → t ≡ false → Marking n (with_link (target_at cw (f + i)) []) ms t ms₁ → Marking n (targets_at cw held first) ms₀ false ms₁
    targets_stop t {ms₁} l e g = targets_next l false ms₁ (marking_stop n (targets_at cw (count - (i + 1)) (f + (i + 1))) (target_at cw (f + i)) t e g)

    pub targets_done : count ≤ i → Marking n (targets_at cw held first) ms₀ true ms
    targets_done l = s.rest true ms (by (count - i) (omega arith))
      where
        by : (h : ℕ) → h ≡ 0 → Marking n (targets_at cw h (f + i)) ms true ms
        by h e = unfold targets_at in rw (e, targets_at) (marking_none n ms)

-- ---- a block

pub links_none : (cw bw : List ℕ) (b n : ℕ) (ms : List Bool) → (get_or bw (5 * b) 0 ≡ 1 → ⊥) → Marking n (links_at cw bw b) ms true ms
unfolding links_at links_by
links_none cw bw b n ms d = by (get_or bw (5 * b) 0) d
  where
    by : (k : ℕ) → (k ≡ 1 → ⊥) → Marking n (links_by cw bw b k) ms true ms
    by zero d = marking_none n ms
    by (suc zero) d = absurd (d refl)
    by (suc (suc k)) d = marking_none n ms

module _ (cw bw : List ℕ) (b n : ℕ) (is : get_or bw (5 * b) 0 ≡ 1) (ms : List Bool) where
  abbrev next : Option ℕ
  next = link_in (get_or bw (5 * b + 3) 0)

  abbrev other : Option ℕ
  other = link_in (get_or bw (5 * b + 4) 0)

  abbrev rest : List ℕ
  rest = targets_at cw (get_or bw (5 * b + 2) 0) (get_or bw (5 * b + 1) 0)

  links_code : (r : Bool) (ms' : List Bool) → Marking n (with_link next (with_link other rest)) ms r ms' → Marking n (links_at cw bw b) ms r ms'
  unfolding links_at links_by
  links_code r ms' g = rw is g

  pub next_high : (t : Bool) {ms₁ : List Bool} → t ≡ false → Marking n (with_link (link_in (get_or bw (5 * b + 3) 0)) []) ms t ms₁ → Marking n (links_at cw bw b) ms false ms₁
  next_high t {ms₁} e f = links_code false ms₁ (marking_stop n (with_link other rest) next t e f)

  pub other_high : (t u : Bool) {ms₁ ms₂ : List Bool} → t ≡ true → u ≡ false → Marking n (with_link (link_in (get_or bw (5 * b + 3) 0)) []) ms t ms₁ → Marking n (with_link (link_in (get_or bw (5 * b + 4) 0)) []) ms₁ u ms₂
      → Marking n (links_at cw bw b) ms false ms₂
  other_high t u {ms₁} {ms₂} e d f g = links_code false ms₂ (marking_then n (with_link other rest) next t e f (marking_stop n rest other u d g))

  pub links_all : (t u r : Bool) {ms₁ ms₂ ms₃ : List Bool} → t ≡ true → u ≡ true → Marking n (with_link (link_in (get_or bw (5 * b + 3) 0)) []) ms t ms₁ → Marking n (with_link (link_in (get_or bw (5 * b + 4) 0)) []) ms₁ u ms₂
      → Marking n (targets_at cw (get_or bw (5 * b + 2) 0) (get_or bw (5 * b + 1) 0)) ms₂ r ms₃ → Marking n (links_at cw bw b) ms r ms₃
  links_all t u r {ms₁} {ms₂} {ms₃} e d f g w = links_code r ms₃ (marking_then n (with_link other rest) next t e f (marking_then n rest other u d g w))
