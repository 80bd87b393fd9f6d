-- The stack of a walk in an array, two words an entry: a block, and the number under which it is reached; what is pushed on it, its top, and a block read as marked or as code. Assumes nothing.
use Rattle.std.specs.Prelude.{◌≡◌, refl, Bool, true, false, cond, List, [], ◌∷◌, ℕ, zero, suc, ◌+◌, ◌*◌, ◌-◌, ◌≤◌, ◌<◌, length, get_or, set, take, ltb, eqb}
use Rattle.std.proofs.Common.{ap, ◌∙◌, add-one, arith, length-set, get_or-set_same, get_or-set_other, lt-ltb, le-ltb}
use Rattle.std.proofs.Math.Option.{Option, none, some}
use Rattle.model.specs.Memory.{link_in}
use Rattle.reach.specs.Dfs.{Entry, entry, Ways, nowhere, to, to_both, ways_by, pushed}

-- d entries, the top first
unfoldable pub stack_of : List ℕ → ℕ → List (Entry ℕ)
stack_of w zero = []
stack_of w (suc d) = entry (get_or w (2 * d) 0) (get_or w (2 * d + 1) 0) ∷ stack_of w d

-- how many there are without the marked ones at the top
unfoldable pub top_of : List Bool → List ℕ → ℕ → ℕ
top_of ms w zero = 0
top_of ms w (suc d) = cond (get_or ms (get_or w (2 * d) 0) false) (top_of ms w d) (suc d)

-- next and else as they stand in a block, with the numbers of their conditions
abbrev pub ways : ℕ → ℕ → ℕ → ℕ → Ways ℕ
ways nx c el d = ways_by (link_in nx) (link_in el) c d

abbrev pub grows : Ways ℕ → ℕ
grows nowhere = 0
grows (to k) = 1
grows (to_both k j) = 2

-- what pushing leaves
pub record Pushed (w : List ℕ) (d : ℕ) (x : Ways ℕ) (w' : List ℕ) (r : ℕ) : Type 0 where
  pub is : stack_of w' r ≡ pushed x (stack_of w d)
  pub most : r ≤ d + grows x

abbrev pub is_code_at : List ℕ → ℕ → ℕ → Bool
is_code_at bw nb b = cond (ltb b nb) (eqb (get_or bw (5 * b) 0) 1) false

-- ---- pushing

stack_same : (w v : List ℕ) (d : ℕ) → ((i : ℕ) → i < 2 * d → get_or v i 0 ≡ get_or w i 0) → stack_of v d ≡ stack_of w d
unfolding stack_of
stack_same w v zero h = refl
stack_same w v (suc d) h = rw (h (2 * d) (omega arith), h (2 * d + 1) (omega arith), stack_same w v d (λ i p. h i (omega arith)))

stack_push : (w : List ℕ) (d b c : ℕ) → 2 * d + 1 < length w → stack_of (set (set w (2 * d) b) (2 * d + 1) c) (d + 1) ≡ entry b c ∷ stack_of w d
unfolding stack_of
stack_push w d b c h =
    rw (add-one d)
    (rw (
      get_or-set_same (set w (2 * d) b) (2 * d + 1) c 0 (omega (arith, length-set w (2 * d) b)),
      get_or-set_other (set w (2 * d) b) (2 * d + 1) (2 * d) c 0 (omega arith),
      get_or-set_same w (2 * d) b 0 (omega arith),
      stack_same w (set (set w (2 * d) b) (2 * d + 1) c) d (λ i p. get_or-set_other (set w (2 * d) b) (2 * d + 1) i c 0 (omega arith) ∙ get_or-set_other w (2 * d) i b 0 (omega arith)),
    ))

pub push_entry : (w : List ℕ) (d b c : ℕ) → 2 * d + 2 ≤ length w → Pushed w d (to (entry b c)) (set (set w (2 * d) b) (2 * d + 1) c) (d + 1)
push_entry w d b c h = record { is = stack_push w d b c (omega arith); most = omega arith }

link_some : (n : ℕ) → (n ≡ 0 → ⊥) → link_in n ≡ some (n - 1)
link_some zero h = absurd (h refl)
link_some (suc k) h = let e : suc k - 1 ≡ k = omega arith in rw e

module _ (w : List ℕ) (d nx c el e : ℕ) where
  pub push_none : nx ≡ 0 → Pushed w d (ways nx c el e) w d
  push_none h = rw h (record { is = refl; most = omega arith })

  pub push_next : (v : List ℕ) (r : ℕ) → (nx ≡ 0 → ⊥) → el ≡ 0 → Pushed w d (to (entry (nx - 1) c)) v r → Pushed w d (ways nx c el e) v r
  push_next v r h k p = rw (link_some nx h, k) p

  pub push_both : (u v : List ℕ) (m r : ℕ) → (nx ≡ 0 → ⊥) → (el ≡ 0 → ⊥) → Pushed w d (to (entry (el - 1) e)) u m
      → Pushed u m (to (entry (nx - 1) c)) v r → Pushed w d (ways nx c el e) v r
  push_both u v m r h k p q = rw (link_some nx h, link_some el k) (record {
    is = q.is ∙ ap (λ l. entry (nx - 1) c ∷ l) p.is;
    most = omega (arith, p.most, q.most);
  })

-- ---- a block past the last is neither marked nor code

pub take_past : (n b : ℕ) (l : List Bool) → n ≤ b → get_or (take n l) b false ≡ false
take_past zero b l h = refl
take_past (suc n) b [] h = refl
take_past (suc n) zero (x ∷ l) h = absurd (omega arith)
take_past (suc n) (suc b) (x ∷ l) h = take_past n b l (omega arith)

module _ (bw : List ℕ) (nb b : ℕ) where
  pub code_past : nb ≤ b → false ≡ is_code_at bw nb b
  code_past h = rw (le-ltb b nb h)

  pub code_read : b < nb → eqb (get_or bw (5 * b) 0) 1 ≡ is_code_at bw nb b
  code_read h = rw (lt-ltb b nb h)

-- ---- the top

top_step : (ms : List Bool) (w : List ℕ) (d : ℕ) → 0 < d → top_of ms w d ≡ cond (get_or ms (get_or w (2 * (d - 1)) 0) false) (top_of ms w (d - 1)) d
unfolding top_of
top_step ms w zero h = absurd (omega arith)
top_step ms w (suc d) h = let e : suc d - 1 ≡ d = omega arith in rw e

module _ (ms : List Bool) (w : List ℕ) (d : ℕ) (m : Bool) (h : 0 < d) (f : m ≡ get_or ms (get_or w (2 * (d - 1)) 0) false) where
  pub top_here : m ≡ false → top_of ms w d ≡ d
  top_here z = top_step ms w d h ∙ rw (← f, z)

  pub top_skip : m ≡ true → top_of ms w d ≡ top_of ms w (d - 1)
  top_skip z = top_step ms w d h ∙ rw (← f, z)

pub top_most : (ms : List Bool) (w : List ℕ) (d : ℕ) → top_of ms w d ≤ d
unfolding top_of
top_most ms w zero = omega arith
top_most ms w (suc d) = by (get_or ms (get_or w (2 * d) 0) false) (top_most ms w d)
  where
    by : (t : Bool) → top_of ms w d ≤ d → cond t (top_of ms w d) (suc d) ≤ suc d
    by true h = omega arith
    by false h = omega arith

pub top_free : (ms : List Bool) (w : List ℕ) (d k : ℕ) → top_of ms w d ≡ suc k → get_or ms (get_or w (2 * k) 0) false ≡ false
unfolding top_of
top_free ms w zero k e = absurd (omega arith)
top_free ms w (suc d) k e = by (get_or ms (get_or w (2 * d) 0) false) refl e (λ z. top_free ms w d k z)
  where
    by : (t : Bool) → get_or ms (get_or w (2 * d) 0) false ≡ t → cond t (top_of ms w d) (suc d) ≡ suc k → (top_of ms w d ≡ suc k → get_or ms (get_or w (2 * k) 0) false ≡ false)
        → get_or ms (get_or w (2 * k) 0) false ≡ false
    by true z e h = h e
    by false z e h = let q : k ≡ d = omega arith in rw q z

-- ---- the numbers of the entries

-- each number is one of j cells
abbrev pub AllLow : ℕ → List (Entry ℕ) → Type 0
AllLow j [] = Unit {0}
AllLow j (e ∷ es) = (e.under ≤ 2 * j) × AllLow j es

low_more : (j k : ℕ) (es : List (Entry ℕ)) → j ≤ k → AllLow j es → AllLow k es
low_more j k [] l a = tt
low_more j k (e ∷ es) l a = (let u = a.0 in omega arith, low_more j k es l a.1)

pub low_top : (ms : List Bool) (w : List ℕ) (j d : ℕ) → AllLow j (stack_of w d) → AllLow j (stack_of w (top_of ms w d))
unfolding top_of stack_of
low_top ms w j zero a = a
low_top ms w j (suc d) a = by (get_or ms (get_or w (2 * d) 0) false) (low_top ms w j d a.1)
  where
    by : (t : Bool) → AllLow j (stack_of w (top_of ms w d)) → AllLow j (stack_of w (cond t (top_of ms w d) (suc d)))
    by true l = l
    by false l = a

-- what goes on the stack, and what was there, is of one of k cells
pub low_pushed : (j k : ℕ) (nx el : Option ℕ) (t o : ℕ) (es : List (Entry ℕ)) → j ≤ k → t ≤ 2 * k → o ≤ 2 * k → AllLow j es → AllLow k (pushed (ways_by nx el t o) es)
low_pushed j k none el t o es l p q a = low_more j k es l a
low_pushed j k (some x) none t o es l p q a = (p, low_more j k es l a)
low_pushed j k (some x) (some y) t o es l p q a = (p, (q, low_more j k es l a))
