-- The sweep answers true exactly where no path breaks the rule. Assumes nothing.
use Rattle.std.specs.Prelude.{◌≡◌, Bool, length, replicate}
use Rattle.std.proofs.Math.Path.{refl}
use Rattle.std.proofs.Common.{sym, ◌∙◌, true≢false, arith, get_or-set_other, lt-ltb}
use Rattle.std.proofs.Math.Bool.{true, false, cond}
use mathlib.Core.List.{List, [], ◌∷◌, Memᴰ}
use Prim.Native.Nat.{ℕ, zero, suc, ◌<◌, ◌≤◌}
use Rattle.std.proofs.Math.Decide.{ℕ_discrete, dec_le}
use Rattle.std.proofs.Math.Dec.{ltb}
use Rattle.std.proofs.Math.ListN.{get_or, get_or-eq_default}
use Rattle.std.proofs.lemmas.List.{length-replicate}
use Rattle.model.specs.Sheet.{all}
use Rattle.model.specs.Script.{Block, placeholder, block_at}
use Rattle.model.proofs.Laws.Checks.{and_left, and_right}
use Rattle.model.proofs.Laws.Places.{marks_stay, all_one}
use Rattle.model.proofs.Laws.Normal.{both_ways_lem}
use Rattle.reclaim_model.specs.Rename.{links_of}
use Rattle.reclaim_model.specs.Reclaim.{mark_roots}
use Rattle.reclaim_model.proofs.Laws.Reached.{root, onward, no_links, length_roots, root_marked}
use Rattle.reclaim_model.proofs.Laws.Twice.{all_in}
use Rattle.lanes_model.specs.Falls.{Link, LedTo, Falls, falls_at, marks_after, sweep, falls}

-- ---- lists of links

all_lower : (n : ℕ) (ks : List ℕ) → ((k : ℕ) → Memᴰ k ks → k < n) → all (λ k. ltb k n) ks ≡ true
all_lower n [] f = refl
all_lower n (k ∷ ks) f = rw (lt-ltb k n (f k (Memᴰ.head refl))) (all_lower n ks (λ j m. f j (Memᴰ.tail m)))

-- ---- marks

mark_keeps : (ks : List ℕ) (ms : List Bool) (j : ℕ) → get_or ms j false ≡ true → get_or (mark_roots ks ms) j false ≡ true
mark_keeps [] ms j h = h
mark_keeps (k ∷ ks) ms j h = marks_stay (mark_roots ks ms) k j (mark_keeps ks ms j h)

-- a mark is one of these or was there before
mark_from : {A : Type 0} (ks : List ℕ) (ms : List Bool) (j : ℕ) → get_or (mark_roots ks ms) j false ≡ true → (Memᴰ j ks → A) → (get_or ms j false ≡ true → A) → A
mark_from [] ms j h f g = g h
mark_from {A} (k ∷ ks) ms j h f g = by (ℕ_discrete j k) (λ q. mark_from ks ms j q (λ m. f (Memᴰ.tail m)) g)
  where
    by : Dec (j ≡ k) → (get_or (mark_roots ks ms) j false ≡ true → A) → A
    by (yes e) ih = f (Memᴰ.head e)
    by (no d) ih = ih (sym (get_or-set_other (mark_roots ks ms) k j true false d) ∙ h)

-- ---- the marks when the sweep has ended

final : List Block → ℕ → List Bool → List Bool
final bs zero ms = ms
final bs (suc n) ms = final bs n (marks_after bs n ms)

module _ (bs : List Block) where
  after_keeps : (n : ℕ) (ms : List Bool) (j : ℕ) → get_or ms j false ≡ true → get_or (marks_after bs n ms) j false ≡ true
  after_keeps n ms j h = by (get_or ms n false)
    where
      by : (b : Bool) → get_or (cond b (mark_roots (links_of (block_at bs n)) ms) ms) j false ≡ true
      by true = mark_keeps (links_of (block_at bs n)) ms j h
      by false = h

  final_keeps : (n : ℕ) (ms : List Bool) (j : ℕ) → get_or ms j false ≡ true → get_or (final bs n ms) j false ≡ true
  unfolding final
  final_keeps zero ms j h = h
  final_keeps (suc n) ms j h = final_keeps n (marks_after bs n ms) j (after_keeps n ms j h)

  after_length : (n : ℕ) (ms : List Bool) → length (marks_after bs n ms) ≡ length ms
  after_length n ms = by (get_or ms n false)
    where
      by : (b : Bool) → length (cond b (mark_roots (links_of (block_at bs n)) ms) ms) ≡ length ms
      by true = length_roots (links_of (block_at bs n)) ms
      by false = refl

  -- a step that is in order sets no mark from n on
  after_old : (n : ℕ) (ms : List Bool) (j : ℕ) → falls_at bs n ms ≡ true → n ≤ j → get_or (marks_after bs n ms) j false ≡ true → get_or ms j false ≡ true
  after_old n ms j o l h = by (get_or ms n false) o h
    where
      by : (b : Bool) → cond b (all (λ k. ltb k n) (links_of (block_at bs n))) true ≡ true → get_or (cond b (mark_roots (links_of (block_at bs n)) ms) ms) j false ≡ true → get_or ms j false ≡ true
      by true p q = mark_from (links_of (block_at bs n)) ms j q (λ m. let z = all_in n (links_of (block_at bs n)) p j m in absurd (omega arith)) (λ e. e)
      by false p q = q

  final_old : (n : ℕ) (ms : List Bool) (j : ℕ) → sweep bs n ms ≡ true → n ≤ j → get_or (final bs n ms) j false ≡ true → get_or ms j false ≡ true
  unfolding sweep final
  final_old zero ms j p l h = h
  final_old (suc n) ms j p l h =
      after_old n ms j (and_left (falls_at bs n ms) _ p) (omega arith) (final_old n (marks_after bs n ms) j (and_right (falls_at bs n ms) _ p) (omega arith) h)

  record Closed (ms : List Bool) (size j k : ℕ) : Type 0 where
    low : k < j
    marked : k < size → get_or ms k false ≡ true

  -- what a marked block links to is lower and marked
  closed : (n : ℕ) (ms : List Bool) → sweep bs n ms ≡ true → (j : ℕ) → j < n → get_or (final bs n ms) j false ≡ true → (k : ℕ) → Link bs j k → Closed (final bs n ms) (length ms) j k
  unfolding sweep final
  closed zero ms p j l f k h = absurd (omega arith)
  closed (suc n) ms p j l f k h = by (dec_le n j) (λ q. closed n (marks_after bs n ms) r j q f k h)
    where
      o : falls_at bs n ms ≡ true
      o = and_left (falls_at bs n ms) _ p

      r : sweep bs n (marks_after bs n ms) ≡ true
      r = and_right (falls_at bs n ms) _ p

      top : (b : Bool) → get_or ms n false ≡ b → b ≡ true → cond b (all (λ k. ltb k n) (links_of (block_at bs n))) true ≡ true → Link bs n k → Closed (final bs n (marks_after bs n ms)) (length ms) n k
      top true q t u w = record {
        low = all_in n (links_of (block_at bs n)) u k w;
        marked = λ i. final_keeps n (marks_after bs n ms) k (rw q (root_marked (links_of (block_at bs n)) ms k w i));
      }
      top false q t u w = absurd (true≢false (sym t))

      by : Dec (n ≤ j) → (j < n → Closed (final bs n (marks_after bs n ms)) (length (marks_after bs n ms)) j k) → Closed (final bs n (marks_after bs n ms)) (length ms) j k
      by (yes q) ih =
          let e : j ≡ n = omega arith in
          let g : get_or ms n false ≡ true = after_old n ms n o (omega arith) (final_old n (marks_after bs n ms) n r (omega arith) (rw e at f)) in
          rw e (top (get_or ms n false) refl g o (rw e at h))
      by (no q) ih =
          let c = ih (omega arith) in
          record { low = c.low; marked = λ i. c.marked (rw (after_length n ms) i) }

  -- ---- the two directions

  -- a block that is not there has no links
  inside : (b k : ℕ) → Link bs b k → b < length bs
  inside b k l = by (dec_le (length bs) b)
    where
      by : Dec (length bs ≤ b) → b < length bs
      by (yes q) = absurd (no_links (block_at bs b) k (get_or-eq_default bs placeholder q) l)
      by (no q) = omega arith

  -- over an array of n marks, which may be longer than the script
  module _ (b n : ℕ) (long : length bs ≤ n) where
    abbrev begun : List Bool
    begun = mark_roots (links_of (block_at bs b)) (replicate n false)

    begun_length : length begun ≡ n
    begun_length = length_roots (links_of (block_at bs b)) (replicate n false) ∙ length-replicate n false

    reached : sweep bs (length bs) begun ≡ true → (c : ℕ) → LedTo bs b c → c < length bs → get_or (final bs (length bs) begun) c false ≡ true
    reached p c (root m) i = final_keeps (length bs) begun c (root_marked (links_of (block_at bs b)) (replicate n false) c m (omega (arith, length-replicate n false)))
    reached p c (onward {b = d} q m) i = (closed (length bs) begun p d (inside d c m) (reached p d q (inside d c m)) c m).marked (omega (arith, begun_length))

    sweep_paths : sweep bs (length bs) begun ≡ true → Falls bs b
    sweep_paths p = record { lower = λ {c} {k} q l. (closed (length bs) begun p c (inside c k l) (reached p c q (inside c k l)) k l).low }

    -- only what b leads to is marked
    Sound : List Bool → Type 0
    Sound ms = (j : ℕ) → get_or ms j false ≡ true → LedTo bs b j

    sound_sweep : Falls bs b → (i : ℕ) (ms : List Bool) → Sound ms → sweep bs i ms ≡ true
    unfolding sweep Sound
    sound_sweep f zero ms s = refl
    sound_sweep f (suc i) ms s = rw (at_i (get_or ms i false) refl) (sound_sweep f i (marks_after bs i ms) (λ j h. then (get_or ms i false) refl j h))
      where
        at_i : (x : Bool) → get_or ms i false ≡ x → cond x (all (λ k. ltb k i) (links_of (block_at bs i))) true ≡ true
        at_i true e = all_lower i (links_of (block_at bs i)) (λ k h. f.lower (s i e) h)
        at_i false e = refl

        then : (x : Bool) → get_or ms i false ≡ x → (j : ℕ) → get_or (cond x (mark_roots (links_of (block_at bs i)) ms) ms) j false ≡ true → LedTo bs b j
        then true e j h = mark_from (links_of (block_at bs i)) ms j h (λ m. onward (s i e) m) (λ q. s j q)
        then false e j h = s j h

    paths_sweep : Falls bs b → sweep bs (length bs) begun ≡ true
    unfolding Sound
    paths_sweep f = sound_sweep f (length bs) begun (λ j h. mark_from (links_of (block_at bs b)) (replicate n false) j h (λ m. root m) (λ q. absurd (true≢false (sym q ∙ all_one false n j))))

  module _ (b : ℕ) where
    pub falls_paths : falls bs b ≡ true → Falls bs b
    unfolding falls
    falls_paths p = sweep_paths b (length bs) (omega arith) p

    pub paths_falls : Falls bs b → falls bs b ≡ true
    unfolding falls
    paths_falls f = paths_sweep b (length bs) (omega arith) f

    -- one array of marks serves every script that is not longer
    pub falls_any : (n : ℕ) → length bs ≤ n → sweep bs (length bs) (mark_roots (links_of (block_at bs b)) (replicate n false)) ≡ falls bs b
    falls_any n long = both_ways_lem (sweep bs (length bs) (begun b n long)) (falls bs b) (λ p. paths_falls (sweep_paths b n long p)) (λ p. paths_sweep b n long (falls_paths p))
