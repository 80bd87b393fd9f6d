-- The answer and the marks of a reclaim, block by block: what is still to be written (02, A.4). Assumes nothing.
use Rattle.std.specs.Prelude.{◌≡◌, Bool, cond, ℕ, suc, ◌+◌, ◌≤◌, ◌<◌, length, set, take, drop}
use Rattle.std.proofs.Math.Path.{refl, sym, ap, ap₂}
use Rattle.std.proofs.Common.{◌∙◌, arith, add-one, drop-set-lt}
use Rattle.std.proofs.Math.Bool.{true, false}
use Rattle.std.proofs.Math.Option.{none, some}
use mathlib.Core.List.{List, ◌∷◌}
use Rattle.std.proofs.Math.ListN.{get_or, length-set}
use Rattle.std.proofs.Math.Seq.{sets, slice, slice-cons, slice_empty, take-set-lt}
use Rattle.model.specs.Limits.{block_limit}
use Rattle.reclaim_model.specs.Reclaim.{moved_from, moved_word, survivors}
use Rattle.reclaim_pack.specs.Table.{plus_if, rank_to, Ranks}
use Rattle.reclaim_pack.specs.Laws.{rank_low}

-- ---- the answer

-- after b blocks, of an array that is to be `all`
pub record Telling (live : List Bool) (rk : List ℕ) (blocks end : ℕ) (all moved : List ℕ) (b : ℕ) : Type 0 where
  pub end_is : end ≡ blocks
  pub few : blocks ≤ block_limit
  pub marks : length live ≡ block_limit
  pub ranks : Ranks live blocks rk
  pub upto : b ≤ blocks
  pub left : all ≡ sets moved b (moved_from (rank_to live b) (slice b blocks live))

moved_one : (moved : List ℕ) (b n : ℕ) (m : Bool) (ms : List Bool) → sets moved b (moved_from n (m ∷ ms)) ≡ sets (set moved b (moved_word (cond m (some n) none))) (suc b) (moved_from (plus_if n m) ms)
unfolding moved_from
moved_one moved b n true ms = ap (λ (k : ℕ). sets (set moved b (suc n)) (suc b) (moved_from k ms)) (sym (add-one n))
moved_one moved b n false ms = refl

module _ (live : List Bool) (rk : List ℕ) (blocks end : ℕ) where
  pub tell_start : (moved : List ℕ) → end ≡ blocks → blocks ≤ block_limit → length live ≡ block_limit → Ranks live blocks rk
      → Telling live rk blocks end (sets moved 0 (moved_from 0 (take blocks live))) moved 0
  unfolding rank_to
  tell_start moved e l m r = record { end_is = e; few = l; marks = m; ranks = r; upto = omega arith; left = refl }

  module _ (all moved : List ℕ) (b : ℕ) (t : Telling live rk blocks end all moved b) where
    pub tell_room : b < end → get_or rk b 0 < block_limit
    tell_room l = omega (arith, t.end_is, t.few, t.ranks b (omega (arith, t.end_is)), rank_low live b)

    pub tell_next : b < end → (w : ℕ) → w ≡ moved_word (cond (get_or live b false) (some (get_or rk b 0)) none) → Telling live rk blocks end all (set moved b w) (b + 1)
    unfolding rank_to
    tell_next l w e =
        let m = get_or live b false in
        let here : slice b blocks live ≡ m ∷ slice (suc b) blocks live = slice-cons b blocks live false (omega (arith, t.end_is)) (omega (arith, t.marks, t.few)) in
        let word : moved_word (cond m (some (rank_to live b)) none) ≡ w = sym (e ∙ ap (λ (k : ℕ). moved_word (cond m (some k) none)) (t.ranks b (omega (arith, t.end_is)))) in
        rw (add-one b) (record {
          end_is = t.end_is;
          few = t.few;
          marks = t.marks;
          ranks = t.ranks;
          upto = omega (arith, t.end_is);
          left = t.left
              ∙ ap (λ (ms : List Bool). sets moved b (moved_from (rank_to live b) ms)) here
              ∙ moved_one moved b (rank_to live b) m (slice (suc b) blocks live)
              ∙ ap (λ (k : ℕ). sets (set moved b k) (suc b) (moved_from (plus_if (rank_to live b) m) (slice (suc b) blocks live))) word;
        })

    pub tell_end : end ≤ b → moved ≡ all
    unfolding moved_from
    tell_end l =
        let e : b ≡ blocks = omega (arith, t.end_is, t.upto) in
        sym (t.left ∙ ap (λ (ms : List Bool). sets moved b (moved_from (rank_to live b) ms)) (ap (λ (k : ℕ). slice k blocks live) e ∙ slice_empty blocks live))

-- ---- the marks

-- after b blocks, of which n survive
pub record Keeping (live : List Bool) (blocks end : ℕ) (all births : List ℕ) (n b : ℕ) : Type 0 where
  pub end_is : end ≡ blocks
  pub few : blocks ≤ block_limit
  pub marks : length live ≡ block_limit
  pub long : length births ≡ block_limit
  pub upto : b ≤ blocks
  pub low : n ≤ b
  pub left : all ≡ sets births n (survivors (slice b blocks live) (slice b blocks births))

module _ (live : List Bool) (blocks end : ℕ) where
  pub keep_start : (births : List ℕ) → end ≡ blocks → blocks ≤ block_limit → length live ≡ block_limit → length births ≡ block_limit
      → Keeping live blocks end (sets births 0 (survivors (take blocks live) (take blocks births))) births 0 0
  keep_start births e l m k = record { end_is = e; few = l; marks = m; long = k; upto = omega arith; low = omega arith; left = refl }

  module _ (all births : List ℕ) (n b : ℕ) (t : Keeping live blocks end all births n b) where
    pub keep_room : b < end → (n ≤ b) × (b < block_limit)
    keep_room l = (t.low, omega (arith, t.end_is, t.few))

    -- places above the one that is written stay
    later : (x : ℕ) → b < end → slice (suc b) blocks births ≡ slice (suc b) blocks (set births n x)
    later x l = sym (drop-set-lt (suc b) (take blocks births) n x (omega (arith, t.low))) ∙ ap (λ (ys : List ℕ). drop (suc b) ys) (sym (take-set-lt blocks births n x (omega (arith, t.low, t.end_is))))

    -- what is left of the marks, one block on
    kept_one : b < end → (m : Bool) → slice b blocks live ≡ m ∷ slice (suc b) blocks live
        → Keeping live blocks end all (cond m (set births n (get_or births b 0)) births) (plus_if n m) (suc b)
    unfolding survivors
    kept_one l m here =
        let there : slice b blocks births ≡ get_or births b 0 ∷ slice (suc b) blocks births = slice-cons b blocks births 0 (omega (arith, t.end_is)) (omega (arith, t.long, t.few)) in
        by m (t.left ∙ ap₂ (λ (ms : List Bool) (xs : List ℕ). sets births n (survivors ms xs)) here there)
      where
        by : (m : Bool) → all ≡ sets births n (survivors (m ∷ slice (suc b) blocks live) (get_or births b 0 ∷ slice (suc b) blocks births))
            → Keeping live blocks end all (cond m (set births n (get_or births b 0)) births) (plus_if n m) (suc b)
        by true e = record {
          end_is = t.end_is;
          few = t.few;
          marks = t.marks;
          long = length-set births n (get_or births b 0) ∙ t.long;
          upto = omega (arith, t.end_is);
          low = omega (arith, t.low);
          left = e ∙ ap₂ (λ (k : ℕ) (xs : List ℕ). sets (set births n (get_or births b 0)) k (survivors (slice (suc b) blocks live) xs)) (sym (add-one n)) (later (get_or births b 0) l);
        }
        by false e = record { end_is = t.end_is; few = t.few; marks = t.marks; long = t.long; upto = omega (arith, t.end_is); low = omega (arith, t.low); left = e }

    pub keep_next : b < end → (births' : List ℕ) (n' : ℕ) → births' ≡ cond (get_or live b false) (set births n (get_or births b 0)) births → n' ≡ plus_if n (get_or live b false)
        → Keeping live blocks end all births' n' (b + 1)
    keep_next l births' n' e q = rw (e, q, add-one b) (kept_one l (get_or live b false) (slice-cons b blocks live false (omega (arith, t.end_is)) (omega (arith, t.marks, t.few))))

    pub keep_end : end ≤ b → births ≡ all
    unfolding survivors
    keep_end l =
        let e : b ≡ blocks = omega (arith, t.end_is, t.upto) in
        sym (t.left ∙ ap (λ (ms : List Bool). sets births n (survivors ms (slice b blocks births))) (ap (λ (k : ℕ). slice k blocks live) e ∙ slice_empty blocks live))
