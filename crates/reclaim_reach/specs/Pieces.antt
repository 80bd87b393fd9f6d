-- Pieces of marking and how they are put together: a link, the targets of commands, the links of a block, the roots. Assumes nothing.
use Rattle.std.specs.Prelude.{◌≡◌, Bool, true, false, List, [], ◌∷◌, get_or, set, drop, length}
use Rattle.std.proofs.Math.Path.{refl, sym, subst}
use Rattle.std.proofs.Common.{ap, ap₂, ◌∙◌, add-one, drop_of_length-le, drop-cons}
use Rattle.std.proofs.Math.Option.{Option, none, some}
use Prim.Native.Nat.{ℕ, zero, suc, ◌+◌, ◌-◌, ◌*◌, ◌≤◌, ◌<◌}
use native.Mathlib.Omega.{arith}
use Rattle.model.specs.Limits.{block_limit, command_limit}
use Rattle.model.specs.Memory.{link_in}
use Rattle.reclaim_model.specs.Rename.{with_link, Every, IsLink}
use Rattle.reclaim_model.proofs.Laws.RenamedRun.{has_link, drop_link}
use Rattle.reclaim_reach.specs.Words.{names_block, target_by, target_at, targets_at, links_by, links_at, Low, SafeAt}
use Rattle.reclaim_reach.specs.Queue.{Queue, queue_in, marked_all, Queued, marked_on, marked_off, free, queued_one}

-- what a piece of marking leaves
pub record Marking (q : Queue) (ks : List ℕ) (r : Queue) : Type 0 where
  pub is : r ≡ marked_all q ks
  pub queued : Queued r

-- nothing to mark
pub marked_none : (q : Queue) → Queued q → Marking q [] q
unfolding marked_all
marked_none q h = record { is = refl; queued = h }

-- a block with a mark, and one without; i is its number as an index
module _ (q : Queue) (i k : ℕ) (h : Queued q) (is : i ≡ k) where
  pub marked_before : get_or q.live i false ≡ true → Marking q (k ∷ []) q
  unfolding marked_all
  marked_before e = record { is = sym (marked_on q k (rw (← is) e)); queued = h }

  module _ (l : k < block_limit) (e : get_or q.live i false ≡ false) where
    off : get_or q.live k false ≡ false
    off = ap (λ (j : ℕ). get_or q.live j false) (sym is) ∙ e

    pub room_now : q.count < block_limit
    room_now = free q k h l off

    pub marked_now : Marking q (k ∷ []) (queue_in (set q.live i true) (set q.todo q.count k) (q.count + 1))
    unfolding marked_all
    marked_now =
        subst (λ (j : ℕ). Marking q (k ∷ []) (queue_in (set q.live j true) (set q.todo q.count k) (q.count + 1))) (sym is)
        (record { is = sym (marked_off q k off); queued = queued_one q k h l off })

-- a word of next or else
pub link_none : (q : Queue) (w : ℕ) → Queued q → w ≡ 0 → Marking q (with_link (link_in w) []) q
link_none q w h e = rw e (marked_none q h)

pub link_some : (q r : Queue) (w : ℕ) → (w ≡ 0 → ⊥) → Marking q ((w - 1) ∷ []) r → Marking q (with_link (link_in w) []) r
link_some q r zero n k = absurd (n refl)
link_some q r (suc w) n k = subst (λ (j : ℕ). Marking q (j ∷ []) r) (omega arith) k

-- a command's target
module _ (cw : List ℕ) (i : ℕ) (b : Bool) (is : b ≡ names_block (get_or cw (4 * i) 0)) where
  pub target_none : (q : Queue) → Queued q → b ≡ false → Marking q (with_link (target_at cw i) []) q
  unfolding target_by
  target_none q h e = rw (sym is ∙ e) (marked_none q h)

  pub target_some : (q r : Queue) → b ≡ true → Marking q (get_or cw (4 * i + 3) 0 ∷ []) r → Marking q (with_link (target_at cw i) []) r
  unfolding target_by
  target_some q r e k = rw (sym is ∙ e) k

  pub target_low : b ≡ true → IsLink Low (target_at cw i) → get_or cw (4 * i + 3) 0 < block_limit
  unfolding target_by
  target_low e k = rw (sym is ∙ e) at k

-- ---- a list marked piece by piece: what is left to mark

pub record Going (q₀ : Queue) (all : List ℕ) (q : Queue) (rest : List ℕ) : Type 0 where
  pub is : marked_all q₀ all ≡ marked_all q rest
  pub queued : Queued q
  pub low : Every Low rest

on_then : (q : Queue) (o : Option ℕ) (ks : List ℕ) → marked_all q (with_link o ks) ≡ marked_all (marked_all q (with_link o [])) ks
unfolding marked_all
on_then q none ks = refl
on_then q (some k) ks = refl

pub go_next : {q₀ q r : Queue} {all rest : List ℕ} (o : Option ℕ) (rest' : List ℕ) → rest ≡ with_link o rest' → Going q₀ all q rest → Marking q (with_link o []) r → Going q₀ all r rest'
go_next {q₀} {q} {r} {all} {rest} o rest' e g k = record {
  is = g.is ∙ ap (marked_all q) e ∙ on_then q o rest' ∙ ap (λ (p : Queue). marked_all p rest') (sym k.is);
  queued = k.queued;
  low = drop_link Low o rest' (subst (Every Low) e g.low);
}

-- the next of what is left is low
pub go_low : {q₀ q : Queue} {all rest : List ℕ} (o : Option ℕ) (rest' : List ℕ) → rest ≡ with_link o rest' → Going q₀ all q rest → IsLink Low o
go_low o rest' e g = has_link Low o rest' (subst (Every Low) e g.low)

pub go_end : {q₀ q r : Queue} {all rest : List ℕ} → Going q₀ all q rest → Marking q rest r → Marking q₀ all r
go_end g k = record { is = k.is ∙ sym g.is; queued = k.queued }

pub go_done : {q₀ q : Queue} {all rest : List ℕ} → rest ≡ [] → Going q₀ all q rest → Marking q₀ all q
go_done {q₀} {q} {all} {rest} e g = go_end g (rw e (marked_none q g.queued))

-- ---- the targets of commands, from one on

module _ (cw : List ℕ) where
  targets_shift : (h c i : ℕ) → i < h → targets_at cw (h - i) (c + i) ≡ with_link (target_at cw (c + i)) (targets_at cw (h - suc i) (suc (c + i)))
  unfolding targets_at
  targets_shift h c i l = let e : h - i ≡ suc (h - suc i) = omega arith in rw e

  targets_next : (h c i : ℕ) → i < h → targets_at cw (h - i) (c + i) ≡ with_link (target_at cw (c + i)) (targets_at cw (h - (i + 1)) (c + (i + 1)))
  targets_next h c i l =
      targets_shift h c i l
      ∙ ap₂ (λ (n j : ℕ). with_link (target_at cw (c + i)) (targets_at cw n j)) (omega arith) (omega arith)

  targets_none : (h c i : ℕ) → h ≤ i → targets_at cw (h - i) (c + i) ≡ []
  unfolding targets_at
  targets_none h c i l = let e : h - i ≡ 0 = omega arith in rw e

  targets_first : (h c : ℕ) → targets_at cw (h - 0) (c + 0) ≡ targets_at cw h c
  targets_first h c = ap₂ (targets_at cw) (omega arith) (omega arith)

pub record TargetsLeft (cw : List ℕ) (first held f count : ℕ) (q₀ q : Queue) (i : ℕ) : Type 0 where
  pub f_is : f ≡ first
  pub count_is : count ≡ held
  pub fits : (j : ℕ) → j < held → first + j < command_limit
  pub going : Going q₀ (targets_at cw held first) q (targets_at cw (held - i) (first + i))

module _ (cw : List ℕ) (first held f count : ℕ) (q₀ : Queue) where
  pub targets_start : ((j : ℕ) → j < held → first + j < command_limit) → Every Low (targets_at cw held first) → Queued q₀ → f ≡ first → count ≡ held → TargetsLeft cw first held f count q₀ q₀ 0
  targets_start fit a h p q = record {
    f_is = p;
    count_is = q;
    fits = fit;
    going = subst (Going q₀ (targets_at cw held first) q₀) (sym (targets_first cw held first)) (record { is = refl; queued = h; low = a });
  }

  module _ (q : Queue) (i : ℕ) (t : TargetsLeft cw first held f count q₀ q i) where
    pub targets_room : i < count → f + i < command_limit
    targets_room l = let w = t.fits i (omega (arith, t.count_is)) in omega (arith, t.f_is)

    pub targets_ask : i < count → IsLink Low (target_at cw (f + i))
    targets_ask l =
        subst (λ (n : ℕ). IsLink Low (target_at cw (n + i))) (sym t.f_is)
        (go_low (target_at cw (first + i)) (targets_at cw (held - (i + 1)) (first + (i + 1))) (targets_next cw held first i (omega (arith, t.count_is))) t.going)

    pub targets_step : i < count → (r : Queue) → Marking q (with_link (target_at cw (f + i)) []) r → TargetsLeft cw first held f count q₀ r (i + 1)
    targets_step l r k = record {
      f_is = t.f_is;
      count_is = t.count_is;
      fits = t.fits;
      going = go_next (target_at cw (first + i)) (targets_at cw (held - (i + 1)) (first + (i + 1))) (targets_next cw held first i (omega (arith, t.count_is))) t.going
          (subst (λ (n : ℕ). Marking q (with_link (target_at cw (n + i)) []) r) t.f_is k);
    }

    pub targets_done : count ≤ i → Marking q₀ (targets_at cw held first) q
    targets_done l = go_done (targets_none cw held first i (omega (arith, t.count_is))) t.going

-- ---- a block

module _ (cw bw : List ℕ) (b : ℕ) where
  not_code_lem : (k : ℕ) → (k ≡ 1 → ⊥) → links_by cw bw b k ≡ []
  unfolding links_by
  not_code_lem zero n = refl
  not_code_lem (suc zero) n = absurd (n refl)
  not_code_lem (suc (suc k)) n = refl

  pub block_other : (q : Queue) → Queued q → (get_or bw (5 * b) 0 ≡ 1 → ⊥) → Marking q (links_at cw bw b) q
  unfolding links_at
  block_other q h n = rw (not_code_lem (get_or bw (5 * b) 0) n) (marked_none q h)

  abbrev next : Option ℕ
  next = link_in (get_or bw (5 * b + 3) 0)

  abbrev else : Option ℕ
  else = link_in (get_or bw (5 * b + 4) 0)

  abbrev held : List ℕ
  held = targets_at cw (get_or bw (5 * b + 2) 0) (get_or bw (5 * b + 1) 0)

  links_code : get_or bw (5 * b) 0 ≡ 1 → links_at cw bw b ≡ with_link next (with_link else held)
  unfolding links_at links_by
  links_code e = rw e

  low_word : (w : ℕ) → IsLink Low (link_in w) → w ≤ block_limit
  low_word zero a = omega arith
  low_word (suc w) a = omega arith

  pub record LowWords : Type 0 where
    pub next : get_or bw (5 * b + 3) 0 ≤ block_limit
    pub else : get_or bw (5 * b + 4) 0 ≤ block_limit
    pub rest : Every Low (targets_at cw (get_or bw (5 * b + 2) 0) (get_or bw (5 * b + 1) 0))

  module _ (k : get_or bw (5 * b) 0 ≡ 1) (s : SafeAt cw bw b) where
    pub low_words : LowWords
    low_words =
        let a = subst (Every Low) (links_code k) s.low in
        let c = drop_link Low next (with_link else held) a in
        record {
          next = low_word (get_or bw (5 * b + 3) 0) (has_link Low next _ a);
          else = low_word (get_or bw (5 * b + 4) 0) (has_link Low else _ c);
          rest = drop_link Low else held c;
        }

    pub block_code : {q q₁ q₂ q₃ : Queue} → Queued q → Marking q (with_link (link_in (get_or bw (5 * b + 3) 0)) []) q₁ → Marking q₁ (with_link (link_in (get_or bw (5 * b + 4) 0)) []) q₂
        → Marking q₂ (targets_at cw (get_or bw (5 * b + 2) 0) (get_or bw (5 * b + 1) 0)) q₃ → Marking q (links_at cw bw b) q₃
    block_code {q} {q₁} {q₂} {q₃} h x y z =
        go_end (go_next else held refl (go_next next (with_link else held) (links_code k) (record { is = refl; queued = h; low = s.low }) x) y) z

-- ---- the roots, from one on

module _ (rs : List ℕ) (q₀ q : Queue) (i : ℕ) (g : Going q₀ rs q (drop i rs)) where
  roots_next : i < length rs → drop i rs ≡ with_link (some (get_or rs i 0)) (drop (i + 1) rs)
  roots_next l = rw (add-one i) (drop-cons rs i 0 l)

  pub roots_step : i < length rs → (k : ℕ) → k ≡ get_or rs i 0 → (r : Queue) → Marking q (k ∷ []) r → Going q₀ rs r (drop (i + 1) rs)
  roots_step l k e r m = go_next (some (get_or rs i 0)) (drop (i + 1) rs) (roots_next l) g (subst (λ (j : ℕ). Marking q (j ∷ []) r) e m)

  pub roots_done : length rs ≤ i → Marking q₀ rs q
  roots_done l = go_done (drop_of_length-le rs l) g
