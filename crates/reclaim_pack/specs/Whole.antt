-- What the loops leave are the words of the survivors with their links followed. Assumes nothing.
use Rattle.std.specs.Prelude.{◌≡◌, Bool, List, [], ◌∷◌, ltb, set, take, ℤ}
use Rattle.std.proofs.Math.Path.{refl, sym, ap, ap₂, fun_ext}
use Rattle.std.proofs.Common.{◌∙◌, subst, arith, add-zero, get_or-set_same, get_or-take, lt-ltb, le-ltb}
use Rattle.std.proofs.Math.Bool.{true, false, cond}
use Prim.Native.Nat.{ℕ, zero, suc, ◌+◌, ◌*◌, ◌≤◌, ◌<◌}
use Rattle.std.proofs.Math.Decide.{dec_le, ℕ_discrete}
use Rattle.std.proofs.Math.ListN.{get_or, length, length-set}
use Rattle.std.proofs.Math.Seq.{get_or-set_other, length-take-le}
use Rattle.model.specs.Limits.{block_limit, command_limit}
use Rattle.model.specs.Memory.{memory_in, block_words}
use Rattle.memory.specs.PutBlocks.{FiveWords, five_long, five_other, five_hold}
use Rattle.reclaim_model.specs.Reclaim.{rank}
use Rattle.reclaim_model.proofs.Laws.Survivors.{rank_grows, rank_most}
use Rattle.reclaim_model.proofs.Laws.Reached.{mark_in}
use Rattle.reclaim_record.specs.Packed.{follow_code, follow_link, Packed}
use Rattle.reclaim_pack.specs.Table.{plus_if, rank_to, ranks_to, table_rank, Ranks, Small, followed_at, followed_to, packed_at, packed_to}
use Rattle.reclaim_pack.specs.Laws.{rank_low}

-- ---- the table holds the ranks

rank_zero : (ms : List Bool) → 0 ≡ rank ms 0
unfolding rank
rank_zero [] = refl
rank_zero (m ∷ ms) = refl

rank_step : (ms : List Bool) (b : ℕ) → rank ms (suc b) ≡ plus_if (rank ms b) (get_or ms b false)
unfolding rank
rank_step [] b = refl
rank_step (true ∷ ms) zero = ap suc (sym (rank_zero ms))
rank_step (false ∷ ms) zero = sym (rank_zero ms)
rank_step (true ∷ ms) (suc b) = ap suc (rank_step ms b) ∙ by (get_or ms b false)
  where
    by : (a : Bool) → suc (plus_if (rank ms b) a) ≡ plus_if (suc (rank ms b)) a
    by true = omega arith
    by false = refl
rank_step (false ∷ ms) (suc b) = rank_step ms b

rank_past : (ms : List Bool) (t : ℕ) → length ms ≤ t → rank ms t ≡ rank ms (length ms)
unfolding rank
rank_past [] t l = refl
rank_past (m ∷ ms) zero l = absurd (omega arith)
rank_past (m ∷ ms) (suc t) l = ap (λ (k : ℕ). cond m (suc k) k) (rank_past ms t (omega arith))

module _ (live : List Bool) (n : ℕ) (enough : n ≤ length live) where
  abbrev ms : List Bool
  ms = take n live

  rank_is : (b : ℕ) → b ≤ n → rank_to live b ≡ rank (take n live) b
  unfolding rank_to
  rank_is zero l = rank_zero (take n live)
  rank_is (suc b) l = ap₂ plus_if (rank_is b (omega arith)) (sym (get_or-take n live b false (omega arith))) ∙ sym (rank_step ms b)

  table_long : (rk : List ℕ) (k : ℕ) → length (ranks_to live k rk) ≡ length rk
  unfolding ranks_to
  table_long rk zero = refl
  table_long rk (suc k) = length-set (ranks_to live k rk) k (rank_to live k) ∙ table_long rk k

  table_at : (rk : List ℕ) (k b : ℕ) → b < k → k ≤ length rk → get_or (ranks_to live k rk) b 0 ≡ rank_to live b
  unfolding ranks_to
  table_at rk zero b l e = absurd (omega arith)
  table_at rk (suc k) b l e = by (ℕ_discrete b k) (λ q. table_at rk k b q (omega arith))
    where
      by : Dec (b ≡ k) → (b < k → get_or (ranks_to live k rk) b 0 ≡ rank_to live b) → get_or (set (ranks_to live k rk) k (rank_to live k)) b 0 ≡ rank_to live b
      by (yes d) ih = rw d (get_or-set_same (ranks_to live k rk) k (rank_to live k) 0 (omega (arith, table_long rk k)))
      by (no d) ih = get_or-set_other (ranks_to live k rk) k b (rank_to live k) 0 d ∙ ih (omega arith)

  -- of every number
  pub table_is : (rk : List ℕ) → n ≤ length rk → (t : ℕ) → table_rank (ranks_to live n rk) n (rank_to live n) t ≡ rank (take n live) t
  unfolding table_rank
  table_is rk e t = by (dec_le n t)
    where
      by : Dec (n ≤ t) → cond (ltb t n) (get_or (ranks_to live n rk) t 0) (rank_to live n) ≡ rank (take n live) t
      by (yes d) =
          let long : length (take n live) ≡ n = length-take-le n live enough in
          rw (le-ltb t n d) (rank_is n (omega arith) ∙ ap (rank ms) (sym long) ∙ sym (rank_past ms t (omega arith)))
      by (no d) = rw (lt-ltb t n (omega arith)) (table_at rk n t (omega arith) e ∙ rank_is t (omega arith))

  rank_below : (t : ℕ) → t ≤ n → rank (take n live) t ≤ t
  rank_below t l = omega (arith, rank_is t l, rank_low live t)

  -- what tell_moved and pack ask of the table
  pub table_ranks : (rk : List ℕ) → n ≤ length rk → Ranks live n (ranks_to live n rk)
  table_ranks rk e b l = table_at rk n b l e

  pub table_small : (rk : List ℕ) → n ≤ length rk → n ≤ block_limit → Small (ranks_to live n rk) n (rank_to live n)
  table_small rk e l t = omega (arith, table_is rk e t, rank_most ms t, length-take-le n live enough)

  pub table_places : (rk : List ℕ) → n ≤ length rk → n ≤ block_limit → (b : ℕ) → b < n → table_rank (ranks_to live n rk) n (rank_to live n) b < block_limit
  table_places rk e l b q = omega (arith, table_is rk e b, rank_below b (omega arith))

-- ---- commands

module _ (f : ℕ → ℕ) (cw : List ℕ) where
  followed_long : (n : ℕ) → length (followed_to f n cw) ≡ length cw
  unfolding followed_to followed_at
  followed_long zero = refl
  followed_long (suc n) = length-set (followed_to f n cw) (4 * n + 3) _ ∙ followed_long n

  -- the other words stay
  followed_other : (n c j : ℕ) → j < 3 → get_or (followed_to f n cw) (4 * c + j) 0 ≡ get_or cw (4 * c + j) 0
  unfolding followed_to followed_at
  followed_other zero c j l = refl
  followed_other (suc n) c j l = get_or-set_other (followed_to f n cw) (4 * n + 3) (4 * c + j) _ 0 (λ q. omega arith) ∙ followed_other n c j l

  followed_later : (n c : ℕ) → n ≤ c → get_or (followed_to f n cw) (4 * c + 3) 0 ≡ get_or cw (4 * c + 3) 0
  unfolding followed_to followed_at
  followed_later zero c l = refl
  followed_later (suc n) c l = get_or-set_other (followed_to f n cw) (4 * n + 3) (4 * c + 3) _ 0 (λ q. omega arith) ∙ followed_later n c (omega arith)

  followed_done : (n c : ℕ) → c < n → 4 * n ≤ length cw → get_or (followed_to f n cw) (4 * c + 3) 0 ≡ follow_code f (get_or cw (4 * c) 0) (get_or cw (4 * c + 3) 0)
  unfolding followed_to followed_at
  followed_done zero c l e = absurd (omega arith)
  followed_done (suc n) c l e = by (ℕ_discrete c n) (λ q. followed_done n c q (omega arith))
    where
      first : get_or (followed_to f n cw) (4 * n) 0 ≡ get_or cw (4 * n) 0
      first = ap (λ (k : ℕ). get_or (followed_to f n cw) k 0) (sym (add-zero (4 * n))) ∙ followed_other n n 0 (omega arith) ∙ ap (λ (k : ℕ). get_or cw k 0) (add-zero (4 * n))

      by : Dec (c ≡ n) → (c < n → get_or (followed_to f n cw) (4 * c + 3) 0 ≡ follow_code f (get_or cw (4 * c) 0) (get_or cw (4 * c + 3) 0))
          → get_or (set (followed_to f n cw) (4 * n + 3) (follow_code f (get_or (followed_to f n cw) (4 * n) 0) (get_or (followed_to f n cw) (4 * n + 3) 0))) (4 * c + 3) 0
          ≡ follow_code f (get_or cw (4 * c) 0) (get_or cw (4 * c + 3) 0)
      by (yes d) ih =
          subst (λ (k : ℕ). get_or (set (followed_to f n cw) (4 * n + 3) (follow_code f (get_or (followed_to f n cw) (4 * n) 0) (get_or (followed_to f n cw) (4 * n + 3) 0))) (4 * k + 3) 0
          ≡ follow_code f (get_or cw (4 * k) 0) (get_or cw (4 * k + 3) 0)) (sym d)
          (get_or-set_same (followed_to f n cw) (4 * n + 3) _ 0 (omega (arith, followed_long n)) ∙ ap₂ (follow_code f) first (followed_later n n (omega arith)))
      by (no d) ih = get_or-set_other (followed_to f n cw) (4 * n + 3) (4 * c + 3) _ 0 (λ q. omega arith) ∙ ih (omega arith)

-- ---- blocks: f goes to no higher number, and up on the survivors

module _ (f : ℕ → ℕ) (live : List Bool) (bw : List ℕ) (m : ℕ) (low : (b : ℕ) → b < m → f b ≤ b) (up : (a b : ℕ) → a < b → b < m → get_or live a false ≡ true → f a < f b) where
  packed_long : (n : ℕ) → length (packed_to f live n bw) ≡ length bw
  unfolding packed_to packed_at
  packed_long zero = refl
  packed_long (suc n) = by (get_or live n false) ∙ packed_long n
    where
      by : (a : Bool) → length (cond a (block_words (packed_to f live n bw) (f n) (get_or (packed_to f live n bw) (5 * n) 0) (get_or (packed_to f live n bw) (5 * n + 1) 0) (get_or (packed_to f live n bw) (5 * n + 2) 0)
          (follow_link f (get_or (packed_to f live n bw) (5 * n + 3) 0)) (follow_link f (get_or (packed_to f live n bw) (5 * n + 4) 0))) (packed_to f live n bw)) ≡ length (packed_to f live n bw)
      by true = five_long (packed_to f live n bw) (f n) _ _ _ _ _
      by false = refl

  -- what is still to come stays
  packed_later : (n c j : ℕ) → n ≤ m → n ≤ c → j < 5 → get_or (packed_to f live n bw) (5 * c + j) 0 ≡ get_or bw (5 * c + j) 0
  unfolding packed_to packed_at
  packed_later zero c j k l q = refl
  packed_later (suc n) c j k l q = by (get_or live n false) ∙ packed_later n c j (omega arith) (omega arith) q
    where
      by : (a : Bool) → get_or (cond a (block_words (packed_to f live n bw) (f n) (get_or (packed_to f live n bw) (5 * n) 0) (get_or (packed_to f live n bw) (5 * n + 1) 0) (get_or (packed_to f live n bw) (5 * n + 2) 0)
          (follow_link f (get_or (packed_to f live n bw) (5 * n + 3) 0)) (follow_link f (get_or (packed_to f live n bw) (5 * n + 4) 0))) (packed_to f live n bw)) (5 * c + j) 0 ≡ get_or (packed_to f live n bw) (5 * c + j) 0
      by true = five_other (packed_to f live n bw) (f n) _ _ _ _ _ c j (λ e. omega (arith, low n (omega arith))) q
      by false = refl

  -- the words of block b, moved
  abbrev Moved : List ℕ → ℕ → Type 0
  Moved w b = FiveWords w (f b) (get_or bw (5 * b) 0) (get_or bw (5 * b + 1) 0) (get_or bw (5 * b + 2) 0) (follow_link f (get_or bw (5 * b + 3) 0)) (follow_link f (get_or bw (5 * b + 4) 0))

  packed_done : (n b : ℕ) → n ≤ m → b < n → 5 * n ≤ length bw → get_or live b false ≡ true → Moved (packed_to f live n bw) b
  unfolding packed_to packed_at
  packed_done zero b k l e s = absurd (omega arith)
  packed_done (suc n) b k l e s = by (ℕ_discrete b n) (λ q. packed_done n b (omega arith) q (omega arith) s)
    where
      kind : get_or (packed_to f live n bw) (5 * n) 0 ≡ get_or bw (5 * n) 0
      kind = ap (λ (k : ℕ). get_or (packed_to f live n bw) k 0) (sym (add-zero (5 * n))) ∙ packed_later n n 0 (omega arith) (omega arith) (omega arith) ∙ ap (λ (k : ℕ). get_or bw k 0) (add-zero (5 * n))

      here : get_or live n false ≡ true → Moved (packed_at f live (packed_to f live n bw) n) n
      here t = unfold packed_at in
          (rw (t, kind, packed_later n n 1 (omega arith) (omega arith) (omega arith), packed_later n n 2 (omega arith) (omega arith) (omega arith), packed_later n n 3 (omega arith) (omega arith) (omega arith), packed_later n n 4 (omega arith) (omega arith) (omega arith))
          (five_hold (packed_to f live n bw) (f n) (get_or bw (5 * n) 0) (get_or bw (5 * n + 1) 0) (get_or bw (5 * n + 2) 0) (follow_link f (get_or bw (5 * n + 3) 0)) (follow_link f (get_or bw (5 * n + 4) 0)) (omega (arith, low n (omega arith), packed_long n))))

      kept : (a : Bool) → b < n → Moved (packed_to f live n bw) b
          → Moved (cond a (block_words (packed_to f live n bw) (f n) (get_or (packed_to f live n bw) (5 * n) 0) (get_or (packed_to f live n bw) (5 * n + 1) 0) (get_or (packed_to f live n bw) (5 * n + 2) 0)
          (follow_link f (get_or (packed_to f live n bw) (5 * n + 3) 0)) (follow_link f (get_or (packed_to f live n bw) (5 * n + 4) 0))) (packed_to f live n bw)) b
      kept false q v = v
      kept true q v =
          let other : (j : ℕ) → j < 5 → get_or (block_words (packed_to f live n bw) (f n) (get_or (packed_to f live n bw) (5 * n) 0) (get_or (packed_to f live n bw) (5 * n + 1) 0) (get_or (packed_to f live n bw) (5 * n + 2) 0)
          (follow_link f (get_or (packed_to f live n bw) (5 * n + 3) 0)) (follow_link f (get_or (packed_to f live n bw) (5 * n + 4) 0))) (5 * f b + j) 0 ≡ get_or (packed_to f live n bw) (5 * f b + j) 0
          = λ j r. five_other (packed_to f live n bw) (f n) _ _ _ _ _ (f b) j (λ z. omega (arith, up b n q (omega arith) s)) r in
          record {
            kind = other 0 (omega arith) ∙ v.kind;
            first = other 1 (omega arith) ∙ v.first;
            held = other 2 (omega arith) ∙ v.held;
            next = other 3 (omega arith) ∙ v.next;
            else = other 4 (omega arith) ∙ v.else;
          }

      by : Dec (b ≡ n) → (b < n → Moved (packed_to f live n bw) b) → Moved (packed_at f live (packed_to f live n bw) n) b
      by (yes d) ih = subst (λ (k : ℕ). Moved (packed_at f live (packed_to f live n bw) n) k) (sym d) (here (subst (λ (k : ℕ). get_or live k false ≡ true) d s))
      by (no d) ih = unfold packed_at in kept (get_or live n false) (omega arith) (ih (omega arith))

-- ---- the record that they make

-- numbered, followed and packed, the words of any record are those of its survivors
pub packs : (ws : List ℕ) (vs : List ℤ) (cw bw : List ℕ) (nodes commands n : ℕ) (live : List Bool) (rk : List ℕ) → n ≤ block_limit → commands ≤ command_limit → length live ≡ block_limit → length rk ≡ block_limit → length cw ≡ 4 * command_limit → length bw ≡ 5 * block_limit
    → (f : ℕ → ℕ) → f ≡ table_rank (ranks_to live n rk) n (rank_to live n)
    → Packed (rank (take n live)) (take n live) (memory_in ws vs cw bw nodes commands n) (memory_in ws vs (followed_to f commands cw) (packed_to f live n bw) nodes commands (rank_to live n))
packs ws vs cw bw nodes commands n live rk few short live-long rk-long cw-long bw-long f is =
    let ms = take n live in
    let enough : n ≤ length live = omega arith in
    let long : length ms ≡ n = length-take-le n live enough in
    let same : f ≡ rank ms = is ∙ fun_ext (table_is live n enough rk (omega arith)) in
    subst (λ (g : ℕ → ℕ). Packed (rank ms) ms (memory_in ws vs cw bw nodes commands n) (memory_in ws vs (followed_to g commands cw) (packed_to g live n bw) nodes commands (rank_to live n))) (sym same)
    (whole (λ b l. rank_below live n enough b (omega arith)) (λ a b l k e. rank_grows ms a b l (get_or-take n live a false (omega arith) ∙ e)) long enough)
  where
    whole : ((b : ℕ) → b < n → rank (take n live) b ≤ b) → ((a b : ℕ) → a < b → b < n → get_or live a false ≡ true → rank (take n live) a < rank (take n live) b) → length (take n live) ≡ n → n ≤ length live
        → Packed (rank (take n live)) (take n live) (memory_in ws vs cw bw nodes commands n)
        (memory_in ws vs (followed_to (rank (take n live)) commands cw) (packed_to (rank (take n live)) live n bw) nodes commands (rank_to live n))
    whole low up long enough =
        let g = rank (take n live) in
        let inside : (b : ℕ) → get_or (take n live) b false ≡ true → b < n = λ b e. omega (arith, mark_in (take n live) b e) in
        let moved : (b : ℕ) → get_or (take n live) b false ≡ true → FiveWords (packed_to g live n bw) (g b) (get_or bw (5 * b) 0) (get_or bw (5 * b + 1) 0) (get_or bw (5 * b + 2) 0) (follow_link g (get_or bw (5 * b + 3) 0)) (follow_link g (get_or bw (5 * b + 4) 0))
        = λ b e. packed_done g live bw n low up n b (omega arith) (inside b e) (omega arith) (sym (get_or-take n live b false (inside b e)) ∙ e) in
        record {
          coded = record {
            nodes = refl;
            count = refl;
            words = λ c j l q. followed_other g cw commands c j q;
            target = λ c l. followed_done g cw commands c l (omega arith) ∙ ap (λ (k : ℕ). follow_code g (get_or cw k 0) (get_or cw (4 * c + 3) 0)) (sym (add-zero (4 * c)));
          };
          count = rank_is live n enough n (omega arith) ∙ ap g (sym long);
          words = λ b j e q. three b j q (moved b e);
          next = λ b e. (moved b e).next;
          else = λ b e. (moved b e).else;
        }
      where
        three : (b j : ℕ) → j < 3 → FiveWords (packed_to (rank (take n live)) live n bw) (rank (take n live) b) (get_or bw (5 * b) 0) (get_or bw (5 * b + 1) 0) (get_or bw (5 * b + 2) 0)
            (follow_link (rank (take n live)) (get_or bw (5 * b + 3) 0)) (follow_link (rank (take n live)) (get_or bw (5 * b + 4) 0))
            → get_or (packed_to (rank (take n live)) live n bw) (5 * rank (take n live) b + j) 0 ≡ get_or bw (5 * b + j) 0
        three b zero q v = v.kind ∙ ap (λ (k : ℕ). get_or bw k 0) (sym (add-zero (5 * b)))
        three b (suc zero) q v = v.first
        three b (suc (suc zero)) q v = v.held
        three b (suc (suc (suc j))) q v = absurd (omega arith)
