-- The links of the queue's blocks followed one after the other: at its end the marks hold the roots, are closed under links and hold nothing else. Assumes nothing.
use Rattle.std.specs.Prelude.{◌≡◌, Bool, false, List, ℕ, ◌+◌, ◌≤◌, ◌<◌, get_or, length, replicate}
use Rattle.std.proofs.Common.{sym, ap, ◌∙◌, subst, arith}
use Rattle.std.proofs.Math.Decide.{ℕ_discrete}
use Rattle.model.specs.Limits.{block_limit}
use Rattle.reclaim_model.specs.Rename.{Every}
use Rattle.reclaim_reach.specs.Words.{Low, every_to}
use Rattle.reclaim_reach.specs.Queue.{Queue, queue_in, marked_all, IsLive, Queued, none_live, queued_none, all_grown, all_live, all_only}
use Rattle.reclaim_reach.specs.Pieces.{Marking}

-- ls gives the links of a block, P is what holds of the roots and goes along links
module _ (ls : ℕ → List ℕ) (P : ℕ → Type 0) (rs : List ℕ) where
  -- the links of the first `done` blocks of the queue are followed
  pub record Followed (done : ℕ) (q : Queue) : Type 0 where
    pub queued : Queued q
    pub upto : done ≤ q.count
    pub roots : Every (IsLive q) rs
    pub only : (b : ℕ) → IsLive q b → P b
    pub links : (i : ℕ) → i < done → Every (IsLive q) (ls (get_or q.todo i 0))

  pub follow_start : (live : List Bool) (todo : List ℕ) (q : Queue) → live ≡ replicate block_limit false → length todo ≡ block_limit → Every P rs → Every Low rs → Marking (queue_in live todo 0) rs q
      → Followed 0 q
  follow_start live todo q none l a w g =
      let q₀ = queue_in live todo 0 in
      record {
        queued = g.queued;
        upto = omega arith;
        roots = rw g.is (all_live q₀ rs (queued_none live none todo l) w);
        only = rw g.is (all_only P q₀ rs (λ b e. absurd (none_live live none b e)) a);
        links = λ i p. absurd (omega arith);
      }

  module _ (done : ℕ) (q : Queue) (f : Followed done q) where
    -- the block whose turn it is
    pub next_is : done < q.count → P (get_or q.todo done 0)
    next_is l = f.only (get_or q.todo done 0) (f.queued.held done l)

    pub follow_next : (b : ℕ) (r : Queue) → done < q.count → b ≡ get_or q.todo done 0 → Every P (ls b) → Every Low (ls b) → Marking q (ls b) r → Followed (done + 1) r
    follow_next b r l e a w g =
        let t = all_grown q (ls b) in
        let more = t.more in
        record {
          queued = g.queued;
          upto = rw g.is (omega arith);
          roots = rw g.is (every_to (IsLive q) (IsLive (marked_all q (ls b))) t.keeps rs f.roots);
          only = rw g.is (all_only P q (ls b) f.only a);
          links = rw g.is (λ i p. by i p (ℕ_discrete i done));
        }
      where
        by : (i : ℕ) → i < done + 1 → Dec (i ≡ done) → Every (IsLive (marked_all q (ls b))) (ls (get_or (marked_all q (ls b)).todo i 0))
        by i p (yes d) =
            subst (λ (j : ℕ). Every (IsLive (marked_all q (ls b))) (ls j)) (e ∙ sym ((all_grown q (ls b)).same done l) ∙ ap (λ (j : ℕ). get_or (marked_all q (ls b)).todo j 0) (sym d))
            (all_live q (ls b) f.queued w)
        by i p (no d) =
            subst (λ (j : ℕ). Every (IsLive (marked_all q (ls b))) (ls j)) (sym ((all_grown q (ls b)).same i (omega (arith, f.upto))))
            (every_to (IsLive q) (IsLive (marked_all q (ls b))) (all_grown q (ls b)).keeps (ls (get_or q.todo i 0)) (f.links i (omega arith)))

    pub closed : q.count ≤ done → (b : ℕ) → IsLive q b → Every (IsLive q) (ls b)
    closed l b e =
        let w = f.queued.listed b e in
        let u = w.low in
        subst (λ (j : ℕ). Every (IsLive q) (ls j)) w.is (f.links w.at (omega arith))
