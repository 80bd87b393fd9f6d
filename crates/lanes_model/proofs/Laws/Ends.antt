-- Where links fall, no run of a walk answers 15: its budget is enough for every block that it can enter. Assumes nothing.
use Rattle.std.specs.Prelude.{◌≡◌, ◌≢◌, List, [], ◌∷◌, map, length, ℤ}
use Rattle.std.proofs.Math.Path.{refl}
use Rattle.std.proofs.Common.{sym, subst}
use Prim.Native.Nat.{ℕ, zero, suc, ◌<◌, ◌≤◌}
use native.Mathlib.Omega.{arith}
use Rattle.std.proofs.Math.Decide.{dec_le}
use Rattle.model.specs.Limits.{lane_budget}
use Rattle.model.specs.Refusal.{budget_spent}
use Rattle.model.specs.Save.{Save}
use Rattle.model.specs.Sheet.{Sheet}
use Rattle.model.specs.Script.{Block, Script}
use Rattle.model.specs.Judge.{script_refusal}
use Rattle.model.specs.Memory.{Memory, script_of}
use Rattle.model.specs.Run.{Outcome, next, done, halt, step, Ran, one_more, run, run_by}
use Rattle.model.proofs.Laws.Checks.{setup_inside, shared_passed}
use Rattle.reclaim_model.specs.Rename.{Every}
use Rattle.reclaim_model.proofs.Laws.Reached.{root, onward}
use Rattle.lanes_model.specs.Falls.{Link, LedTo, Falls}
use Rattle.lanes_model.specs.Walk.{Walked, walk_call, walk_refusal}
use Rattle.lanes_model.specs.Flat.{saves_in, walk_in, walk_refusal_in}
use Rattle.lanes_model.proofs.Laws.Steps.{not_again, step_halts, step_link}
use Rattle.lanes_model.proofs.Laws.Runs.{ahead, ahead_less, ahead_some, ahead_step}
use Rattle.lanes_model.proofs.Laws.Walks.{by_lanes, few, inside, lanes_run, walk_call_lem, walk_in_lem, walk_passed, walk_passed_in}

module _ (bs : List Block) (b : ℕ) (f : Falls bs b) (s : Save) where
  abbrev Ends : ℕ → Type 0
  Ends m = (k : ℕ) (v : List ℤ) (j : ℕ) → k < m → LedTo bs b k → ahead b m ≤ j → (run bs s j k v).answer ≢ budget_spent

  ends_at : (m : ℕ) → Ends m → (v : List ℤ) (j : ℕ) → LedTo bs b m → ahead b (suc m) ≤ j → (run bs s j m v).answer ≢ budget_spent
  unfolding run_by
  ends_at m ih v zero g q = absurd (ahead_some b m (λ e. not_again f (rw e at g)) q)
  ends_at m ih v (suc j) g q = go (step bs s m v) refl
    where
      go : (o : Outcome) → step bs s m v ≡ o → (elim o as (λ x. Ran) [
        | next b' v' ↦ one_more (run bs s j b' v')
        | done v' ↦ record { answer = 0; variables = v'; entered = 1 }
        | halt r v' ↦ record { answer = r; variables = v'; entered = 1 }
      ]).answer ≢ budget_spent
      go (next k w) e =
          let l = step_link bs s m k v w e in
          ih k w j (f.lower g l) (onward g l) (ahead_step b m j (λ c. not_again f (rw c at g)) q)
      go (done w) e = λ z. omega arith
      go (halt r w) e = step_halts bs s m r v w e

  ends_all : (m : ℕ) → Ends m
  ends_all zero k v j l g q = absurd (omega arith)
  ends_all (suc m) k v j l g q = by (dec_le m k) (ends_all m)
    where
      by : Dec (m ≤ k) → Ends m → (run bs s j k v).answer ≢ budget_spent
      by (yes c) ih = let e : k ≡ m = omega arith in rw e (ends_at m ih v j (rw e at g) q)
      by (no c) ih = ih k v j (omega arith) g (ahead_less b m j q)

  run_ends : ((k : ℕ) → Link bs b k → k < length bs) → b < length bs → (budget : ℕ) → length bs ≤ suc budget → (v : List ℤ) → (run bs s (suc budget) b v).answer ≢ budget_spent
  unfolding run_by
  run_ends inside here budget few v = go (step bs s b v) refl
    where
      go : (o : Outcome) → step bs s b v ≡ o → (elim o as (λ x. Ran) [
        | next b' v' ↦ one_more (run bs s budget b' v')
        | done v' ↦ record { answer = 0; variables = v'; entered = 1 }
        | halt r v' ↦ record { answer = r; variables = v'; entered = 1 }
      ]).answer ≢ budget_spent
      go (next k w) e = let l = step_link bs s b k v w e in ends_all (length bs) k w budget (inside k l) (root l) (omega arith)
      go (done w) e = λ z. omega arith
      go (halt r w) e = step_halts bs s b r v w e

-- each save's own run is refused with another number or not at all
abbrev NotSpent : Ran → Type 0
NotSpent r = r.answer ≢ budget_spent

every_run : (P : Ran → Type 0) (own : Save → Ran) → ((s : Save) → P (own s)) → (ss : List Save) → Every P (map own ss)
every_run P own f [] = tt
every_run P own f (s ∷ ss) = (f s, every_run P own f ss)

module _ (sc : Script) (b : ℕ) (judged : script_refusal sc ≡ 0) (here : b < length sc.blocks) (f : Falls sc.blocks b) where
  lanes_end : (ss : List Save) (w : Walked) → w ≡ by_lanes sc.blocks b ss → Every NotSpent w.runs
  lanes_end ss w e =
      subst (λ (x : Walked). Every NotSpent x.runs) (sym e)
      (subst (Every NotSpent) (sym (lanes_run sc b judged here f ss))
      (every_run NotSpent (λ s. run sc.blocks s lane_budget b s.variables) (λ s. run_ends sc.blocks b f s (inside sc b judged here f) here 4095 (few sc b judged here f) s.variables) ss))

-- on trees
pub walk_ends : (h : Sheet) (sc : Script) (b : ℕ) (ss : List Save) → Every (λ r. r.answer ≢ budget_spent) (walk_call h sc b ss).runs
unfolding walk_call
walk_ends h sc b ss = by (walk_refusal h sc b ss) refl
  where
    by : (n : ℕ) → walk_refusal h sc b ss ≡ n → Every NotSpent (walk_call h sc b ss).runs
    by zero e =
        let p = walk_passed _ _ sc.blocks b (length ss) e in
        let c = shared_passed h (script_refusal sc) sc b p.call in
        lanes_end sc b c.1 (setup_inside sc b c.2) p.falling ss (walk_call h sc b ss) (walk_call_lem h sc b ss e)
    by (suc n) e = rw e tt

-- on a record
pub walk_ends_in : (h : Sheet) (m : Memory) (b k : ℕ) (f : Save) → Every (λ r. r.answer ≢ budget_spent) (walk_in h m b k f).runs
unfolding walk_in
walk_ends_in h m b k f = by (walk_refusal_in h m b k f) refl
  where
    by : (n : ℕ) → walk_refusal_in h m b k f ≡ n → Every NotSpent (walk_in h m b k f).runs
    by zero e =
        let p = walk_passed_in h m b k f e in
        lanes_end (script_of m) b p.judged p.here p.falling (saves_in h k f) (walk_in h m b k f) (walk_in_lem h m b k f e)
    by (suc n) e = rw e tt
