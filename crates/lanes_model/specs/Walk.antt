-- The walk of many saves: its checks in their order, each save's own run, and how many blocks are read (02, A.8). Assumes nothing: these are definitions.
use Rattle.std.specs.Prelude.{Bool, false, cond, ◌&&◌, ◌||◌, List, [], ◌∷◌, map, ℕ, zero, suc, leb, eqb, length, ℤ}
use Rattle.model.specs.Limits.{most_saves, lane_budget}
use Rattle.model.specs.Refusal.{check, first_of, bad_save, bad_walk}
use Rattle.model.specs.Save.{Save}
use Rattle.model.specs.Sheet.{Sheet, all, save_ok}
use Rattle.model.specs.Script.{Block, Script}
use Rattle.model.specs.Judge.{call_refusal}
use Rattle.model.specs.Run.{Outcome, next, done, halt, step, Ran, run_call}
use Rattle.lanes_model.specs.Falls.{falls}

-- ---- the checks

-- 22: 0 or more than 64 saves, or a block that b leads to has a link that does not go to a lower number
abbrev pub walk_ok : List Block → ℕ → ℕ → Bool
walk_ok bs b k = (leb 1 k && leb k most_saves) && falls bs b

-- 1 to 7, of which n is the answer; 12 where not every save fits, those past the 64th too; 22
unfoldable pub walk_checks : ℕ → Bool → List Block → ℕ → ℕ → ℕ
walk_checks n fit bs b k = first_of (n ∷ check fit bad_save ∷ check (walk_ok bs b k) bad_walk ∷ [])

-- ---- the blocks that a run enters, in their order

abbrev pub beyond : (ℕ → List ℤ → List ℕ) → Outcome → List ℕ
beyond f (next k v) = f k v
beyond f (done v) = []
beyond f (halt r v) = []

-- block b first, whatever its kind, and then where it leads, as long as there is budget
unfoldable pub trail : List Block → Save → ℕ → ℕ → List ℤ → List ℕ
trail bs s zero b v = []
trail bs s (suc n) b v = b ∷ beyond (λ k w. trail bs s n k w) (step bs s b v)

abbrev pub any : {A : Type 0} → (A → Bool) → List A → Bool
any p [] = false
any p (x ∷ xs) = p x || any p xs

-- at least one of the runs enters block c
abbrev pub enters_any : List Block → ℕ → List Save → ℕ → Bool
enters_any bs b ss c = any (λ s. any (eqb c) (trail bs s lane_budget b s.variables)) ss

-- how many numbers below n are so
abbrev pub count_below : ℕ → (ℕ → Bool) → ℕ
count_below zero p = 0
count_below (suc n) p = cond (p n) (suc (count_below n p)) (count_below n p)

-- the blocks that at least one of the runs enters, each counted once
abbrev pub blocks_entered : List Block → ℕ → List Save → ℕ
blocks_entered bs b ss = count_below (length bs) (enters_any bs b ss)

-- ---- the call

-- the refusal or 0; each save's own run: its refusal, variables and count; how many blocks were read
pub record Walked : Type 0 where
  pub answer : ℕ
  pub runs : List Ran
  pub read : ℕ

-- refused, no save is run and no block read
abbrev pub unless_refused : ℕ → List Ran → ℕ → Walked
unless_refused zero rs n = record { answer = 0; runs = rs; read = n }
unless_refused (suc r) rs n = record { answer = suc r; runs = []; read = 0 }

abbrev pub walk_refusal : Sheet → Script → ℕ → List Save → ℕ
walk_refusal h sc b ss = walk_checks (call_refusal h sc b) (all (save_ok h) ss) sc.blocks b (length ss)

unfoldable pub walk_call : Sheet → Script → ℕ → List Save → Walked
walk_call h sc b ss = unless_refused (walk_refusal h sc b ss) (map (λ s. run_call h sc b s lane_budget) ss) (blocks_entered sc.blocks b ss)
