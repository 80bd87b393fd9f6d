-- One walk for all saves: blocks in falling number, each read once for all the lanes that stand at it. Assumes nothing: these are definitions.
use Rattle.std.specs.Prelude.{Bool, true, false, cond, List, map, ℕ, zero, suc, eqb, length, ℤ}
use Rattle.model.specs.Refusal.{budget_spent}
use Rattle.model.specs.Save.{Save}
use Rattle.model.specs.Script.{Block}
use Rattle.model.specs.Run.{Outcome, next, done, halt, step, Ran}
use Rattle.lanes_model.specs.Walk.{any}

-- a lane stands at a block, with its variables and the count of blocks entered before, or has ended
pub data State : Type 0 where
  at : ℕ → List ℤ → ℕ → State
  ended : Ran → State

pub record Lane : Type 0 where
  pub save : Save
  pub state : State

abbrev pub moved : Outcome → ℕ → State
moved (next k v) n = at k v n
moved (done v) n = ended (record { answer = 0; variables = v; entered = n })
moved (halt r v) n = ended (record { answer = r; variables = v; entered = n })

abbrev pub is_at : ℕ → State → Bool
is_at b (at k v n) = eqb k b
is_at b (ended r) = false

-- block b is read: a lane that stands there steps
abbrev pub step_state : List Block → ℕ → Save → State → State
step_state bs b s (at k v n) = cond (eqb k b) (moved (step bs s b v) (suc n)) (at k v n)
step_state bs b s (ended r) = ended r

abbrev pub step_lane : List Block → ℕ → Lane → Lane
step_lane bs b l = record { save = l.save; state = step_state bs b l.save l.state }

abbrev pub any_at : ℕ → List Lane → Bool
any_at b ls = any (λ l. is_at b l.state) ls

-- the lanes after the walk, and how many blocks it read
pub record Walk : Type 0 where
  pub lanes : List Lane
  pub read : ℕ

abbrev pub one_read : Bool → Walk → Walk
one_read true w = record { lanes = w.lanes; read = suc w.read }
one_read false w = w

-- n blocks are still ahead; one where no lane stands is not read
unfoldable pub walk : List Block → ℕ → List Lane → Walk
walk bs zero ls = record { lanes = ls; read = 0 }
walk bs (suc n) ls = one_read (any_at n ls) (walk bs n (cond (any_at n ls) (map (step_lane bs n) ls) ls))

-- the setup block comes first, with all lanes
abbrev pub start_lane : List Block → ℕ → Save → Lane
start_lane bs b s = record { save = s; state = moved (step bs s b s.variables) 1 }

unfoldable pub walk_all : List Block → ℕ → List Save → Walk
walk_all bs b ss = one_read true (walk bs (length bs) (map (start_lane bs b) ss))

-- what a lane came to; after the walk of links that fall every one has ended
abbrev pub ran_of : State → Ran
ran_of (at k v n) = record { answer = budget_spent; variables = v; entered = n }
ran_of (ended r) = r
