-- The runner (01, Runner), and the call with its checks. Assumes nothing: these are definitions.
use Rattle.std.specs.Prelude.{cond, List, [], ◌∷◌, ℕ, zero, suc, set, ℤ, pos, negsuc}
use Rattle.std.proofs.Math.Option.{Option, none, some}
use Rattle.model.specs.Refusal.{first_of, met_other, no_next, budget_spent}
use Rattle.model.specs.Signed.{is_zero}
use Rattle.model.specs.Save.{Save}
use Rattle.model.specs.Expr.{Value, ok, stop, Joins, bitwise, eval_by}
use Rattle.model.specs.Sheet.{Sheet, save_refusal}
use Rattle.model.specs.Script.{Command, return, goto, set_variable, set_other, if_else, end_if, other_command, Block, placeholder, code, data_block, Script, block_at}
use Rattle.model.specs.Judge.{script_refusal, shared_refusal}

-- where a block leads, with the variables of that moment: to a block, to Return, to a refusal
pub data Outcome : Type 0 where
  next : ℕ → List ℤ → Outcome
  done : List ℤ → Outcome
  halt : ℕ → List ℤ → Outcome

-- 14: a next block is needed and there is none
abbrev pub follow : Option ℕ → List ℤ → Outcome
follow none v = halt no_next v
follow (some k) v = next k v

-- writes outside the save do nothing
abbrev pub store : List ℤ → ℤ → ℤ → List ℤ
store v (pos n) z = set v n z
store v (negsuc n) z = v

abbrev pub or_halt : Value → List ℤ → (ℤ → Outcome) → Outcome
or_halt (ok x) v f = f x
or_halt (stop n) v f = halt n v

-- Set evaluates target, then value, then writes; If nonzero takes next, else its else target; Goto and EndIf their target; Return ends; after the last command, next
abbrev pub execute_by : Joins → Save → Option ℕ → List Command → List ℤ → Outcome
execute_by j s nx [] v = follow nx v
execute_by j s nx (return ∷ cs) v = done v
execute_by j s nx (goto k ∷ cs) v = next k v
execute_by j s nx (set_variable t e ∷ cs) v = or_halt (eval_by j s v t) v (λ k. or_halt (eval_by j s v e) v (λ x. execute_by j s nx cs (store v k x)))
execute_by j s nx (set_other e ∷ cs) v = halt met_other v
execute_by j s nx (if_else c k ∷ cs) v = or_halt (eval_by j s v c) v (λ x. cond (is_zero x) (next k v) (follow nx v))
execute_by j s nx (end_if k ∷ cs) v = next k v
execute_by j s nx (other_command ∷ cs) v = halt met_other v

-- 13: a block that is not code
abbrev pub enter_by : Joins → Save → Block → List ℤ → Outcome
enter_by j s placeholder v = halt met_other v
enter_by j s (code cs nx el) v = execute_by j s nx cs v
enter_by j s data_block v = halt met_other v

unfoldable pub step_by : Joins → List Block → Save → ℕ → List ℤ → Outcome
step_by j bs s b v = enter_by j s (block_at bs b) v

-- the refusal or 0, the variables where the run stopped, the count of blocks entered
pub record Ran : Type 0 where
  pub answer : ℕ
  pub variables : List ℤ
  pub entered : ℕ

abbrev pub one_more : Ran → Ran
one_more r = record { answer = r.answer; variables = r.variables; entered = suc r.entered }

-- entering a block of any kind costs 1, counts 1 and needs budget left
unfoldable pub run_by : Joins → List Block → Save → ℕ → ℕ → List ℤ → Ran
run_by j bs s zero b v = record { answer = budget_spent; variables = v; entered = 0 }
run_by j bs s (suc k) b v =
    elim (step_by j bs s b v) [
      | next b' v' ↦ one_more (run_by j bs s k b' v')
      | done v' ↦ record { answer = 0; variables = v'; entered = 1 }
      | halt r v' ↦ record { answer = r; variables = v'; entered = 1 }
    ]

-- ---- the call: 1 to 7, 12, then the run; the count is 0 where 1 to 12 refuse

abbrev pub unless_refused : ℕ → List ℤ → Ran → Ran
unless_refused zero v r = r
unless_refused (suc n) v r = record { answer = suc n; variables = v; entered = 0 }

-- n is what the judgement of the script answered
unfoldable pub run_checked_by : Joins → Sheet → ℕ → Script → ℕ → Save → ℕ → Ran
run_checked_by j h n sc b s budget =
    unless_refused (first_of (shared_refusal h n sc b ∷ save_refusal h s ∷ [])) s.variables (run_by j sc.blocks s budget b s.variables)

abbrev pub run_call_by : Joins → Sheet → Script → ℕ → Save → ℕ → Ran
run_call_by j h sc b s budget = run_checked_by j h (script_refusal sc) sc b s budget

-- ---- BitAnd and BitOr being bitwise (A.5)

abbrev pub execute : Save → Option ℕ → List Command → List ℤ → Outcome
execute s nx cs v = execute_by bitwise s nx cs v

abbrev pub enter : Save → Block → List ℤ → Outcome
enter s x v = enter_by bitwise s x v

abbrev pub step : List Block → Save → ℕ → List ℤ → Outcome
step bs s b v = step_by bitwise bs s b v

abbrev pub run : List Block → Save → ℕ → ℕ → List ℤ → Ran
run bs s budget b v = run_by bitwise bs s budget b v

abbrev pub run_checked : Sheet → ℕ → Script → ℕ → Save → ℕ → Ran
run_checked h n sc b s budget = run_checked_by bitwise h n sc b s budget

abbrev pub run_call : Sheet → Script → ℕ → Save → ℕ → Ran
run_call h sc b s budget = run_call_by bitwise h sc b s budget
