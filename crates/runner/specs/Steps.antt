-- What the runner's steps answer, in the terms of the definitions, and what they want of the arrays. Assumes nothing: these are definitions.
use Rattle.std.specs.Prelude as code
use Rattle.std.specs.Prelude.{◌≡◌, List, ◌∷◌, ℕ, ◌+◌, ◌*◌, ◌≤◌, ◌<◌, get_or, ℤ, None, Some, Result, Ok, Err}
use Rattle.std.specs.declared.ops.ControlFlow.{ControlFlow}
use Rattle.std.specs.declared.ops.ControlFlow.TheVariants.{Continue, Break}
use Rattle.std.proofs.Math.Option.{Option}
use Rattle.model.specs.Limits.{node_limit, command_limit, block_limit}
use Rattle.model.specs.Save.{Save}
use Rattle.model.specs.Refusals.{refusal_number}
use Rattle.model.specs.declared.BlockNo.{BlockNo}
use Rattle.model.specs.declared.Refusal.{Refusal}
use Rattle.model.specs.Script.{Command}
use Rattle.model.specs.Run.{Outcome, next, done, halt, execute}

-- where a block leads, and where a command does, as the code answers
abbrev pub Step : Type 0
Step = Result (code.Option BlockNo) Refusal

abbrev pub Flow : Type 0
Flow = Result (ControlFlow (code.Option BlockNo) Unit) Refusal

-- the definition's outcome for each case, with the variables of that moment
abbrev pub outcome_of : Step → List ℤ → Outcome
outcome_of (Ok (Some k)) v = next k.0 v
outcome_of (Ok None) v = done v
outcome_of (Err e) v = halt (refusal_number e) v

-- where a command leads that the commands cs follow
abbrev pub after : Save → Option ℕ → List Command → Flow → List ℤ → Outcome
after s nx cs (Ok (Continue u)) v = execute s nx cs v
after s nx cs (Ok (Break w)) v = outcome_of (Ok w) v
after s nx cs (Err e) v = halt (refusal_number e) v

-- command x brings the variables from v to v' and leads where r says
pub record Flows (s : Save) (nx : Option ℕ) (x : Command) (v : List ℤ) (r : Flow) (v' : List ℤ) : Type 0 where
  pub is : (cs : List Command) → execute s nx (x ∷ cs) v ≡ after s nx cs r v'

-- ---- what the arrays have to hold, as those of a judged record do

-- command c lies in its array, and so do the nodes of its expressions in theirs
pub record Readable (cw : List ℕ) (c : ℕ) : Type 0 where
  pub low : c < command_limit
  pub target : get_or cw (4 * c) 0 ≡ 2 → get_or cw (4 * c + 3) 0 ≡ 0 → get_or cw (4 * c + 1) 0 < node_limit
  pub value : get_or cw (4 * c) 0 ≡ 2 → get_or cw (4 * c + 2) 0 < node_limit
  pub condition : get_or cw (4 * c) 0 ≡ 3 → get_or cw (4 * c + 1) 0 < node_limit

-- many commands from command f on
abbrev pub Readables : List ℕ → ℕ → ℕ → Type 0
Readables cw f many = (c : ℕ) → f ≤ c → c < f + many → Readable cw c

pub record Ready (cw bw : List ℕ) (b : ℕ) : Type 0 where
  pub few : b ≤ block_limit
  pub commands : (j : ℕ) → j < b → get_or bw (5 * j) 0 ≡ 1 → Readables cw (get_or bw (5 * j + 1) 0) (get_or bw (5 * j + 2) 0)
