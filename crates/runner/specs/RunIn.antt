-- The run of a script record with its checks, and that it is the definition's call of the script in it. Assumes nothing.
use Rattle.std.specs.Prelude.{◌≡◌, refl, List, [], ◌∷◌, ℕ, ℤ}
use Rattle.model.specs.Refusal.{first_of}
use Rattle.model.specs.Refusals.{refusal_in}
use Rattle.model.specs.Save.{Save}
use Rattle.model.specs.Sheet.{Sheet, save_refusal}
use Rattle.model.specs.Run.{Ran, run, unless_refused, run_checked_by}
use Rattle.model.specs.Memory.{Memory, script_of}
use Rattle.model.specs.RecordCalls.{call_in, run_in}
use Rattle.runner.specs.declared.Ran as code

-- the definition's answer for the code's, with the variables of that moment
abbrev pub ran_of : code.Ran → List ℤ → Ran
ran_of r v = record { answer = refusal_in r.outcome; variables = v; entered = r.entered }

pub run_by_call : (h : Sheet) (m : Memory) (b : ℕ) (s : Save) (k : ℕ)
    → run_in h m b s k ≡ unless_refused (first_of (call_in h m b ∷ save_refusal h s ∷ [])) s.variables (run (script_of m).blocks s k b s.variables)
unfolding run_in run_checked_by call_in
run_by_call h m b s k = refl
