-- Saves lent one behind another, the walk of a script record over them, and what it leaves in the arrays that it writes (02, A.8). Assumes nothing: these are definitions.
use Rattle.std.specs.Prelude.{Bool, ◌&&◌, List, [], ◌∷◌, ◌++◌, map, ℕ, zero, suc, ◌*◌, eqb, length, take, drop, ℤ}
use Rattle.std.proofs.lemmas.List.Edits.{sets}
use Rattle.model.specs.Limits.{flag_count, time_count, variable_count, lane_budget}
use Rattle.model.specs.Save.{Save}
use Rattle.model.specs.Sheet.{Sheet, all, item_count, save_ok}
use Rattle.model.specs.Run.{Ran}
use Rattle.model.specs.Memory.{Memory, script_of}
use Rattle.model.specs.RecordCalls.{call_in, run_in}
use Rattle.lanes_model.specs.Walk.{Walked, blocks_entered, unless_refused, walk_checks}

-- ---- the saves: five lists f that hold those of k saves one behind another, n items and m atcs each

-- part j of a list of parts of that width
abbrev pub part : {A : Type 0} → ℕ → ℕ → List A → List A
part w j xs = take w (drop (j * w) xs)

-- save j
abbrev pub save_in : ℕ → ℕ → Save → ℕ → Save
save_in n m f j = record {
  items = part n j f.items;
  atcs = part m j f.atcs;
  flags = part flag_count j f.flags;
  times = part time_count j f.times;
  variables = part variable_count j f.variables;
}

-- k saves from save j on
abbrev pub saves_from : ℕ → ℕ → Save → ℕ → ℕ → List Save
saves_from n m f j zero = []
saves_from n m f j (suc k) = save_in n m f j ∷ saves_from n m f (suc j) k

abbrev pub saves_in : Sheet → ℕ → Save → List Save
saves_in h k f = saves_from (item_count h) h.atc_count f 0 k

-- each list is as long as k saves have it
abbrev pub lengths_ok : Sheet → ℕ → Save → Bool
lengths_ok h k f =
    eqb (length f.items) (k * item_count h)
    && (eqb (length f.atcs) (k * h.atc_count)
    && (eqb (length f.flags) (k * flag_count)
    && (eqb (length f.times) (k * time_count)
    && eqb (length f.variables) (k * variable_count))))

-- 12 of all of them: a list of another length, or a save that does not fit
unfoldable pub saves_ok : Sheet → ℕ → Save → Bool
saves_ok h k f = lengths_ok h k f && all (save_ok h) (saves_in h k f)

-- ---- the walk of a record

abbrev pub walk_refusal_in : Sheet → Memory → ℕ → ℕ → Save → ℕ
walk_refusal_in h m b k f = walk_checks (call_in h m b) (saves_ok h k f) (script_of m).blocks b k

unfoldable pub walk_in : Sheet → Memory → ℕ → ℕ → Save → Walked
walk_in h m b k f =
    unless_refused (walk_refusal_in h m b k f) (map (λ s. run_in h m b s lane_budget) (saves_in h k f)) (blocks_entered (script_of m).blocks b (saves_in h k f))

-- ---- what the call answers, and leaves in the memory that it writes: a refusal and a count for each save in two arrays, and the variables one behind another

pub record Left : Type 0 where
  pub answer : ℕ
  pub read : ℕ
  pub refusals : List ℕ
  pub counts : List ℕ
  pub variables : List ℤ

abbrev pub joined : List (List ℤ) → List ℤ
joined [] = []
joined (xs ∷ xss) = xs ++ joined xss

-- the promise of the call is one equation with this, of the arrays as they were before: from the first place on, what each run left; places past the last run stay as they were, and where no save is run all do
abbrev pub left_by : Walked → List ℕ → List ℕ → List ℤ → Left
left_by w rs es vs = record {
  answer = w.answer;
  read = w.read;
  refusals = sets rs 0 (map (λ (r : Ran). r.answer) w.runs);
  counts = sets es 0 (map (λ (r : Ran). r.entered) w.runs);
  variables = sets vs 0 (joined (map (λ (r : Ran). r.variables) w.runs));
}
