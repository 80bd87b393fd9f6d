-- What the call's checks and its answer are in the terms of the definitions. Assumes nothing: these are definitions.
use Rattle.std.specs.Prelude.{Bool, ◌&&◌, Result, Ok, Err, List, ℕ, ◌*◌, eqb, length, ℤ}
use Rattle.model.specs.Refusals.{refusal_number}
use Rattle.model.specs.declared.Refusal.{Refusal}
use Rattle.model.specs.Limits.{flag_count, time_count, variable_count}
use Rattle.model.specs.Save.{Save}
use Rattle.model.specs.Sheet.{all, is_count, is_bit}
use Rattle.lanes_model.specs.Flat.{Left}

-- k saves of n items and m atcs each
abbrev pub lengths_are : ℕ → ℕ → ℕ → Save → Bool
lengths_are k n m f =
    eqb (length f.items) (k * n)
    && (eqb (length f.atcs) (k * m)
    && (eqb (length f.flags) (k * flag_count)
    && (eqb (length f.times) (k * time_count)
    && eqb (length f.variables) (k * variable_count))))

abbrev pub values_ok : List ℤ → List ℕ → List ℕ → Bool
values_ok items atcs flags = all is_count items && (all is_bit atcs && all is_bit flags)

-- the call's answer, with the memory that it writes; refused, it read no block
abbrev pub left_of : Result ℕ Refusal → List ℕ → List ℕ → List ℤ → Left
left_of (Ok r) qs es vs = record { answer = 0; read = r; refusals = qs; counts = es; variables = vs }
left_of (Err e) qs es vs = record { answer = refusal_number e; read = 0; refusals = qs; counts = es; variables = vs }
