-- What the exported walk answers, in the terms of the definitions. Assumes nothing: these are definitions.
use Rattle.std.specs.Prelude.{List, ℕ, ℤ}
use Rattle.lanes_model.specs.Flat.{Left}
use Rattle.capi_lanes.specs.declared.Walked.{Walked}

-- the answer, with the memory that the call writes
abbrev pub left_as : Walked → List ℕ → List ℕ → List ℤ → Left
left_as r refusals entered vars = record { answer = r.refusal; read = r.read; refusals = refusals; counts = entered; variables = vars }
