-- What the exported call answers, in the terms of the definitions. Assumes nothing: these are definitions.
use Rattle.std.specs.Prelude.{List, ℕ}
use Rattle.model.specs.Save.{Save}
use Rattle.shopper_model.specs.Shopper.{Left}
use Rattle.capi_shopper.specs.declared.Shopped.{Shopped}

-- the answer, with the arrays and the save that the call writes
abbrev pub left_as : Shopped → List ℕ → List ℕ → Save → Left
left_as r ns cs s = record { refusal = r.refusal; steps = r.steps; money = r.money; answers = ns; coins = cs; save = s }
