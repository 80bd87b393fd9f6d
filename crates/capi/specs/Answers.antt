-- What the numbers of the library's calls stand for: loaders, and the answers with what they leave in the arrays. Assumes nothing: these are definitions.
use Rattle.std.specs.Prelude.{List, ℕ, zero, suc, ℤ}
use Rattle.model.specs.declared.Loader.{Loader}
use Rattle.model.specs.declared.Loader.TheVariants.{Disc, Demo}
use Rattle.memory.specs.declared.Counts.{Counts}
use Rattle.model.specs.Memory.{Memory}
use Rattle.model.specs.Run as Run
use Rattle.memory.specs.View.{memory_of}
use Rattle.image_read.specs.Outcome.{Outcome, held, nothing}
use Rattle.capi_values.specs.Values.{counts_by}
use Rattle.capi.specs.declared.Kept.{Kept}
use Rattle.preview.specs.Shown as Preview
use Rattle.capi.specs.declared.Ran.{Ran}
use Rattle.capi.specs.declared.Previewed.{Previewed}

abbrev pub counts_in : Kept → Counts
counts_in r = counts_by r.nodes r.commands r.blocks

-- 0 is the disc, every other number the demo
abbrev pub loader_by : ℕ → Loader
loader_by zero = Disc
loader_by (suc n) = Demo

-- 0 is acceptance
abbrev pub outcome_by : ℕ → Memory → Outcome
outcome_by zero m = held m
outcome_by (suc n) m = nothing (suc n) m

-- the record that a read leaves, its counts being 0 where it is refused
unfoldable pub read_as : Kept → List ℕ → List ℤ → List ℕ → List ℕ → Outcome
read_as r ws vs cw bw = outcome_by r.refusal (memory_of ws vs cw bw (counts_in r))

abbrev pub ran_as : Ran → List ℤ → Run.Ran
ran_as r v = record { answer = r.refusal; variables = v; entered = r.entered }

abbrev pub previewed_as : Previewed → Preview.Answer
previewed_as r = record { refusal = r.refusal; items = r.items; counts = r.counts; temp = r.temp }
