-- The answer of a compile and the record that it leaves. Assumes nothing: these are definitions.
use Rattle.std.specs.Prelude.{◌≡◌, ℕ, Result, Ok, Err}
use Rattle.model.specs.declared.Loader.{Loader}
use Rattle.model.specs.declared.Refusal.{Refusal}
use Rattle.model.specs.Sheet as Model
use Rattle.model.specs.Compile.{Call}
use Rattle.model.specs.RecordCalls.{Born, compile_refusal_in, compiled_in}
use Rattle.memory.specs.declared.Counts.{Counts}
use Rattle.shop.specs.declared.Shop.{Shop}
use Rattle.shop.specs.Shapes.{slots_of}
use Rattle.compile.specs.declared.Compiled.{Compiled}

-- the call as the definition takes it: the loader, the setup block and the slots
abbrev pub call_of : Loader → ℕ → Shop → Call
call_of o b s = record { loader = o; setup = b; shop = slots_of s }

-- the counts and the count of accepted compiles behind an answer: refused, both are as given
abbrev pub counts_after : Counts → Result Compiled Refusal → Counts
counts_after k (Ok c) = c.counts
counts_after k (Err e) = k

abbrev pub compiles_after : ℕ → Result Compiled Refusal → ℕ
compiles_after n (Ok c) = c.compiles
compiles_after n (Err e) = n

-- the refusal or 0, and the record after the call with its birth marks and its count of accepted compiles: refused, all are as they were
pub record CompiledAs (h : Model.Sheet) (k : Born) (c : Call) (refusal : ℕ) (after : Born) : Type 0 where
  pub answer : refusal ≡ compile_refusal_in h k c
  pub is : after ≡ compiled_in h k c
