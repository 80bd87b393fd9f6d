-- What a reclaim promises: its answer, the record after it with marks and count, and the array that tells where each block is now (02, A.4). Assumes nothing: these are definitions.
use Rattle.std.specs.Prelude.{◌≡◌, List, ℕ, Result, Ok, Err}
use Rattle.model.specs.declared.Refusal.{Refusal}
use Rattle.model.specs.RecordCalls.{Born}
use Rattle.memory.specs.declared.Counts.{Counts}
use Rattle.reclaim_record.specs.Calls.{moved_in, reclaim_refusal_in, reclaimed_in}

-- the counts behind an answer: refused, those that were given
abbrev pub counts_after : Counts → Result Counts Refusal → Counts
counts_after k (Ok after) = after
counts_after k (Err e) = k

pub record ReclaimedAs (k : Born) (roots moved : List ℕ) (refusal : ℕ) (after : Born) (told : List ℕ) : Type 0 where
  pub answer : refusal ≡ reclaim_refusal_in k roots
  pub is : after ≡ reclaimed_in k roots
  pub tells : told ≡ moved_in k roots moved
