-- What a reclaim of a record tells: its array has at each old block the word of its new number (02, A.4). Assumes nothing.
use Rattle.std.specs.Prelude.{◌≡◌, List, ℕ, get_or}
use Rattle.std.proofs.Common.{arith}
use Rattle.model.specs.Memory.{script_of}
use Rattle.model.specs.RecordCalls.{Born}
use Rattle.memory.specs.Transfer.{blocks_counted, judged_kept}
use Rattle.reclaim_model.specs.Reclaim.{moved_word}
use Rattle.reclaim_model.specs.Changes.{reclaim}
use Rattle.reclaim_model.proofs.Laws.Moved.{moved_at}
use Rattle.reclaim_model.proofs.Laws.Reached.{reached_long}
use Rattle.reclaim_record.specs.Calls.{reclaim_refusal_in, lives_in, moved_in, number_after_in}
use Rattle.reclaim_record.proofs.Checks.{was_judged}

-- "the answer tells for each old block its new number or that it is gone"; past the blocks it has 0
pub moved_tells : (k : Born) (rs moved : List ℕ) → reclaim_refusal_in k rs ≡ 0 → (b : ℕ) → get_or (moved_in k rs moved) b 0 ≡ moved_word (number_after_in k (reclaim rs) b)
unfolding moved_in number_after_in
moved_tells k rs moved e b =
    let a = was_judged k rs e in
    let few = (judged_kept k.memory a.value a.rest a.was).0 in
    rw e (moved_at (lives_in k rs) b (omega (arith, reached_long (script_of k.memory).blocks rs, blocks_counted k.memory, few)))
