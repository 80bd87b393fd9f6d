-- The loop of `tell_moved`: which words are still to be written.
use Rattle.std.proofs.Common.{take}
use Rattle.reclaim_model.specs.Reclaim.{moved_words}
use Rattle.reclaim_pack.specs.Answer.{Telling}
use Rattle.reclaim_pack.proofs.answer.tell_moved.Given as goal

abbrev pub invariant-loop-b : goal.invariant-loop-b
invariant-loop-b l = Telling l.live l.table l.blocks l.b-end (moved_words (take l.blocks l.live)) l.moved l.b
