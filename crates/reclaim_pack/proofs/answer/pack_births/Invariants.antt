-- The loop of `pack_births`: which marks are still to be moved.
use Rattle.std.proofs.Common.{take}
use Rattle.std.proofs.lemmas.List.Edits.{sets}
use Rattle.reclaim_model.specs.Reclaim.{survivors}
use Rattle.reclaim_pack.specs.Answer.{Keeping}
use Rattle.reclaim_pack.proofs.answer.pack_births.Given as goal

abbrev pub invariant-loop-b : goal.invariant-loop-b
invariant-loop-b l = Keeping l.live l.blocks l.b-end (sets l.initial.births 0 (survivors (take l.blocks l.live) (take l.blocks l.initial.births))) l.births l.n l.b
