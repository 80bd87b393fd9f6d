-- What is left of the walk, with the blocks read on top, is the walk from the entry, and word is the highest where a lane stands.
use Rattle.std.proofs.Common.{List, ℤ}
use Rattle.model.specs.Memory.{script_of}
use Rattle.memory.specs.View.{memory_of}
use Rattle.checks.specs.Calls.{save_of}
use Rattle.lanes_model.specs.Flat.{save_in}
use Rattle.lanes.specs.Standing.{Highest}
use Rattle.lanes.specs.Walks.{Walking}
use Rattle.lanes.proofs.walk_down.Given as goal

abbrev pub invariant-loop-word : goal.invariant-loop-word
invariant-loop-word l = record {
  walking : (v : List ℤ) → Walking (save_in l.w.items l.w.atcs (save_of l.items l.atcs l.flags l.times v)) (script_of (memory_of l.ws l.val l.cw l.bw l.counts)).blocks l.counts.blocks l.w.lanes l.initial.at l.initial.answers l.initial.entered l.initial.vars l.top l.read l.at l.answers l.entered l.vars;
  highest : Highest l.at l.top l.w.lanes l.word;
}

abbrev pub decreases-loop-word : goal.decreases-loop-word
decreases-loop-word l = l.word
