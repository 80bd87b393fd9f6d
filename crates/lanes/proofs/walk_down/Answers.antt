use Rattle.std.proofs.Common.{[], arith}
use Rattle.lanes.specs.Walks.{walking_on, walked_down, walking_counts, lying_still}
use Rattle.lanes.proofs.walk_down.Goals as goal

pub visit_standing-requires : goal.visit_standing-requires
visit_standing-requires c =
    (c.requires.0, lying_still c.requires.1 (c.loop-word.invariant.walking []).long, omega arith, walking_counts (c.loop-word.invariant.walking []) c.requires.2 c.requires.0.few)

pub overflow_add-read : goal.overflow_add-read
overflow_add-read c = omega (arith, (c.loop-word.invariant.walking []).low, c.requires.0.few)

pub loop-word-preserved : goal.loop-word-preserved
loop-word-preserved c = record {
  walking = λ v. walking_on _ _ _ _ _ _ _ _ (c.loop-word.invariant.walking v) c.loop-word.word c.loop-word.invariant.highest c.loop-word-test.true (c.visit_standing.ensures v);
  highest = c.highest-word-in-loop-word.ensures;
}

pub returns : goal.returns
returns c = λ v. walked_down _ _ _ _ _ _ _ _ (c.loop-word.invariant.walking v) c.loop-word.invariant.highest c.loop-word-test.false
