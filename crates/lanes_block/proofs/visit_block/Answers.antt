use Rattle.std.proofs.Common.{ℕ}
use Rattle.model.proofs.Laws.Places.{all_one}
use Rattle.lanes_block.specs.Flows.{visited}
use Rattle.lanes_block.proofs.visit_block.Goals as goal

-- no lane has stopped yet
pub returns : goal.returns
returns c = visited (λ j h. all_one {A = ℕ} 0 64 j) c.step_block-exit.ensures c.settle.ensures
