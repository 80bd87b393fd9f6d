-- An image that is one is read, so no refusal is left.
use Rattle.reclaim.specs.Laws.{read_is}
use Rattle.reclaim.proofs.read_back.Goals as goal

pub returns : goal.returns
returns c = λ bs e. rw c.unwrap_or.ensures (read_is _ _ _ _ _ _ c.read_script.result c.read_script.ensures bs _ e _)
