use Rattle.expr_build.proofs.push_two.Goals as goal

pub returns : goal.returns
returns c = rw c.code_two.ensures at c.push_node.ensures
