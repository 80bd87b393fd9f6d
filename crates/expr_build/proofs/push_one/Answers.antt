use Rattle.expr_build.proofs.push_one.Goals as goal

pub returns : goal.returns
returns c = rw c.code_one.ensures at c.push_node.ensures
