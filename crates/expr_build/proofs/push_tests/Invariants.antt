use Rattle.std.proofs.Common.{◌<◌, ◌≤◌}
use Rattle.model.specs.Expr.{Expr}
use Rattle.model.specs.Compile.{join_tests}
use Rattle.model.specs.Memory.{Nodes, nodes_in}
use Rattle.memory.specs.Pushed.{PutExpr}
use Rattle.expr_build.specs.Tests.{codes_rest}
use Rattle.expr_build.proofs.push_tests.Given as goal

abbrev pub invariant-loop-i : goal.invariant-loop-i
invariant-loop-i l =
    ((s : Nodes) (e : Expr) → PutExpr s e (nodes_in l.initial.ws l.initial.val l.initial.at) → PutExpr s (join_tests e (codes_rest l.codes l.i)) (nodes_in l.ws l.val l.at))
    × (0 < l.i) × (l.i ≤ l.len)
