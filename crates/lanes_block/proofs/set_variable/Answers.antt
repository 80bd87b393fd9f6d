use Rattle.std.proofs.Common.{◌≡◌, rules, to_z, of_z, w32}
use Rattle.model.specs.Memory.{nodes_in, tree}
use Rattle.expr.specs.Tree.{below_root}
use Rattle.lanes_expr.proofs.Values.{imm_found}
use Rattle.lanes_block.proofs.Sets.{imm_always}
use Rattle.lanes_block.proofs.set_variable.Goals as goal

pub returns-in-Some : goal.returns-in-Some
returns-in-Some c =
    λ d nx.
    let ns = nodes_in c.args.ws.now c.args.val.now d in
    let z : to_z w32 (of_z w32 c.in-Some.k) ≡ c.in-Some.k = search rules in
    c.set_same.ensures d nx (tree ns c.args.t) (imm_always (tree ns c.args.t) (to_z w32 (of_z w32 c.in-Some.k)) (imm_found (tree ns c.args.t) z c.in-Some.is (rw (below_root ns c.args.t) at (c.number_below.ensures d))))
