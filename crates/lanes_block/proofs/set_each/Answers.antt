use Rattle.std.proofs.Common.{rules, get_or, pos}
use Rattle.model.specs.Memory.{nodes_in}
use Rattle.expr.specs.Tree.{below_root}
use Rattle.lanes_block.specs.Flows.{valued_worth, set_does}
use Rattle.lanes_block.proofs.set_each.Goals as goal

-- t': the values and the refusals that the call left
pub returns : goal.returns
returns c =
    λ d nx.
    let t = c.evaluate_lanes in
    let t' = t.new in
    let v = c.evaluate_lanes-2 in
    let v' = v.new in
    let ns = nodes_in c.args.ws.now c.args.val.now d in
    set_does {rs₁ = t'.rs} (valued_worth {xs = t'.xs} (rw (below_root ns c.args.t) at (t.ensures d))) (valued_worth {rs = t'.rs} {xs = v'.xs} (rw (below_root ns c.args.v) at (v.ensures d)))
    (c.store_lanes.ensures (λ j. get_or t'.xs j (pos 0)) (λ j. get_or v'.xs j (pos 0)) (λ j z l p. search rules) (λ j z l p. search rules))
