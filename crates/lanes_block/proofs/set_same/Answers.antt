use Rattle.std.proofs.Common.{◌≡◌, refl, rules, get_or, pos, to_z, of_z, w32}
use Rattle.model.specs.Memory.{nodes_in, tree}
use Rattle.expr.specs.Tree.{below_root}
use Rattle.lanes_expr.proofs.Values.{imm_found}
use Rattle.lanes_block.specs.Flows.{valued_worth, set_does}
use Rattle.lanes_block.proofs.Sets.{imm_always, always_worth}
use Rattle.lanes_block.proofs.set_same.Goals as goal

pub returns-in-Some : goal.returns-in-Some
returns-in-Some c =
    λ d nx t p.
    let ns = nodes_in c.args.ws.now c.args.val.now d in
    let z : to_z w32 (of_z w32 c.in-Some.x) ≡ c.in-Some.x = search rules in
    set_does (always_worth refl p) (always_worth refl (imm_always (tree ns c.args.v) _ (imm_found (tree ns c.args.v) refl c.in-Some.is (rw (below_root ns c.args.v) at (c.number_below.ensures d)))))
    (c.store_lanes.ensures (λ _. c.args.k) (λ _. c.in-Some.x) (λ j y l q. search rules) (λ j y l q. search rules))

pub returns-in-None : goal.returns-in-None
returns-in-None c =
    λ d nx t p.
    let v' = c.evaluate_lanes.new in
    set_does (always_worth refl p) (valued_worth {xs = v'.xs} (rw (below_root (nodes_in c.args.ws.now c.args.val.now d) c.args.v) at (c.evaluate_lanes.ensures d)))
    (c.store_lanes-in-None.ensures (λ _. c.args.k) (λ j. get_or v'.xs j (pos 0)) (λ j y l q. search rules) (λ j y l q. search rules))
