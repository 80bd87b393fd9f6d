-- By the kind found at the node, lane by lane.
use Rattle.std.proofs.Common.{◌≡◌, refl, ap, ◌∙◌, rules, get_or, pos, to_z, of_z, w32}
use Rattle.model.specs.Memory.{nodes_in, left_at, right_at}
use Rattle.expr.specs.Tree.{tree_below}
use Rattle.expr.specs.Value.{reads}
use Rattle.lanes_expr.proofs.Values.{imm_found, out_done, same_done, two_done, one_done, number_done, imm_done, other_done}
use Rattle.lanes_expr.proofs.+evaluate_lanes.Goals as goal

pub returns-then-i-b : goal.returns-then-i-b
returns-then-i-b t c =
    λ k.
    let save = reads c.args.items.now c.args.atcs.now c.args.flags.now c.args.times.now in
    out_done c.args.w.items c.args.w.atcs save c.args.vs.now c.args.ls.now c.args.w.lanes (nodes_in c.args.ws.now c.args.val.now k) c.args.b c.args.i c.if-i-b.true (rw c.number.ensures at c.stop_lanes.ensures)

pub returns-in-Some : goal.returns-in-Some
returns-in-Some t c =
    λ k.
    let save = reads c.args.items.now c.args.atcs.now c.args.flags.now c.args.times.now in
    let ns = nodes_in c.args.ws.now c.args.val.now k in
    let l = c.evaluate_lanes in
    let z : to_z w32 (of_z w32 c.in-Some.z) ≡ c.in-Some.z = search rules in
    two_done c.args.w.items c.args.w.atcs save c.args.vs.now c.args.ls.now c.args.w.lanes ns c.args.b c.args.i
    c.if-i-b.false _ (rw c.from-at.ensures at c.kind_of.ensures) {rs = c.args.rs.now} {rs₁ = l.new.rs} {rs₂ = l.new.rs} {xs = l.new.xs} _ c.in-Two.is (rw c.from-at.ensures at (l.ensures k))
    (same_done c.args.w.items c.args.w.atcs save c.args.vs.now c.args.ls.now c.args.w.lanes ns c.args.b c.args.i {rs = l.new.rs} _ (imm_found (tree_below ns c.args.i (right_at ns c.args.i)) z c.in-Some.is (rw c.from-at.ensures at (c.number_below.ensures k))) c.requires.1.few refl)
    c.apply_two_lanes.ensures

pub returns-in-None : goal.returns-in-None
returns-in-None t c =
    λ k.
    let save = reads c.args.items.now c.args.atcs.now c.args.flags.now c.args.times.now in
    let l = c.evaluate_lanes in
    let r = c.evaluate_lanes-in-None in
    two_done c.args.w.items c.args.w.atcs save c.args.vs.now c.args.ls.now c.args.w.lanes (nodes_in c.args.ws.now c.args.val.now k) c.args.b c.args.i
    c.if-i-b.false _ (rw c.from-at.ensures at c.kind_of.ensures) {rs = c.args.rs.now} {rs₁ = l.new.rs} {rs₂ = r.new.rs} {xs = l.new.xs} {ys = r.new.xs} _ c.in-Two.is
    (rw c.from-at.ensures at (l.ensures k)) (rw c.from-at.ensures at (r.ensures k)) c.apply_two_lanes-in-None.ensures

pub returns-in-Some-number_below : goal.returns-in-Some-number_below
returns-in-Some-number_below t c =
    λ k.
    let save = reads c.args.items.now c.args.atcs.now c.args.flags.now c.args.times.now in
    let ns = nodes_in c.args.ws.now c.args.val.now k in
    let z : to_z w32 (of_z w32 c.in-Some-number_below.z) ≡ c.in-Some-number_below.z = search rules in
    number_done c.args.w.items c.args.w.atcs save c.args.vs.now c.args.ls.now c.args.w.lanes ns c.args.b c.args.i
    c.if-i-b.false _ (rw c.from-at.ensures at c.kind_of.ensures) _ _ c.in-One.is (imm_found (tree_below ns c.args.i (left_at ns c.args.i)) z c.in-Some-number_below.is (rw c.from-at.ensures at (c.number_below-in-One.ensures k)))
    c.stop_same.ensures c.apply_same_lanes.ensures

pub returns-in-None-number_below : goal.returns-in-None-number_below
returns-in-None-number_below t c =
    λ k.
    let save = reads c.args.items.now c.args.atcs.now c.args.flags.now c.args.times.now in
    let l = c.evaluate_lanes-in-None-number_below in
    one_done c.args.w.items c.args.w.atcs save c.args.vs.now c.args.ls.now c.args.w.lanes (nodes_in c.args.ws.now c.args.val.now k) c.args.b c.args.i
    c.if-i-b.false _ (rw c.from-at.ensures at c.kind_of.ensures) {rs = c.args.rs.now} {rs₁ = l.new.rs} {xs = l.new.xs} _ c.in-One.is (rw c.from-at.ensures at (l.ensures k)) c.stop_each.ensures c.apply_one_lanes.ensures

pub returns-in-Imm16 : goal.returns-in-Imm16
returns-in-Imm16 t c =
    λ k.
    let save = reads c.args.items.now c.args.atcs.now c.args.flags.now c.args.times.now in
    let z : to_z w32 (of_z w32 (get_or c.args.val.now c.from-at.result (pos 0))) ≡ get_or c.args.val.now c.from-at.result (pos 0) = search rules in
    imm_done c.args.w.items c.args.w.atcs save c.args.vs.now c.args.ls.now c.args.w.lanes (nodes_in c.args.ws.now c.args.val.now k) c.args.b c.args.i
    c.if-i-b.false _ (rw c.from-at.ensures at c.kind_of.ensures) c.in-Imm16.is (z ∙ ap (λ i. get_or c.args.val.now i (pos 0)) c.from-at.ensures) c.fill.ensures

pub returns-in-Other : goal.returns-in-Other
returns-in-Other t c =
    λ k.
    let save = reads c.args.items.now c.args.atcs.now c.args.flags.now c.args.times.now in
    other_done c.args.w.items c.args.w.atcs save c.args.vs.now c.args.ls.now c.args.w.lanes (nodes_in c.args.ws.now c.args.val.now k) c.args.b c.args.i
    c.if-i-b.false _ (rw c.from-at.ensures at c.kind_of.ensures) c.in-Other.is (rw c.number-in-Other.ensures at c.stop_lanes-in-Other.ensures)
