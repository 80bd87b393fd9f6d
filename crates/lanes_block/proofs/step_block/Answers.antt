-- By the kind of the block, if it is there.
use Rattle.std.proofs.Common.{refl, sym, ap, ◌∙◌}
use Rattle.memory.specs.View.{memory_of}
use Rattle.expr.specs.Value.{reads}
use Rattle.lanes_model.specs.Flat.{save_in}
use Rattle.runner.proofs.Laws.{step_none, step_not_code, step_code}
use Rattle.lanes_block.specs.Ways.{same_way}
use Rattle.lanes_block.specs.Flows.{leaves_out, leaves_as, stop_leaves}
use Rattle.lanes_block.proofs.step_block.Goals as goal

pub returns-then-b-from : goal.returns-then-b-from
returns-then-b-from c =
    let m = memory_of c.args.ws.now c.args.val.now c.args.cw.now c.args.bw.now c.args.counts in
    leaves_out (c.both.ensures ∙ ap (same_way 0) c.number.ensures) (stop_leaves (λ t v. sym (step_none m t c.args.b v (rw c.from.ensures at c.if-b-from.true))))

pub returns-then-bw-at-ne1 : goal.returns-then-bw-at-ne1
returns-then-bw-at-ne1 c =
    let m = memory_of c.args.ws.now c.args.val.now c.args.cw.now c.args.bw.now c.args.counts in
    leaves_out (c.both-then-bw-at-ne1.ensures ∙ ap (same_way 0) c.number-then-bw-at-ne1.ensures) (stop_leaves (λ t v. sym (step_not_code m t c.args.b v (rw c.from.ensures at c.if-b-from.false) c.if-bw-at-ne1.true)))

pub execute_block-requires : goal.execute_block-requires
execute_block-requires c = (c.requires.0.commands c.args.b (rw c.from.ensures at c.if-b-from.false) c.if-bw-at-ne1.false, c.requires.1, c.requires.2)

-- x': the variables, the values and the refusals that the call left
pub returns : goal.returns
returns c =
    let m = memory_of c.args.ws.now c.args.val.now c.args.cw.now c.args.bw.now c.args.counts in
    let x = c.execute_block in
    let x' = x.new in
    leaves_as {save = save_in c.args.w.items c.args.w.atcs (reads c.args.items.now c.args.atcs.now c.args.flags.now c.args.times.now)} {ls = c.args.ls.now} {s = c.args.w.lanes} {vs = c.args.vs.now} {rs = c.args.rs.now} {vs' = x'.vs} {xs' = x'.xs} {rs' = x'.rs}
    (λ t v. sym (step_code m t c.args.b v (rw c.from.ensures at c.if-b-from.false) c.if-bw-at-ne1.false refl)) (x.ensures c.args.counts.nodes c.args.counts.commands)
