-- By the command's code.
use Rattle.std.proofs.Common.{◌≡◌, refl, ap, ◌∙◌, inl, inr, ⊎_elim, ◌+◌, ◌*◌, ◌<◌, get_or, arith}
use Rattle.model.specs.Memory.{coded_in, nodes_in, link_in, command_word}
use Rattle.expr.specs.Value.{reads}
use Rattle.expr.specs.Tree.{below_root}
use Rattle.lanes_model.specs.Flat.{save_in}
use Rattle.runner.proofs.Laws.{is_return, is_goto, is_set, is_set_other, is_if, is_end, is_other}
use Rattle.lanes_block.specs.Ways.{forked, same_way}
use Rattle.lanes_block.specs.Flows.{does_as, out_does, goto_way, if_does, does_out}
use Rattle.lanes_block.proofs.command.Goals as goal

pub returns-in-0 : goal.returns-in-0
returns-in-0 c =
    λ d e.
    let k = coded_in c.args.ws.now c.args.val.now c.args.cw.now d e in
    does_as _ _ (is_return k c.args.c (rw c.from-at.ensures at c.in-0.is)) (does_out c.both.ensures (out_does (λ t v cs. refl)))

pub returns-in-1 : goal.returns-in-1
returns-in-1 c =
    λ d e.
    let k = coded_in c.args.ws.now c.args.val.now c.args.cw.now d e in
    let b = command_word k c.args.c 3 in
    let w = ap (λ n. n + 1) (rw c.from-at.ensures at c.from-target.ensures) in
    ⊎_elim
    (λ q. does_as _ _ (is_goto k c.args.c (record { 0 = b }) refl q) (does_out c.both-in-1.ensures (out_does (λ t v cs. goto_way (c.from-target.result + 1) b v w))))
    (λ q. does_as _ _ (is_end k c.args.c (record { 0 = b }) refl q) (does_out c.both-in-1.ensures (out_does (λ t v cs. goto_way (c.from-target.result + 1) b v w))))
    (rw c.from-at.ensures at c.in-1.is)

pub returns-then-block-ne0 : goal.returns-then-block-ne0
returns-then-block-ne0 c =
    λ d e.
    let k = coded_in c.args.ws.now c.args.val.now c.args.cw.now d e in
    does_as _ _ (is_set_other k c.args.c (rw c.from-at.ensures at c.in-2.is) (rw c.from-at.ensures at c.if-block-ne0.true))
    (does_out (c.both-then-block-ne0.ensures ∙ ap (same_way 0) c.number.ensures) (out_does (λ t v cs. refl)))

-- v': the variables, the values and the refusals that the call left
pub returns-else-block-ne0 : goal.returns-else-block-ne0
returns-else-block-ne0 c =
    λ d e.
    let k = coded_in c.args.ws.now c.args.val.now c.args.cw.now d e in
    let v = c.set_variable in
    let v' = v.new in
    does_as {save = save_in c.args.w.items c.args.w.atcs (reads c.args.items.now c.args.atcs.now c.args.flags.now c.args.times.now)} {ls = c.args.ls.now} {s = c.args.w.lanes} {vs = c.args.vs.now} {rs = c.args.rs.now} {vs' = v'.vs} {xs' = v'.xs} {rs' = v'.rs} _ _
    (is_set k c.args.c (rw c.from-at.ensures at c.in-2.is) (rw c.from-at.ensures at c.if-block-ne0.false)) (rw c.from-at.ensures at (v.ensures d (link_in c.args.link)))

pub returns-in-3 : goal.returns-in-3
returns-in-3 c =
    λ d e.
    let k = coded_in c.args.ws.now c.args.val.now c.args.cw.now d e in
    let b = command_word k c.args.c 3 in
    let w = ap (λ n. forked c.args.link (n + 1)) (rw c.from-at.ensures at c.from-target.ensures) in
    does_as _ _ (is_if k c.args.c (record { 0 = b }) refl (rw c.from-at.ensures at c.in-3.is))
    (does_out (c.fork.ensures ∙ w) (if_does c.args.link (rw (c.from-at.ensures, below_root (nodes_in c.args.ws.now c.args.val.now d) (command_word k c.args.c 1)) at (c.evaluate_lanes.ensures d))))

pub returns-in_default : goal.returns-in_default
returns-in_default c =
    λ d e.
    let k = coded_in c.args.ws.now c.args.val.now c.args.cw.now d e in
    let g = c.in_default.in_default-own.rest.0.0.1 in
    let p : get_or c.args.cw.now (4 * c.from-at.result) 0 ≡ 1 → ⊥ = λ e. g (inl e) in
    let q : get_or c.args.cw.now (4 * c.from-at.result) 0 ≡ 4 → ⊥ = λ e. g (inr e) in
    let h : 4 < get_or c.args.cw.now (4 * c.from-at.result) 0 = omega arith in
    does_as _ _ (is_other k c.args.c (rw c.from-at.ensures at h)) (does_out (c.both-in_default.ensures ∙ ap (same_way 0) c.number-in_default.ensures) (out_does (λ t v cs. refl)))
