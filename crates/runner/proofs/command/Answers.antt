use Rattle.std.proofs.Common.{◌≡◌, ap, refl, inl, inr, get_or, arith, ◌*◌, ◌<◌}
use Rattle.model.specs.Memory.{coded_in, command_word, link_in}
use Rattle.model.specs.declared.BlockNo.{BlockNo}
use Rattle.expr.specs.Value.{reads}
use Rattle.runner.proofs.Laws.{is_return, is_goto, is_set, is_set_other, is_if, is_end, is_other, flows_as, flows_out, flows_halt}
use Rattle.runner.proofs.command.Goals as goal

pub returns-in-0 : goal.returns-in-0
returns-in-0 c = λ n m. flows_as _ _ (is_return (coded_in c.args.ws.now c.args.val.now c.args.cw.now n m) c.args.c (rw c.from-at.ensures at c.in-0.is)) (flows_out (λ cs. refl))

pub returns-in-1 : goal.returns-in-1
returns-in-1 c = λ n m.
    let co = coded_in c.args.ws.now c.args.val.now c.args.cw.now n m in
    let w : BlockNo = record { 0 = c.from.result } in
    let p : ◌≡◌ {A = BlockNo} w (record { 0 = command_word co c.args.c 3 }) = ap (λ k. record { 0 = k }) (rw c.from-at.ensures at c.from.ensures) in
    elim (rw c.from-at.ensures at c.in-1.is) [
      | inl e ↦ flows_as _ _ (is_goto co c.args.c w p e) (flows_out (λ cs. refl))
      | inr e ↦ flows_as _ _ (is_end co c.args.c w p e) (flows_out (λ cs. refl))
    ]

pub returns-else-block-ne0 : goal.returns-else-block-ne0
returns-else-block-ne0 c = λ n m.
    let co = coded_in c.args.ws.now c.args.val.now c.args.cw.now n m in
    flows_as {s = reads c.args.items.now c.args.atcs.now c.args.flags.now c.args.times.now} _ _ (is_set co c.args.c (rw c.from-at.ensures at c.in-2.is) (rw c.from-at.ensures at c.if-block-ne0.false)) (rw c.from-at.ensures at (c.set_variable.ensures n (link_in c.args.link.0)))

pub returns-in-3 : goal.returns-in-3
returns-in-3 c = λ n m.
    let co = coded_in c.args.ws.now c.args.val.now c.args.cw.now n m in
    let w : BlockNo = record { 0 = c.from.result } in
    let p : ◌≡◌ {A = BlockNo} w (record { 0 = command_word co c.args.c 3 }) = ap (λ k. record { 0 = k }) (rw c.from-at.ensures at c.from.ensures) in
    flows_as {s = reads c.args.items.now c.args.atcs.now c.args.flags.now c.args.times.now} _ _ (is_if co c.args.c w p (rw c.from-at.ensures at c.in-3.is)) (rw c.from-at.ensures at (c.if_else.ensures n))

pub returns-then-block-ne0 : goal.returns-then-block-ne0
returns-then-block-ne0 c = λ n m.
    let co = coded_in c.args.ws.now c.args.val.now c.args.cw.now n m in
    flows_as _ _ (is_set_other co c.args.c (rw c.from-at.ensures at c.in-2.is) (rw c.from-at.ensures at c.if-block-ne0.true)) (flows_halt (λ cs. refl))

pub returns-in_default : goal.returns-in_default
returns-in_default c = λ n m.
    let h : 4 < get_or c.args.cw.now (4 * c.from-at.result) 0 = grind arith in
    flows_as _ _ (is_other (coded_in c.args.ws.now c.args.val.now c.args.cw.now n m) c.args.c (rw c.from-at.ensures at h)) (flows_halt (λ cs. refl))
