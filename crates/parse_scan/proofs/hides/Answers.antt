use mathlib.Core.Path.{sym, ap, ◌∙◌}
use mathlib.Core.Option.{none, some}
use native.Mathlib.Omega.{arith}
use lib.ListN.{get_or}
use Rattle.model.specs.Limits.{slot_count}
use Rattle.parse_scan.specs.Table.{table_of}
use Rattle.parse_scan.specs.Shown.{hides_by, shown_start, shown_to, shown_more, shown_all, hidden_at}
use Rattle.parse_scan.proofs.hides.Goals as goal

pub loop-at-init : goal.loop-at-init
loop-at-init c = shown_start _ _ c.told-ids _

pub returns-then-i-ge-SLOTS : goal.returns-then-i-ge-SLOTS
returns-then-i-ge-SLOTS c = let e = c.told-ids in
    let l = c.loop-at in
    let n = c.next_touched-i.ensures in
    shown_all _ _ e _ slot_count (shown_to _ _ e _ l.at slot_count l.invariant (omega arith) (omega (arith, c.if-i-ge-SLOTS.true))) (omega arith)

pub returns-then-hides_by : goal.returns-then-hides_by
returns-then-hides_by c = let a = c.args in
    let n = c.next_touched-i.ensures in
    hidden_at _ _ c.told-ids _ c.loop-at.at (omega (arith, c.if-i-ge-SLOTS.false))
    (λ z. sym c.if-hides_by.true ∙ c.hides_by.ensures z ∙ ap (λ o. hides_by o (some z)) (c.value_at.ensures ∙ ap (λ j. get_or (table_of a.s.item_mask a.ids.now) j none) n))

pub loop-at-smaller : goal.loop-at-smaller
loop-at-smaller c = let n = c.next_touched-i.ensures in
    omega (arith, c.if-i-ge-SLOTS.false, c.loop-at-test.true)

pub loop-at-preserved : goal.loop-at-preserved
loop-at-preserved c = let e = c.told-ids in
    let l = c.loop-at in
    let n = c.next_touched-i.ensures in
    let u = c.if-i-ge-SLOTS.false in
    shown_more _ _ e _ c.next_touched-i.result (shown_to _ _ e _ l.at c.next_touched-i.result l.invariant (omega (arith, u)) (omega arith)) u
    (λ z. sym c.if-hides_by.false ∙ c.hides_by.ensures z ∙ ap (λ o. hides_by o (some z)) c.value_at.ensures)

pub returns : goal.returns
returns c = shown_all _ _ c.told-ids _ _ c.loop-at.invariant (omega (arith, c.loop-at-test.false))
