use Rattle.std.proofs.Common.{true, sym, ap, ◌∙◌, arith}
use Rattle.shop_arrays.specs.Arrays.{arrays_in, shop_from}
use Rattle.shop_arrays.specs.Slots.{slots_long}
use Rattle.parse_scan.specs.Table.{table_of, table_none}
use Rattle.parse_scan.specs.AllSlots.{none_counted, unhidden}
use Rattle.parse_visit.specs.Slots.{slots_updated}
use Rattle.parse_visit.proofs.slots_after.Goals as goal

pub returns-then-s-eq0 : goal.returns-then-s-eq0
returns-then-s-eq0 c =
    let a = c.args in
    let given = shop_from (arrays_in a.items.now a.limits.now a.codes.now a.lens.now) in
    slots_updated {shop = given} {shop' = given} {u = true} c.updated.ensures c.requires.bounds.1 (omega arith)
    (λ h rs i mean. none_counted _ (table_of a.s.item_mask a.ids.now) (table_of a.s.count_mask a.counts.now) c.requires.good_shop (slots_long _)
    (ap (λ m. table_of m a.counts.now) c.if-s-eq0.true ∙ table_none a.counts.now c.told-counts) h rs)

pub returns-then-not-hides : goal.returns-then-not-hides
returns-then-not-hides c =
    let a = c.args in
    let x = c.update_slots-ok.new in
    let given = shop_from (arrays_in a.items.now a.limits.now a.codes.now a.lens.now) in
    let filled = shop_from (arrays_in x.items x.limits x.codes x.lens) in
    slots_updated {shop = given} {shop' = filled} c.updated-then-not-hides.ensures c.requires.bounds.1 (omega arith)
    (λ h rs i mean. unhidden given a.known (table_of a.s.item_mask a.ids.now) (table_of a.s.count_mask a.counts.now) _ _ filled c.update_slots-ok.ensures (sym (c.hides.ensures a.counts.now c.told-counts) ∙ c.if-not-hides.true) h rs i)

pub returns : goal.returns
returns c =
    let a = c.args in
    let x = c.update_slots-ok-2.new in
    let p = c.parse_requirements-f.ensures in
    slots_updated {shop = shop_from (arrays_in a.items.now a.limits.now a.codes.now a.lens.now)} {shop' = shop_from (arrays_in x.items x.limits x.codes x.lens)} c.updated-2.ensures p.marked p.most
    (λ h rs i mean. c.update_slots-ok-2.ensures.by h rs i (mean _ _ p.holds))
