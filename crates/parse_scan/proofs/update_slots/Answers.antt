use Rattle.std.proofs.Common.{sym, subst, ◌∙◌, List, ℕ, ◌≤◌, arith, bit_or, ℤ, length, ◌≡◌}
use Rattle.model.specs.Limits.{slot_count}
use Rattle.shop.specs.Good.{beyond, GoodSlot, GoodShop}
use Rattle.shop_arrays.specs.Arrays.{Arrays, arrays_in, slot_at, shop_from}
use Rattle.shop_arrays.specs.Slots.{slots_long, slot_in_lem}
use Rattle.parse_scan.specs.declared.Scanned.{Scanned}
use Rattle.parse_scan.specs.Table.{table_of, table_long, next_touched, untouched_by}
use Rattle.parse_scan.specs.Slots.{Stands}
use Rattle.parse_scan.specs.AllSlots.{Halfway, half_start, half_to, half_next, half_refused, half_done}
use Rattle.parse_scan.proofs.update_slots.Goals as goal

-- up to a slot before which the merged masks tell of none
to : (first turn : Arrays) (known : ℕ) (s : Scanned) (ids counts : List ℤ) (more : List ℕ) (k at n : ℕ) → length counts ≡ slot_count → GoodShop (shop_from first)
    → Halfway (shop_from first) known (table_of s.item_mask ids) (table_of s.count_mask counts) (Stands more k) (shop_from turn) at
    → at ≤ n → n ≤ slot_count → n ≤ next_touched (bit_or s.item_mask s.count_mask) at
    → Halfway (shop_from first) known (table_of s.item_mask ids) (table_of s.count_mask counts) (Stands more k) (shop_from turn) n
to first turn known s ids counts more k at n e g h p q u =
    half_to (shop_from first) known (table_of s.item_mask ids) (table_of s.count_mask counts) (Stands more k) g (slots_long _) (shop_from turn) at n h p q
    (λ j d k. untouched_by counts e at j d (omega arith) s.item_mask s.count_mask (omega arith))

pub loop-at-init : goal.loop-at-init
loop-at-init c = half_start _ c.args.known _ _ (Stands c.args.more.now c.args.n) c.requires (slots_long _)

pub returns-then-i-ge-SLOTS : goal.returns-then-i-ge-SLOTS
returns-then-i-ge-SLOTS c =
    let a = c.args in
    let l = c.loop-at in
    let n = c.next_touched-i.ensures in
    record {
      by = half_done _ a.known _ _ (Stands a.more.now a.n) c.requires (slots_long _) (table_long _ _ c.told-ids) (table_long _ _ c.told-counts) _ slot_count (omega arith)
          (to (arrays_in a.items.now a.limits.now a.codes.now a.lens.now) (arrays_in l.items l.limits l.codes l.lens) a.known a.s a.ids.now a.counts.now a.more.now a.n l.at slot_count c.told-counts c.requires l.invariant l.invariant.low (omega arith) (omega arith));
    }

pub update_slot-requires : goal.update_slot-requires
update_slot-requires c =
    let a = c.args in
    let l = c.loop-at in
    let i = c.next_touched-i.result in
    let n = c.next_touched-i.ensures in
    let u = to (arrays_in a.items.now a.limits.now a.codes.now a.lens.now) (arrays_in l.items l.limits l.codes l.lens) a.known a.s a.ids.now a.counts.now a.more.now a.n l.at i c.told-counts c.requires l.invariant (omega arith) (omega arith) (omega arith) in
    (c.if-i-ge-SLOTS.false, subst GoodSlot (sym (u.rest i (omega arith)) ∙ slot_in_lem _ i beyond c.if-i-ge-SLOTS.false) (c.requires.each i c.if-i-ge-SLOTS.false))

pub returns-then-not-update_slot : goal.returns-then-not-update_slot
returns-then-not-update_slot c =
    let a = c.args in
    let l = c.loop-at in
    let i = c.next_touched-i.result in
    let n = c.next_touched-i.ensures in
    let x = c.update_slot.new in
    let u = to (arrays_in a.items.now a.limits.now a.codes.now a.lens.now) (arrays_in l.items l.limits l.codes l.lens) a.known a.s a.ids.now a.counts.now a.more.now a.n l.at i c.told-counts c.requires l.invariant (omega arith) (omega arith) (omega arith) in
    record { by = half_refused _ a.known _ _ (Stands a.more.now a.n) c.requires (slots_long _) _ i u c.if-i-ge-SLOTS.false _ (slot_at (arrays_in x.items x.limits x.codes x.lens) i) _ _ _ c.value_at-item.ensures c.value_at-count.ensures (sym (slot_in_lem _ i beyond c.if-i-ge-SLOTS.false)) c.update_slot.ensures.became (table_long _ _ c.told-ids) (table_long _ _ c.told-counts) _ c.if-not-update_slot.true }

pub loop-at-preserved : goal.loop-at-preserved
loop-at-preserved c =
    let a = c.args in
    let l = c.loop-at in
    let i = c.next_touched-i.result in
    let n = c.next_touched-i.ensures in
    let x = c.update_slot.new in
    let t = c.if-not-update_slot.false in
    let u = to (arrays_in a.items.now a.limits.now a.codes.now a.lens.now) (arrays_in l.items l.limits l.codes l.lens) a.known a.s a.ids.now a.counts.now a.more.now a.n l.at i c.told-counts c.requires l.invariant (omega arith) (omega arith) (omega arith) in
    half_next _ a.known _ _ (Stands a.more.now a.n) c.requires (slots_long _) _ i u c.if-i-ge-SLOTS.false _ (slot_at (arrays_in x.items x.limits x.codes x.lens) i) _ _ _ c.value_at-item.ensures c.value_at-count.ensures (sym (slot_in_lem _ i beyond c.if-i-ge-SLOTS.false)) c.update_slot.ensures.became (shop_from (arrays_in x.items x.limits x.codes x.lens)) (c.update_slot.ensures.others t) t

pub returns : goal.returns
returns c =
    let l = c.loop-at in
    record { by = half_done _ c.args.known _ _ (Stands c.args.more.now c.args.n) c.requires (slots_long _) (table_long _ _ c.told-ids) (table_long _ _ c.told-counts) _ l.at (omega (arith, c.loop-at-test.false)) l.invariant }
