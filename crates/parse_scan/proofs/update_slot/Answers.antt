use mathlib.Core.Path.{ap}
use mir.Syntax.{w16}
use mir.Val.{SFits}
use mir.Facts.{to_z-of_z, Fits-nat_abs}
use Rattle.parse_scan.specs.Reads.{short_is}
use Rattle.parse_scan.specs.InPlace.{good_len, done_none, done_absent, done_below, done_filled}
use Rattle.model.proofs.Laws.Signed.{not_negative}
use Rattle.parse_scan.proofs.update_slot.Goals as goal

pub returns-in_default : goal.returns-in_default
returns-in_default c = let a = c.args in
    done_none a.items.now a.limits.now a.codes.now a.lens.now a.known a.i c.requires.0 c.requires.1 _ _ _ _ (ap short_is c.in_default.is)

pub hide_slot-requires : goal.hide_slot-requires
hide_slot-requires c = let a = c.args in
    ((c.requires.0, good_len a.items.now a.limits.now a.codes.now a.lens.now a.i c.requires.1), (c.told-codes, c.told-lens))

pub returns-in_default-item : goal.returns-in_default-item
returns-in_default-item c = let a = c.args in
    done_absent a.items.now a.limits.now a.codes.now a.lens.now a.known a.i c.requires.0 c.requires.1 _ _ _ _ _ (ap short_is c.in-Some.is) (ap short_is c.in_default-item.is) _ _ _ c.hide_slot.ensures

pub hide_slot-requires-then-id-lt0 : goal.hide_slot-requires-then-id-lt0
hide_slot-requires-then-id-lt0 c = let a = c.args in
    ((c.requires.0, good_len a.items.now a.limits.now a.codes.now a.lens.now a.i c.requires.1), (c.told-codes, c.told-lens))

pub returns-then-id-lt0 : goal.returns-then-id-lt0
returns-then-id-lt0 c = let a = c.args in
    let f : SFits w16 c.in-Some-item.id = record { sfits = c.in-Some-item.known_told-in-Some-item-1-own.given.0.1 } in
    done_below a.items.now a.limits.now a.codes.now a.lens.now a.known a.i c.requires.0 c.requires.1 _ _ _ _ _ (ap short_is c.in-Some.is) c.in-Some-item.id (ap short_is c.in-Some-item.is) (rw (to_z-of_z f) at c.if-id-lt0.true) _ _ _ c.hide_slot-then-id-lt0.ensures

pub overflow_cast-id : goal.overflow_cast-id
overflow_cast-id c = let k = c.in-Some-item.id in
    let f : SFits w16 c.in-Some-item.id = record { sfits = c.in-Some-item.known_told-in-Some-item-1-own.given.0.1 } in
    rw (to_z-of_z f) (not_negative k (rw (to_z-of_z f) at c.if-id-lt0.false), Fits-nat_abs {w = w16} tt f)

pub returns : goal.returns
returns c = let a = c.args in
    let fk : SFits w16 c.in-Some-item.id = record { sfits = c.in-Some-item.known_told-in-Some-item-1-own.given.0.1 } in
    let fz : SFits w16 c.in-Some.z = record { sfits = c.in-Some.known_told-1-own.given.0.1 } in
    done_filled a.items.now a.limits.now a.codes.now a.lens.now a.known a.i c.requires.0 c.requires.1 _ _ _ _ c.in-Some.z (ap short_is c.in-Some.is) c.in-Some-item.id (ap short_is c.in-Some-item.is) (rw (to_z-of_z fk) at c.if-id-lt0.false) _ _ (rw (to_z-of_z fk, to_z-of_z fz) at c.fill_slot.ensures)
