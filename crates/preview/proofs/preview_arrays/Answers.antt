-- The checks answer in their order, and then the slots are shown. Assumes nothing.
use Rattle.std.proofs.Common.{refl, true, false}
use Rattle.shop.specs.Shapes.{sheet_of}
use Rattle.shop_arrays.specs.Arrays.{arrays_in, shop_from}
use Rattle.shop_arrays.specs.Slots.{slots_long}
use Rattle.checks.specs.Calls.{save_of}
use Rattle.preview.specs.Shown.{previewed_of}
use Rattle.preview.proofs.Checks.{answered}
use Rattle.preview.proofs.preview_arrays.Goals as goal

pub returns-then-not-check_sheet : goal.returns-then-not-check_sheet
unfolding previewed_of
returns-then-not-check_sheet c =
    let a = arrays_in c.args.sold.now c.args.limits.now c.args.codes.now c.args.lens.now in
    answered (sheet_of c.args.attached.now c.args.sheet) (save_of c.args.items.now c.args.atcs.now c.args.flags.now c.args.times.now c.args.vars.now) (shop_from a) (slots_long a) _ false _ _ _ c.if-not-check_sheet.ensures refl refl refl refl

pub returns-then-not-check_arrays : goal.returns-then-not-check_arrays
unfolding previewed_of
returns-then-not-check_arrays c =
    let a = arrays_in c.args.sold.now c.args.limits.now c.args.codes.now c.args.lens.now in
    answered (sheet_of c.args.attached.now c.args.sheet) (save_of c.args.items.now c.args.atcs.now c.args.flags.now c.args.times.now c.args.vars.now) (shop_from a) (slots_long a) _ true false _ _ c.if-not-check_sheet.ensures (c.if-not-check_arrays.ensures c.args.limits.now) refl refl refl

pub returns-then-not-check_save : goal.returns-then-not-check_save
unfolding previewed_of
returns-then-not-check_save c =
    let a = arrays_in c.args.sold.now c.args.limits.now c.args.codes.now c.args.lens.now in
    answered (sheet_of c.args.attached.now c.args.sheet) (save_of c.args.items.now c.args.atcs.now c.args.flags.now c.args.times.now c.args.vars.now) (shop_from a) (slots_long a) _ true true false _ c.if-not-check_sheet.ensures (c.if-not-check_arrays.ensures c.args.limits.now) c.if-not-check_save.ensures refl refl

pub returns-then-not-flags_inside : goal.returns-then-not-flags_inside
unfolding previewed_of
returns-then-not-flags_inside c =
    let a = arrays_in c.args.sold.now c.args.limits.now c.args.codes.now c.args.lens.now in
    answered (sheet_of c.args.attached.now c.args.sheet) (save_of c.args.items.now c.args.atcs.now c.args.flags.now c.args.times.now c.args.vars.now) (shop_from a) (slots_long a) _ true true true false c.if-not-check_sheet.ensures (c.if-not-check_arrays.ensures c.args.limits.now) c.if-not-check_save.ensures c.if-not-flags_inside.ensures refl

pub returns : goal.returns
returns c =
    let a = arrays_in c.args.sold.now c.args.limits.now c.args.codes.now c.args.lens.now in
    answered (sheet_of c.args.attached.now c.args.sheet) (save_of c.args.items.now c.args.atcs.now c.args.flags.now c.args.times.now c.args.vars.now) (shop_from a) (slots_long a) _ true true true true c.if-not-check_sheet.ensures (c.if-not-check_arrays.ensures c.args.limits.now) c.if-not-check_save.ensures c.if-not-flags_inside.ensures c.meanings.ensures
