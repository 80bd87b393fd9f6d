-- The checks answer in their order. Assumes nothing.
use Rattle.std.proofs.Common.{sym}
use Rattle.shop.specs.Shapes.{sheet_of}
use Rattle.shop_arrays.specs.Arrays.{arrays_in}
use Rattle.signed_check.specs.Shops.{refused_sheet, refused_shop}
use Rattle.signed_check.proofs.check_shop.Goals as goal

pub returns-then-not-check_sheet : goal.returns-then-not-check_sheet
returns-then-not-check_sheet c =
    refused_sheet (sheet_of c.args.attached.now c.args.sheet) (arrays_in c.args.items.now c.args.limits.now c.args.codes.now c.args.lens.now) (sym c.if-not-check_sheet.ensures)

pub returns-then-not-check_arrays : goal.returns-then-not-check_arrays
returns-then-not-check_arrays c =
    refused_shop (sheet_of c.args.attached.now c.args.sheet) (arrays_in c.args.items.now c.args.limits.now c.args.codes.now c.args.lens.now) (sym c.if-not-check_sheet.ensures) (sym (c.if-not-check_arrays.ensures c.args.limits.now))
