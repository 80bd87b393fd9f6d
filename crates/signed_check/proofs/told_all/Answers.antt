-- The slots are told one by one. Assumes nothing.
use Rattle.std.proofs.Common.{arith, ◌≡◌}
use Rattle.model.specs.Limits.{slot_count}
use Rattle.shop.specs.Shapes.{sheet_of}
use Rattle.shop_arrays.specs.Arrays.{arrays_in}
use Rattle.signed_check.specs.Shops.{slot_passed, told_shop}
use Rattle.signed_check.proofs.told_all.Goals as goal

pub finding_at-requires : goal.finding_at-requires
finding_at-requires c =
    (c.loop-i-test.true, c.requires.0, slot_passed (sheet_of c.args.attached.now c.args.sheet) (arrays_in c.args.items.now c.args.limits.now c.args.codes.now c.args.lens.now) c.requires.1 c.loop-i.i c.loop-i-test.true)

pub returns : goal.returns
returns c =
    let i : c.loop-i.i ≡ slot_count = omega arith in
    told_shop (sheet_of c.args.attached.now c.args.sheet) (arrays_in c.args.items.now c.args.limits.now c.args.codes.now c.args.lens.now) c.requires.0 c.requires.1 c.loop-i.out (rw i at c.loop-i.invariant)
