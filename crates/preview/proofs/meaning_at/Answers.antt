-- By the slot's item and its limit. Assumes nothing.
use mir.Facts.{to_z-of_z}
use mir.Syntax.{w16}
use Rattle.model.specs.Meaning.{meaning_of}
use Rattle.shop.specs.Shapes.{sheet_of, slot_of}
use Rattle.shop_arrays.specs.Arrays.{row_at}
use Rattle.checks.specs.Calls.{save_of}
use Rattle.preview.specs.Parts.{parts_of}
use Rattle.preview.proofs.Pairs.{meaning_unique, meaning_limit}
use Rattle.preview.proofs.meaning_at.Goals as goal

pub returns-then-most-le1 : goal.returns-then-most-le1
unfolding slot_of
returns-then-most-le1 c = λ v.
    let r = rw c.row_in.ensures.0 at (c.all_hold-r.ensures c.args.times.now v) in
    let l = rw (to_z-of_z {w = w16} {z = c.args.head.limit} (record { sfits = c.struct_told-1.given.1.0.1 })) at c.limit_of-most.ensures in
    meaning_unique (sheet_of c.args.attached.now c.args.sheet) (save_of c.args.items.now c.args.atcs.now c.args.flags.now c.args.times.now v) (parts_of c.args.head (row_at c.args.codes.now c.args.i)) _ c.in-Some.is _ r _ l c.if-most-le1.true (c.unique_meaning.ensures c.args.flags.now v)

pub returns-in_default : goal.returns-in_default
unfolding meaning_of slot_of
returns-in_default c = λ v. rw c.in_default.is c.hidden.ensures

pub returns-else-most-le1 : goal.returns-else-most-le1
unfolding slot_of
returns-else-most-le1 c = λ v.
    let r = rw c.row_in.ensures.0 at (c.all_hold-r.ensures c.args.times.now v) in
    let l = rw (to_z-of_z {w = w16} {z = c.args.head.limit} (record { sfits = c.struct_told-1.given.1.0.1 })) at c.limit_of-most.ensures in
    meaning_limit (sheet_of c.args.attached.now c.args.sheet) (save_of c.args.items.now c.args.atcs.now c.args.flags.now c.args.times.now v) (parts_of c.args.head (row_at c.args.codes.now c.args.i)) _ c.in-Some.is _ r _ l c.if-most-le1.false (c.limit_meaning.ensures c.args.atcs.now c.args.flags.now c.args.times.now v)
