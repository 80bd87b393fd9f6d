-- The test of the item or its atc, or the rate of its timer. Assumes nothing.
use Rattle.std.proofs.Common.{sym, ◌∙◌}
use Rattle.shop.specs.Shapes.{sheet_of}
use Rattle.checks.specs.Calls.{save_of}
use Rattle.preview.proofs.Acquired.{acquired_by_lem}
use Rattle.preview.proofs.is_acquired.Goals as goal

pub returns-then-is_owned : goal.returns-then-is_owned
returns-then-is_owned c = λ f v.
    let o = c.if-is_owned.ensures c.args.sheet f c.args.times.now v in
    c.if-is_owned.true ∙ sym (acquired_by_lem (sheet_of c.args.attached.now c.args.sheet) (save_of c.args.items.now c.args.atcs.now f c.args.times.now v) c.args.item.0 ∙ rw (← o))

pub returns-else-is_owned : goal.returns-else-is_owned
returns-else-is_owned c = λ f v.
    let o = c.if-is_owned.ensures c.args.sheet f c.args.times.now v in
    c.is_rated.ensures
    ∙ sym (acquired_by_lem (sheet_of c.args.attached.now c.args.sheet) (save_of c.args.items.now c.args.atcs.now f c.args.times.now v) c.args.item.0 ∙ rw (← o, ← c.timer_of.ensures c.args.attached.now))
