-- The slot's item is not acquired, and its requirements hold. Assumes nothing.
use Rattle.std.proofs.Common.{ap, ◌∙◌}
use Rattle.model.specs.Shop.{timer_of}
use Rattle.model.specs.Meaning.{one_of, listed}
use Rattle.shop.specs.Shapes.{sheet_of}
use Rattle.preview.proofs.unique_meaning.Goals as goal

pub returns-then-r : goal.returns-then-r
returns-then-r c = λ f v.
    let ks = c.args.attached.now in
    let t = c.timer_of.ensures ks in
    let n = c.no_timer_held-alone.ensures ks c.args.atcs.now f c.args.times.now v in
    rw (← c.if-is_acquired.ensures f v, c.if-r.true)
    (c.listed-then-r.ensures
    ∙ ap (listed c.args.item.0)
    (c.one_of.ensures ∙ ap (λ k. one_of k c.no_timer_held-alone.result) t ∙ ap (one_of (timer_of (sheet_of ks c.args.sheet) c.args.item.0)) n))
