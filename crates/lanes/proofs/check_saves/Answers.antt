use Rattle.std.proofs.Common.{sym, ◌∙◌}
use Rattle.checks.specs.Calls.{save_of}
use Rattle.lanes.proofs.Saves.{saves_bad, saves_fit}
use Rattle.lanes.proofs.check_saves.Goals as goal

pub returns-then-not-lengths_ok : goal.returns-then-not-lengths_ok
returns-then-not-lengths_ok c =
    saves_bad c.args.attached.now c.args.sheet (save_of c.args.items.now c.args.atcs.now c.args.flags.now c.args.times.now c.args.vars.now) c.args.k (sym c.lengths_ok.ensures ∙ c.if-not-lengths_ok.true)

pub returns : goal.returns
returns c =
    saves_fit c.args.attached.now c.args.sheet (save_of c.args.items.now c.args.atcs.now c.args.flags.now c.args.times.now c.args.vars.now) c.shorts_known.ensures c.numbers_known.ensures c.args.k c.values_ok.result
    (sym c.lengths_ok.ensures ∙ c.if-not-lengths_ok.false) c.values_ok.ensures
