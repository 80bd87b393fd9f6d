use Rattle.std.proofs.Common.{sym, ◌∙◌, ◌-◌}
use Rattle.model.specs.Memory.{script_of}
use Rattle.memory.specs.View.{memory_of}
use Rattle.checks.specs.Calls.{save_of}
use Rattle.expr.specs.Value.{reads}
use Rattle.runner.proofs.Rest.{step_rest}
use Rattle.lanes_model.specs.Flat.{save_in}
use Rattle.lanes.specs.Standing.{gathered_word}
use Rattle.lanes.specs.Walks.{stepped}
use Rattle.lanes.proofs.visit_standing.Goals as goal

-- what a save had in its variables at first has no part in a step; z': the variables, words, answers and counts that the call left
pub returns : goal.returns
returns c =
    λ v.
    let bs = (script_of (memory_of c.args.ws.now c.args.val.now c.args.cw.now c.args.bw.now c.args.counts)).blocks in
    let z = c.visit_block in
    let z' = z.new in
    stepped {qs = c.args.answers.now} {es = c.args.entered.now} {ps' = z'.at} {qs' = z'.answers} {es' = z'.entered} {vs = c.args.vars.now} {vs' = z'.vs}
    (λ l u. step_rest (save_in c.args.w.items c.args.w.atcs (save_of c.args.items.now c.args.atcs.now c.args.flags.now c.args.times.now v) l) bs (c.args.word - 1) u ∙ sym (step_rest (save_in c.args.w.items c.args.w.atcs (reads c.args.items.now c.args.atcs.now c.args.flags.now c.args.times.now) l) bs (c.args.word - 1) u))
    (gathered_word c.gather.ensures c.requires.2) z.ensures
