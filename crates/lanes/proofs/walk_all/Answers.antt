use Rattle.std.proofs.Common.{[], arith}
use Rattle.model.specs.Memory.{script_of}
use Rattle.memory.specs.View.{memory_of}
use Rattle.checks.specs.Calls.{save_of}
use Rattle.lanes.specs.Walks.{stepped_counts, lying_still, script_length, lanes_walked}
use Rattle.lanes.proofs.walk_all.Goals as goal

pub walk_down-read-requires : goal.walk_down-read-requires
walk_down-read-requires c = (c.requires.0, lying_still c.requires.1 (c.visit_standing.ensures []).long, stepped_counts c.begin.ensures (c.visit_standing.ensures []))

pub overflow_add-result : goal.overflow_add-result
overflow_add-result c = omega (arith, (c.walk_down-read.ensures []).few, c.requires.0.few)

-- v' and d': the variables, words, answers and counts that the calls left
pub returns : goal.returns
returns c =
    let m = memory_of c.args.ws.now c.args.val.now c.args.cw.now c.args.bw.now c.args.counts in
    let v = c.visit_standing in
    let v' = v.new in
    let d = c.walk_down-read in
    let d' = d.new in
    lanes_walked {bs = (script_of m).blocks} {f = save_of c.args.items.now c.args.atcs.now c.args.flags.now c.args.times.now c.args.vars.now} {ps₂ = v'.at} {ps₃ = d'.at} {qs = c.args.answers.now} {qs₂ = v'.answers} {qs₃ = d'.answers} {es₂ = v'.entered} {es' = d'.entered} {vs₂ = v'.vars} {vs' = d'.vars}
    c.begin.ensures (v.ensures c.args.vars.now) (script_length m) (d.ensures c.args.vars.now) c.finish.ensures
